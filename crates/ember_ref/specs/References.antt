-- Reference points given by a box's least corner, and the winding numbers shifted to that of a half
use Rattle.std.specs.Prelude.{◌≡◌, ℕ, ◌^◌, ℤ, pos, List, slice_index_or}
use Rattle.ember_algebra.specs.Vector.{Vector}
use Rattle.ember_algebra.specs.Size.{Small}
use Rattle.ember_algebra.specs.declared.Sign.{Sign}
use Rattle.ember_algebra.specs.declared.Sign.TheVariants.{Neg, Zero, Pos}
use Rattle.ember_model.specs.declared.point.Spot.{Spot}
use Rattle.ember_model.specs.declared.point.Axis.{Axis}
use Rattle.ember_model.specs.declared.plane.Plane.{Plane}
use Rattle.ember_model.specs.declared.tri.Tri.{Tri}
use Rattle.ember_law.specs.Counts.{added, leg_vector}
use Rattle.ember_box.specs.Boxes.{Cell, right_half}
use Rattle.ember_box.specs.Reference.{reference_beside, vector_beside, FitsWithin, vector_at, Fits}

-- the vector of three coordinates that are listed in the order of the axes
abbrev pub vector_of_list : List ℤ → Vector
vector_of_list cs = record {
  x = slice_index_or cs 0 (pos 0);
  y = slice_index_or cs 1 (pos 0);
  z = slice_index_or cs 2 (pos 0);
}

-- the coordinates of a box's corner are at most m in size
pub record IsBoxCornerWithin (m : ℕ) (v : Vector) : Type 0 where
  pub x : Small m v.x
  pub y : Small m v.y
  pub z : Small m v.z

-- where a unit is one step they are at most 2048
abbrev pub IsBoxCorner : Vector → Type 0
IsBoxCorner v = IsBoxCornerWithin 2048 v

-- the reference point of a box in steps with this least corner, by the shifts 1/f, 1/f^2 and 1/f^3
unfoldable pub reference_of_list : ℕ → List ℤ → Spot
reference_of_list f lo = reference_beside f (vector_of_list lo)

-- on the narrow grid
abbrev pub reference_at_list : List ℤ → Spot
reference_at_list lo = reference_of_list (2 ^ 27) lo

-- the first of two signs that isn't zero
abbrev pub or_sign : Sign → Sign → Sign
or_sign Neg s = Neg
or_sign Zero s = s
or_sign Pos s = Pos

-- each entry of the normal is at most m in size
pub record HasNormalWithin (m : ℕ) (p : Plane) : Type 0 where
  pub a : Small m p.a
  pub b : Small m p.b
  pub c : Small m p.c

-- ---- of a box in steps
-- the counts at the reference point of the right half: those at the box's point, plus the signed crossings of the
-- segment from the half's point back to the box's
abbrev pub counts_beside : ℕ → List Tri → Cell → Axis → List ℤ → List ℤ
counts_beside f near c k counts =
    added counts (leg_vector near (reference_beside f (right_half c k).lo) (reference_beside f c.lo))

-- in each scene within m that fits, the vector at the reference point of the right half is the new one
abbrev pub ShiftsAllWithin : ℕ → ℕ → List Tri → Cell → Axis → List ℤ → List ℤ → Type 0
ShiftsAllWithin m f near c k old new =
    (scene : List Tri) → FitsWithin m f scene near c old → vector_beside f scene (right_half c k) ≡ new

-- ---- on the narrow grid
abbrev pub counts_at_right_half : List Tri → Cell → Axis → List ℤ → List ℤ
counts_at_right_half near c k counts = counts_beside (2 ^ 27) near c k counts

-- in each scene that fits, the vector at the reference point of the right half is the new one
abbrev pub ShiftsAll : List Tri → Cell → Axis → List ℤ → List ℤ → Type 0
ShiftsAll near c k old new = (scene : List Tri) → Fits scene near c old → vector_at scene (right_half c k) ≡ new
