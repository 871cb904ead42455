-- The reference point of a box, and which scenes fit a box, its near triangles and a vector
use Rattle.std.specs.Prelude.{◌≡◌, ℕ, ◌^◌, ℤ, pos, List}
use Rattle.ember_algebra.specs.Vector.{Vector}
use Rattle.ember_model.specs.declared.tri.Tri.{Tri}
use Rattle.ember_model.specs.declared.point.Spot.{Spot}
use Rattle.ember_model.specs.declared.point.Axis.TheVariants.{X}
use Rattle.ember_model.specs.Points.{offset_by}
use Rattle.ember_model.specs.Limits.{most_meshes}
use Rattle.ember_model.specs.Meshes.{vector, IsScene}
use Rattle.ember_width.specs.Scenes.{IsSceneWithin}
use Rattle.ember_box.specs.Boxes.{Cell}
use Rattle.ember_box.specs.Near.{spot_of_vector, near}

-- ---- beside the least corner of a box in steps, by the shifts 1/f, 1/f^2 and 1/f^3
-- lo + (1/f, 1/f^2, 1/f^3), with the weight f^3
abbrev pub reference_beside : ℕ → Vector → Spot
reference_beside f lo = offset_by (spot_of_vector lo) (pos f)

-- the winding numbers at the reference point of a box
abbrev pub vector_beside : ℕ → List Tri → Cell → List ℤ
vector_beside f ts c = vector X ts (reference_beside f c.lo)

-- a scene within m whose triangles near the box are these, in order, and whose winding numbers at the reference point
-- are these
pub record FitsWithin (m f : ℕ) (ts : List Tri) (ns : List Tri) (c : Cell) (counts : List ℤ) : Type 0 where
  pub scene : IsSceneWithin m ts most_meshes
  pub near : near ts c ≡ ns
  pub at : vector_beside f ts c ≡ counts

-- ---- on the narrow grid, where f is 2^27 and a unit is one step
-- lo + (2^-27, 2^-54, 2^-81), with the weight 2^81
abbrev pub reference_at : Vector → Spot
reference_at lo = reference_beside (2 ^ 27) lo

-- the reference point of a box
abbrev pub reference : Cell → Spot
reference c = reference_at c.lo

-- the winding numbers there
abbrev pub vector_at : List Tri → Cell → List ℤ
vector_at ts c = vector X ts (reference c)

-- a scene whose triangles near the box are these, in order, and whose winding numbers at the reference point are these
pub record Fits (ts : List Tri) (ns : List Tri) (c : Cell) (counts : List ℤ) : Type 0 where
  pub scene : IsScene ts 64
  pub near : near ts c ≡ ns
  pub at : vector_at ts c ≡ counts
