-- Triangles near a box, and counts that leave room for crossings with them
use Rattle.std.specs.Prelude.{◌≡◌, ℕ, ◌+◌, ◌*◌, ℤ, List, [], ◌∷◌, All, map}
use Rattle.ember_algebra.specs.Size.{Small}
use Rattle.ember_algebra.specs.Sign.{sgn}
use Rattle.ember_model.specs.declared.tri.Tri.{Tri}
use Rattle.ember_model.specs.Planes.{value_at}
use Rattle.ember_width.specs.declared.width.Width.{Ghosts}
use Rattle.ember_box.specs.Boxes.{Cell}
use Rattle.ember_ref.specs.References.{reference_of_list}
use Rattle.ember_trace.specs.declared.near_triangle.NearTriangle.{NearTriangle}
use Rattle.ember_trace.specs.Lines.{first_lines_of}

-- the triangle alone
abbrev pub tri_of : {W M : Type 0} {G : Ghosts W M} → NearTriangle W M G → Tri
tri_of n = n.tri

-- the coordinates of the least corner of a box
abbrev pub least_of : Cell → List ℤ
least_of c = c.lo.x ∷ c.lo.y ∷ c.lo.z ∷ []

-- ---- near a box in steps, whose reference point is beside its least corner by shifts of 1/f
-- the near triangle is kept with what it has of the box's reference point: the side of its plane on which the point
-- lies, and the lines through the point that run through it
pub record HasReferenceBeside {W M : Type 0} {G : Ghosts W M} (f : ℕ) (c : Cell) (n : NearTriangle W M G) : Type 0 where
  pub side : n.reference_side ≡ sgn (value_at n.support (reference_of_list f (least_of c)))
  pub lines : n.first_lines ≡ first_lines_of f (least_of c) n.tri

-- the near triangles of the box that are made of these triangles, in order
pub record AreNearTrianglesBeside {W M : Type 0} {G : Ghosts W M} (f : ℕ) (ts : List Tri) (c : Cell)
    (ns : List (NearTriangle W M G)) : Type 0 where
  pub tris : map tri_of ns ≡ ts
  pub reference_sides : All (HasReferenceBeside f c) ns

-- ---- counts
-- counts of a box are at most 36 * 262144 in size: a crossing with each of at most 262144 triangles of a scene for
-- each of at most 36 halvings. This bound is wider than it has to be: they are winding numbers at a point, and a ray
-- from there crosses each triangle at most once
abbrev pub AreBoxCounts : List ℤ → Type 0
AreBoxCounts counts = All (Small 9437184) counts

-- counts of at most m in size become counts of at most m + 3 * number
abbrev pub AreWithinBound : ℕ → List ℤ → List ℤ → Type 0
AreWithinBound number old new = (m : ℕ) → All (Small m) old → All (Small (m + 3 * number)) new

-- counts beside a region are at most 39 * 262144 in size: the three segments of a path add at most three crossings
-- with each triangle to the counts of the box
abbrev pub AreSideCounts : List ℤ → Type 0
AreSideCounts counts = All (Small 10223616) counts
