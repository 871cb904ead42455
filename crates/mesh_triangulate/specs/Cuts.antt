-- What becomes of the part inside a boundary
use Rattle.std.specs.Prelude.{◌≡◌, ◌≢◌, ℕ, List, All, Contains, ⊤}
use Rattle.mesh_certificate.specs.declared.certificate.segment.Segment.{Segment}
use Rattle.mesh_triangulate.specs.declared.cut.Triangulation.{Triangulation}
use Rattle.mesh_triangulate.specs.declared.cut.Triangulation.TheVariants.{Triangles, Touches, NotFound}
use Rattle.mesh_triangulate.specs.declared.cut.Touch.{Touch}
use Rattle.mesh_triangulate.specs.Corners.{IsCornerOf, HasCornersOf}

-- a segment on the line neither starts nor ends at the corner
abbrev pub IsInsideLine : List Segment → ℕ → ℕ → Type 0
IsInsideLine ss corner line =
    (s : Segment) × Contains ss s × (s.line ≡ line) × (s.start ≢ corner) × (s.end ≢ corner)

-- a corner of the boundary, on a line where the boundary has a segment that neither starts nor ends there
abbrev pub IsTouchOf : List Segment → Touch → Type 0
IsTouchOf ss t = IsCornerOf ss t.corner × IsInsideLine ss t.corner t.line

-- triangles have corners of the boundary, and touches are touches of it
abbrev pub IsCutOf : List Segment → Triangulation → Type 0
IsCutOf ss (Triangles ts) = All (HasCornersOf ss) ts.items
IsCutOf ss (Touches ts) = All (IsTouchOf ss) ts.items
IsCutOf ss NotFound = ⊤
