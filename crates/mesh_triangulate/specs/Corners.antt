-- The corners of a boundary
use Rattle.std.specs.Prelude.{◌≡◌, ◌⊎◌, ℕ, List, All, Contains}
use Rattle.mesh_certificate.specs.declared.certificate.segment.Segment.{Segment}

-- a segment starts or ends at the corner
abbrev pub IsCornerOf : List Segment → ℕ → Type 0
IsCornerOf ss corner = (s : Segment) × Contains ss s × ((s.start ≡ corner) ⊎ (s.end ≡ corner))

-- each corner of the triangle is one of the boundary
abbrev pub HasCornersOf : List Segment → List ℕ → Type 0
HasCornersOf ss triangle = All (IsCornerOf ss) triangle

-- four corners of the boundary
pub record AreCornersOf (ss : List Segment) (first second third fourth : ℕ) : Type 0 where
  pub a : IsCornerOf ss first
  pub b : IsCornerOf ss second
  pub c : IsCornerOf ss third
  pub d : IsCornerOf ss fourth
