-- Clear points: off the closed face, and no axis ray meets the boundary
use Rattle.std.specs.Prelude.{◌≡◌, ℤ, pos, ◌<ℤ◌, ◌≤ℤ◌, true, false, List}
use Rattle.std.specs.List.{AllByRecursion}
use Rattle.ember_model.specs.declared.tri.Tri.{Tri}
use Rattle.ember_model.specs.declared.point.Spot.{Spot}
use Rattle.ember_model.specs.declared.point.Axis.{Axis}
use Rattle.ember_model.specs.declared.face.Face.{Face}
use Rattle.ember_model.specs.Points.{scaled, moved}
use Rattle.ember_model.specs.Faces.{is_inside, is_in_closed, is_flat, face_of}

-- p isn't in the closed face, and each point of the rays from p along +x, +y and +z that is in the closed face
-- is inside it. Such a point is p moved by s / (m * w) along the axis, with m > 0 and s ≥ 0.
pub record IsClear (f : Face) (p : Spot) : Type 0 where
  pub outside : is_in_closed f p ≡ false
  pub rays : (a : Axis) (m s : ℤ) → pos 0 <ℤ m → pos 0 ≤ℤ s → is_in_closed f (moved (scaled m p) a s) ≡ true →
      is_inside f (moved (scaled m p) a s) ≡ true

-- a flat triangle has no face
abbrev pub IsClearOf : Tri → Spot → Type 0
IsClearOf t p = is_flat t ≡ false → IsClear (face_of t) p

-- the point is clear of all faces
abbrev pub AreClear : List Face → Spot → Type 0
AreClear fs p = AllByRecursion (λ f. IsClear f p) fs
