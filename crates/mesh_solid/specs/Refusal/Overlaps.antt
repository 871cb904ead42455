-- Faces of one plane that overlap
use Rattle.std.specs.Prelude.{◌≡◌, ◌≢◌, ℕ, Bool, true, false, not, ◌||◌, List, Some, slice_get}
use Rattle.std.specs.List.{list_all, list_any}
use Rattle.ember_algebra.specs.Sign.{is_negative}
use Rattle.ember_model.specs.declared.plane.Plane.{Plane}
use Rattle.ember_model.specs.declared.point.Spot.{Spot}
use Rattle.ember_meaning.specs.Closed.Chains.{face_from}
use Rattle.ember_model.specs.FaceFiles.{WrittenFace}
use Rattle.ember_model.specs.Faces.{is_inside}
use Rattle.ember_model.specs.Planes.{value_at}
use Rattle.mesh_certificate.specs.Key.PlaneKeys.{IsSameOriented}
use Rattle.mesh_solid.specs.Outline.Rounds.{IsRound}

-- no corner of the face is behind the plane
abbrev pub is_beyond : Plane → WrittenFace → Bool
is_beyond p w = list_all (λ e. not (is_negative (value_at p e.start))) w.edges

-- an edge of the first face has all of the second one on its outer side or on it
abbrev pub has_outer : WrittenFace → WrittenFace → Bool
has_outer v w = list_any (λ e. is_beyond e.plane w) v.edges

-- an edge of one of the two has all of the other one on its outer side or on it. Two convex faces of a plane are apart
-- so exactly if they have no inside point in common, by the theorem of the separating axis; one half is a law
abbrev pub are_apart : WrittenFace → WrittenFace → Bool
are_apart v w = has_outer v w || has_outer w v

-- the edges of the face lead around it, and p is an inside point
pub record IsRoundAbout (v : WrittenFace) (p : Spot) : Type 0 where
  pub round : IsRound v
  pub inside : is_inside (face_from v) p ≡ true

-- the faces i and j lie in one plane with one front, and aren't apart
pub record Overlap (ws : List WrittenFace) (i j : ℕ) : Type 0 where
  pub two : i ≢ j
  pub first : WrittenFace
  pub second : WrittenFace
  pub first_is : slice_get ws i ≡ Some first
  pub second_is : slice_get ws j ≡ Some second
  pub plane : IsSameOriented first.support second.support
  pub not_apart : are_apart first second ≡ false

-- two of the faces overlap
abbrev pub HaveOverlap : List WrittenFace → Type 0
HaveOverlap ws = (i : ℕ) × (j : ℕ) × Overlap ws i j
