-- Neighbours: triangles that no other one touches, with an edge that no other one has
use Rattle.std.specs.Prelude.{◌≡◌, ◌≢◌, ◌⊎◌, ℕ, ℤ, false, List, Some, slice_get}
use Rattle.ember_model.specs.declared.point.Corner.{Corner}
use Rattle.ember_model.specs.declared.tri.Tri.{Tri}
use Rattle.ember_model.specs.declared.face.Face.{Face}
use Rattle.ember_model.specs.Faces.{is_flat, face_of}
use Rattle.ember_model.specs.Sides.{IsSides}
use Rattle.ember_alone.specs.Touch.{HasCorner, IsAlone}
use Rattle.ember_alone.specs.UniformSides.{IsPart}
use Rattle.ember_alone.specs.Whole.{behind, in_front}

-- an edge of the triangle leads from u to v
abbrev pub HasEdge : Tri → Corner → Corner → Type 0
HasEdge t u v = ((u ≡ t.a) × (v ≡ t.b)) ⊎ (((u ≡ t.b) × (v ≡ t.c)) ⊎ ((u ≡ t.c) × (v ≡ t.a)))

-- t and r, with the indices i and j, are alone. An edge leads from u to v in t and back in r, and no other triangle
-- that isn't flat has both corners
pub record AreNeighbours (ts : List Tri) (i j : ℕ) (t r : Tri) : Type 0 where
  pub different : j ≢ i
  pub here : slice_get ts i ≡ Some t
  pub there : slice_get ts j ≡ Some r
  pub full : is_flat t ≡ false
  pub full_there : is_flat r ≡ false
  pub alone : IsAlone ts i
  pub alone_there : IsAlone ts j
  pub u : Corner
  pub v : Corner
  pub edge : HasEdge t u v
  pub back : HasEdge r v u
  pub only : (k : ℕ) (s : Tri) → k ≢ i → k ≢ j → slice_get ts k ≡ Some s → is_flat s ≡ false →
      HasCorner s u → HasCorner s v → ⊥

-- neighbours have equal winding numbers behind them, and equal ones in front
abbrev pub NeighboursAgree : List Tri → Type 0
NeighboursAgree ts =
    (i j : ℕ) (t r : Tri) (f g : Face) (before after before' after' : List ℤ) → AreNeighbours ts i j t r →
    IsPart (face_of t) f → IsPart (face_of r) g → IsSides ts f before after → IsSides ts g before' after' →
    (behind f before after ≡ behind g before' after') × (in_front f before after ≡ in_front g before' after')
