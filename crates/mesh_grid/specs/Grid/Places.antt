-- The place of an edge
use Rattle.std.specs.Prelude.{◌≡◌, ℕ, Bool, true, false, ◌||◌, List, take, All, Some, slice_get}
use Rattle.ember_model.specs.declared.tri.Tri.{Tri}
use Rattle.ember_model.specs.Meshes.{Edge, same_edge}

-- one of the triangle's directed edges is this one
abbrev pub has_edge : Edge → Tri → Bool
has_edge e t =
    same_edge e (record { from = t.a; to = t.b }) ||
    (same_edge e (record { from = t.b; to = t.c }) || same_edge e (record { from = t.c; to = t.a }))

-- the place of the first triangle with this edge
pub record IsPlaceOf (e : Edge) (ts : List Tri) (places : List ℕ) (place : ℕ) : Type 0 where
  pub index : ℕ
  pub tri : Tri
  pub found : slice_get ts index ≡ Some tri
  pub edge : has_edge e tri ≡ true
  pub place_there : slice_get places index ≡ Some place
  pub first : All (λ t. has_edge e t ≡ false) (take index ts)
