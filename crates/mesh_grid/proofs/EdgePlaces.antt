-- The first triangles, none of which has an edge
use Rattle.std.proofs.Common.{◌≡◌, ◌<◌, ◌≤◌, ℕ, ◌+◌, Bool, false, List, length, take, get_or, sym, subst, ◌∙◌}
use Rattle.std.specs.List.{All}
use Rattle.std.proofs.lemmas.List.{take_all}
use Rattle.std.proofs.lemmas.List.Elements.{All-more}
use Rattle.ember_model.specs.declared.tri.Tri.{Tri}
use Rattle.ember_model.specs.Meshes.{Edge}
use Rattle.mesh_grid.specs.Grid.Places.{has_edge}

-- no triangle of the list has the edge
abbrev pub NoneHas : Edge → List Tri → Type 0
NoneHas e ts = All (λ t. has_edge e t ≡ false) ts

-- one triangle more
pub none_has_more : (e : Edge) (ts : List Tri) (i : ℕ) (d : Tri) (b : Bool) → i < length ts → NoneHas e (take i ts) →
    b ≡ has_edge e (get_or ts i d) → b ≡ false → NoneHas e (take (i + 1) ts)
none_has_more e ts i d b l h p q = All-more (λ t. has_edge e t ≡ false) ts i d l h (sym p ∙ q)

-- all triangles
pub none_has_all : (e : Edge) (ts : List Tri) (i : ℕ) → length ts ≤ i → NoneHas e (take i ts) → NoneHas e ts
none_has_all e ts i l h = subst (NoneHas e) (take_all i ts l) h
