-- Items that aren't three
use Rattle.std.proofs.Common.{◌≡◌, ◌<◌, List, [], ◌∷◌, length, None, refl, arith}
use Rattle.serde_json.specs.declared.value.Value.{Value}
use Rattle.serde_json.specs.View.{items_view}
use Rattle.mesh_scene.specs.SceneFile.Scenes.{offset_of}

pub few_items : (vs : List Value) → length vs < 3 → None ≡ offset_of (items_view vs)
few_items [] few = refl
few_items (x ∷ []) few = refl
few_items (x ∷ y ∷ []) few = refl
few_items (x ∷ y ∷ z ∷ vs) few = absurd (omega arith)

pub many_items : (vs : List Value) → 3 < length vs → None ≡ offset_of (items_view vs)
many_items [] many = absurd (omega arith)
many_items (x ∷ []) many = absurd (omega arith)
many_items (x ∷ y ∷ []) many = absurd (omega arith)
many_items (x ∷ y ∷ z ∷ []) many = absurd (omega arith)
many_items (x ∷ y ∷ z ∷ w ∷ vs) many = refl
