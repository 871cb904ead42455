-- How many items an array of JSON has
use Rattle.std.proofs.Common.{◌≡◌, ℕ, suc, List, [], ◌∷◌, length, refl, ap}
use Rattle.serde_json.specs.declared.value.Value.{Value}
use Rattle.serde_json.specs.View.{items_view}
use Rattle.mesh_gltf.specs.Nodes.{count_of}

-- as many as its list
pub items_counted : (vs : List Value) → count_of (items_view vs) ≡ length vs
items_counted [] = refl
items_counted (v ∷ vs) = ap (λ (n : ℕ). suc n) (items_counted vs)
