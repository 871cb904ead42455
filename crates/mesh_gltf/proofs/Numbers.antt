-- Numbers that were wanted, and all have come
use Rattle.std.proofs.Common.{◌≡◌, ℕ, suc, false, List, [], ◌∷◌, length, refl, arith}
use Rattle.std.specs.Prelude.{Float, ◌==◌}
use Rattle.std.proofs.lemmas.Bool.Decides.{nat_tests}
use Rattle.serde_json.specs.declared.value.Value.{Value}
use Rattle.serde_json.specs.View.{items_view}
use Rattle.mesh_gltf.specs.Nodes.{are_numbers}

more_left : (n : ℕ) → false ≡ (suc n == 0)
more_left n = grind (arith, nat_tests)

-- none is left that isn't wanted
pub none_wanted : (wanted : List Float) (rest : List Value) → length wanted ≡ 0 → are_numbers wanted (items_view rest) ≡ (length rest == 0)
none_wanted [] [] none = refl
none_wanted [] (v ∷ vs) none = more_left (length vs)
none_wanted (n ∷ ns) rest none = absurd (omega arith)
