-- An index, written and read again
use Rattle.std.proofs.Common.{◌≡◌, ℕ, ◌<◌, ◌≤◌, ◌^◌, true, List, Some, None, ap, ◌∙◌, arith, decimal, ltb}
use Rattle.std.specs.Prelude.{if◌then◌else◌}
use Rattle.std.proofs.lemmas.Bool.Decides.{nat_tests}
use Rattle.mesh_number.specs.Number.Naturals.{number_of, below}
use Rattle.mesh_write.proofs.Digits.{number_of_decimal}

pub index_ok : (v k : ℕ) (text : List ℕ) → v ≤ 2 ^ 64 → k < v → text ≡ decimal k → below v (number_of text) ≡ Some k
index_ok v k text few small e =
    let within : ltb k v ≡ true = grind (arith, nat_tests) in
    ap (λ (l : List ℕ). below v (number_of l)) e ∙ ap (below v) (number_of_decimal k (omega (arith, few, small))) ∙ ap (λ b. if b then Some k else None) within
