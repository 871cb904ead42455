use Rattle.std.proofs.Common.{rules, arith, ◌≡◌, ◌+◌, ◌∙◌, ℕ, List, Some, ap}
use Rattle.std.proofs.lemmas.Grind.{common_steps}
use Rattle.std.specs.Prelude.{Option}
use Rattle.mesh_number.specs.Number.Fractions.{Fraction}
use Rattle.mesh_number.specs.Number.Floats.{binary32_value}
use Rattle.mesh_read.specs.Stl.Binary.{number_at, finite_point, point_at}
use Rattle.mesh_gltf.proofs.bytes.read_point.Goals as goal

pub read_number-requires : goal.read_number-requires
read_number-requires c = first_of (search rules, grind (arith, common_steps))

pub returns-in_err-x : goal.returns-in_err-x
unfolding point_at
returns-in_err-x c = first_of (search rules, grind (arith, common_steps))

pub overflow_add-at : goal.overflow_add-at
overflow_add-at c = first_of (search rules, grind (arith, common_steps))

pub read_number-requires-2 : goal.read_number-requires-2
read_number-requires-2 c = first_of (search rules, grind (arith, common_steps))

pub returns-in_err-y : goal.returns-in_err-y
unfolding point_at
returns-in_err-y c = first_of (search rules, grind (arith, common_steps))

pub overflow_add-at-2 : goal.overflow_add-at-2
overflow_add-at-2 c = first_of (search rules, grind (arith, common_steps))

pub read_number-requires-3 : goal.read_number-requires-3
read_number-requires-3 c = first_of (search rules, grind (arith, common_steps))

pub returns-in_err-z : goal.returns-in_err-z
unfolding point_at
returns-in_err-z c = first_of (search rules, grind (arith, common_steps))

-- three numbers of the file, each finite
point_read : (bytes : List ℕ) (at k m n : ℕ) (x y z : Fraction) → k ≡ number_at bytes at → m ≡ number_at bytes (at + 4) → n ≡ number_at bytes (at + 8)
    → Some x ≡ binary32_value k → Some y ≡ binary32_value m → Some z ≡ binary32_value n → Some (record { x = x; y = y; z = z }) ≡ point_at bytes at
unfolding point_at
point_read bytes at k m n x y z ek em en ex ey ez =
    ap (λ (o : Option Fraction). finite_point o (Some y) (Some z)) (ex ∙ ap (λ (i : ℕ). binary32_value i) ek)
    ∙ ap (λ (o : Option Fraction). finite_point (binary32_value (number_at bytes at)) o (Some z)) (ey ∙ ap (λ (i : ℕ). binary32_value i) em)
    ∙ ap (λ (o : Option Fraction). finite_point (binary32_value (number_at bytes at))
    (binary32_value (number_at bytes (at + 4))) o) (ez ∙ ap (λ (i : ℕ). binary32_value i) en)

pub returns : goal.returns
returns c =
    point_read c.args.bytes.now c.args.at c.read_number.result c.read_number-2.result c.read_number-3.result _ _ _
    c.read_number.ensures c.read_number-2.ensures c.read_number-3.ensures c.in_ok-x.ensures c.in_ok-y.ensures
    c.in_ok-z.ensures
