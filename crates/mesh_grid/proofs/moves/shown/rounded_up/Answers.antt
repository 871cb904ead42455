use Rattle.std.proofs.Common.{◌≡◌, ◌≤◌, ℕ, ◌+◌, ◌-◌, ◌*◌, ◌^◌, refl, ◌∙◌, mul-le-mul, arith}
use Rattle.std.proofs.Math.Nat.{pow-le-pow_right, div-le_self}
use Rattle.mesh_grid.proofs.moves.shown.rounded_up.Goals as goal

raised_small : (root power places : ℕ) → root ≤ 2 ^ 64 → places ≤ 12 → power ≡ 10 ^ places → root * power ≤ 2 ^ 64 * 10 ^ 12
raised_small root power places small few e =
    let most : 10 ^ places ≤ 10 ^ 12 = pow-le-pow_right {n = 10} (omega arith) {i = places} {j = 12} few in
    let less : power ≤ 10 ^ 12 = rw e most in
    mul-le-mul small less

pub overflow_mul-raised : goal.overflow_mul-raised
overflow_mul-raised c =
    let most = raised_small c.args.root c.from.result c.args.places c.requires.root c.requires.places (c.from.ensures ∙ c.pow.ensures) in
    omega (arith, most)

pub overflow_add-result : goal.overflow_add-result
overflow_add-result c =
    let most = raised_small c.args.root c.from.result c.args.places c.requires.root c.requires.places (c.from.ensures ∙ c.pow.ensures) in
    omega (arith, most, c.requires.small)

pub returns-clause-value : goal.returns-clause-value
returns-clause-value c = rw (c.from.ensures, c.pow.ensures) refl

pub returns-clause-small : goal.returns-clause-small
returns-clause-small c =
    let most = raised_small c.args.root c.from.result c.args.places c.requires.root c.requires.places (c.from.ensures ∙ c.pow.ensures) in
    let whole = div-le_self (c.args.root * c.from.result + (c.args.under - 1)) c.args.under in
    omega (arith, most, whole, c.requires.small)
