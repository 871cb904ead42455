use Rattle.std.proofs.Common.{◌≡◌, List, ℕ, pos, ◌++◌, ap, arith}
use borrow.Author.Differences.{ints}
use Rattle.ember_wide.specs.Whole.{value_of}
use Rattle.mesh_number.proofs.Appended.{on_ok_same}
use Rattle.mesh_texts.proofs.ShownSteps.{step_shown}
use Rattle.mesh_texts.proofs.texts.put_step.Goals as goal

pub returns : goal.returns
returns c =
    let s = c.args.step.now in
    let value : value_of c.product-numerator.result ≡ pos s.numerator = omega (arith, ints, c.product-numerator.ensures, c.from.ensures) in
    on_ok_same _ _ _ c.put_decimal.result (rw c.from-2.ensures at c.put_decimal.ensures)
    (ap (λ (xs : List ℕ). c.args.text.now.items ++ xs)
    (step_shown c.product-numerator.result s c.requires (omega arith) value))
