use Rattle.std.proofs.Common.{◌≡◌, false, List, ℕ, pos, ◌++◌, ap, arith}
use Rattle.ember_wide.specs.Whole.{size_of}
use Rattle.mesh_number.proofs.Appended.{on_ok_same}
use Rattle.mesh_texts.proofs.ShownSteps.{length_fits, length_shown}
use Rattle.mesh_texts.proofs.texts.put_length.Goals as goal

pub put_decimal-requires-clause-fits : goal.put_decimal-requires-clause-fits
put_decimal-requires-clause-fits c =
    let size : size_of c.product-size.result ≡ c.args.extent.now.trillionths = omega (arith, c.product-size.ensures) in
    length_fits (record { negative = false; size = c.product-size.result }) c.args.extent.now size

pub returns : goal.returns
returns c =
    let size : size_of c.product-size.result ≡ c.args.extent.now.trillionths = omega (arith, c.product-size.ensures) in
    on_ok_same _ _ _ c.put_decimal.result c.put_decimal.ensures
    (ap (λ (xs : List ℕ). c.args.text.now.items ++ xs)
    (length_shown (record { negative = false; size = c.product-size.result }) c.args.extent.now (ap pos size)))
