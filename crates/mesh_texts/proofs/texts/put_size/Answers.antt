use Rattle.std.proofs.Common.{◌≡◌, ◌^◌, ◌∙◌, false, List, ℕ, pos, ◌++◌, ap, arith}
use Rattle.ember_wide.specs.Whole.{size_of}
use Rattle.mesh_number.proofs.Digits.{power_of_10_positive}
use Rattle.mesh_number.proofs.Appended.{on_ok_same}
use Rattle.mesh_texts.proofs.ShownSteps.{size_fits, power_is_small, size_shown}
use Rattle.mesh_texts.proofs.texts.put_size.Goals as goal

pub put_decimal-requires-clause-positive : goal.put_decimal-requires-clause-positive
put_decimal-requires-clause-positive c =
    let unit : c.from-unit.result ≡ 10 ^ c.args.places = c.from-unit.ensures ∙ c.pow.ensures in
    rw unit (power_of_10_positive c.args.places)

pub put_decimal-requires-clause-small : goal.put_decimal-requires-clause-small
put_decimal-requires-clause-small c =
    let unit : c.from-unit.result ≡ 10 ^ c.args.places = c.from-unit.ensures ∙ c.pow.ensures in
    rw unit (power_is_small c.args.places c.requires.places)

pub put_decimal-requires-clause-fits : goal.put_decimal-requires-clause-fits
put_decimal-requires-clause-fits c =
    let unit : c.from-unit.result ≡ 10 ^ c.args.places = c.from-unit.ensures ∙ c.pow.ensures in
    let size : size_of c.product-product.result ≡ c.args.size = omega (arith, c.product-product.ensures) in
    rw unit (size_fits (record { negative = false; size = c.product-product.result }) c.args.size c.args.places c.requires.size size)

pub returns : goal.returns
returns c =
    let unit : c.from-unit.result ≡ 10 ^ c.args.places = c.from-unit.ensures ∙ c.pow.ensures in
    let size : size_of c.product-product.result ≡ c.args.size = omega (arith, c.product-product.ensures) in
    let shown = size_shown (record { negative = false; size = c.product-product.result }) c.args.size c.args.places c.requires.places (ap pos size) in
    let put = rw unit at c.put_decimal.ensures in
    on_ok_same _ _ _ c.put_decimal.result put (ap (λ (xs : List ℕ). c.args.text.now.items ++ xs) shown)
