use Rattle.std.proofs.Common.{◌≡◌, ◌*◌, ◌<◌, ◌^◌, List, ℕ, ℤ, pos, ◌++◌, ap, ◌∙◌, to_z-of_z, rules, arith}
use Rattle.std.specs.Prelude.{int_lt, unsigned_abs}
use Rattle.mesh_number.specs.Round.Decimals.{decimal_text}
use Rattle.mesh_number.specs.Round.Nearest.{nearest_whole}
use Rattle.ember_wide.specs.Whole.{size_of}
use Rattle.mesh_report.specs.Volumes.{cube}
use Rattle.mesh_number.proofs.Appended.{on_ok_same}
use Rattle.mesh_report.proofs.VolumeSizes.{unit_is_positive, volume_fits, volume_shown}
use Rattle.mesh_report.proofs.volumes.put_volume.Goals as goal

pub put_decimal-requires-clause-positive : goal.put_decimal-requires-clause-positive
put_decimal-requires-clause-positive c =
    unit_is_positive c.args.step.now.denominator _ c.requires.denominator_positive
    (ap (λ (n : ℕ). 6 * n) c.cube-denominator.ensures.value)

pub put_decimal-requires-clause-fits : goal.put_decimal-requires-clause-fits
put_decimal-requires-clause-fits c =
    let unit = 6 * c.cube-denominator.result in
    let positive = unit_is_positive c.args.step.now.denominator unit c.requires.denominator_positive
    (ap (λ (n : ℕ). 6 * n) c.cube-denominator.ensures.value) in
    let below : size_of c.product-size.result < size_of c.product-limit.result = search rules in
    volume_fits (size_of c.product-size.result) unit (size_of c.product-limit.result) positive c.product-limit.ensures below

pub returns : goal.returns
returns c =
    let step = c.args.step.now in
    let unit = 6 * c.cube-denominator.result in
    let size = size_of c.product-size.result in
    let below : size < size_of c.product-limit.result = search rules in
    let of_size : size ≡ unsigned_abs c.args.sixfold_volume * cube step.numerator =
    c.product-size.ensures ∙ (λ k. (c.from-count.ensures ∙ c.unsigned_abs.ensures.value ∙ ap unsigned_abs (to_z-of_z c.ranges.sixfold_volume)) k * c.cube-numerator.ensures.value k) in
    let of_unit = ap (λ (n : ℕ). 6 * n) c.cube-denominator.ensures.value in
    let small : size < unit * 10 ^ 21 = omega (arith, below, c.product-limit.ensures) in
    on_ok_same _ _ _ c.put_decimal.result c.put_decimal.ensures
    (ap (λ (v : ℤ). c.args.text.now.items ++ decimal_text (int_lt v (pos 0)) (nearest_whole (size * 10 ^ 12) unit) 12)
    (to_z-of_z c.ranges.sixfold_volume)
    ∙ ap (λ (xs : List ℕ). c.args.text.now.items ++ xs) (volume_shown c.args.sixfold_volume size unit step of_size of_unit small))
