use Rattle.std.proofs.Common.{◌≡◌, ℕ, ◌-◌, ◌*◌, ◌^◌, ap, ◌∙◌, arith}
use Rattle.ember_wide.specs.Whole.{size_of}
use Rattle.mesh_effect.specs.Rounding.Floats.{last_place}
use Rattle.mesh_effect.proofs.RatioErrors.{place_most, significand_short, exact_small, written_most, sum_is_error}
use Rattle.mesh_effect.proofs.rounding.floats.error_of.Goals as goal

pub doubled-requires-clause-fits : goal.doubled-requires-clause-fits
doubled-requires-clause-fits c =
    let behind : c.saturating_sub-behind.result ≡ 149 - last_place c.args.bits =
    c.saturating_sub-behind.ensures ∙ ap (λ (p : ℕ). 149 - p) c.last_place.ensures.value in
    rw behind (omega (arith, exact_small c.args.number.now c.args.bits c.requires.below c.requires.float))

pub written_size-written-requires-clause-place : goal.written_size-written-requires-clause-place
written_size-written-requires-clause-place c = place_most c.args.number.now c.args.bits c.requires.below c.requires.float

pub written_size-written-requires-clause-short : goal.written_size-written-requires-clause-short
written_size-written-requires-clause-short c = significand_short c.args.number.now c.args.bits c.requires.below c.requires.float

pub plus-requires : goal.plus-requires
plus-requires c =
    let behind : c.saturating_sub-behind.result ≡ 149 - last_place c.args.bits =
    c.saturating_sub-behind.ensures ∙ ap (λ (p : ℕ). 149 - p) c.last_place.ensures.value in
    let exact = c.doubled.ensures ∙ ap (λ (e : ℕ). size_of c.args.number.now.numerator.size * 2 ^ e) behind in
    let written = c.product.ensures ∙ ap (λ (n : ℕ). n * c.args.number.now.denominator) c.written_size-written.ensures in
    let left = exact_small c.args.number.now c.args.bits c.requires.below c.requires.float in
    let right = written_most c.args.number.now c.args.bits c.requires.below c.requires.float in
    omega (arith, exact, written, left, right)

pub returns : goal.returns
returns c =
    let behind : c.saturating_sub-behind.result ≡ 149 - last_place c.args.bits =
    c.saturating_sub-behind.ensures ∙ ap (λ (p : ℕ). 149 - p) c.last_place.ensures.value in
    let exact = c.doubled.ensures ∙ ap (λ (e : ℕ). size_of c.args.number.now.numerator.size * 2 ^ e) behind in
    let written = c.product.ensures ∙ ap (λ (n : ℕ). n * c.args.number.now.denominator) c.written_size-written.ensures in
    sum_is_error c.args.number.now c.args.bits c.requires.below c.requires.float (size_of c.doubled.result)
    (size_of c.product.result) c.plus.result exact written c.plus.ensures
