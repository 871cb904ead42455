use Rattle.std.proofs.Common.{◌≡◌, ◌<◌, ℕ, ◌^◌, true, refl, ap, ◌∙◌, arith}
use Rattle.mesh_number.specs.Number.Quotients.{quotient}
use Rattle.mesh_effect.specs.Rounding.Shown.{rounded_up}
use Rattle.mesh_effect.proofs.Places.{size_small}
use Rattle.mesh_effect.proofs.rounding.shown.rounded_from.Goals.{After-quotient_above-size}
use Rattle.mesh_effect.proofs.rounding.shown.rounded_from.Goals as goal

pub quotient_above-size-requires-clause-fits : goal.quotient_above-size-requires-clause-fits
quotient_above-size-requires-clause-fits c = omega (arith, c.raised-places.ensures.fits, c.requires.tick.denominator_positive)

size_is : (c : After-quotient_above-size) → c.quotient_above-size.result ≡ rounded_up c.args.root c.args.tick.now c.raised-places.result.0
size_is c = c.quotient_above-size.ensures ∙ ap (λ (n : ℕ). quotient true n c.args.tick.now.denominator) c.raised-places.ensures.value

pub invariant_of-result-clause-small : goal.invariant_of-result-clause-small
invariant_of-result-clause-small c =
    let small = size_small c.args.root c.args.tick.now c.raised-places.result.0 c.requires.root c.requires.tick c.raised-places.ensures.short in
    omega (arith, size_is c, small)

pub invariant_of-result-clause-short : goal.invariant_of-result-clause-short
invariant_of-result-clause-short c =
    λ l. let short : rounded_up c.args.root c.args.tick.now c.raised-places.result.0 < 10 ^ 9 =
    c.raised-places.ensures.short l in omega (arith, size_is c, short)

pub returns : goal.returns
returns c =
    let size : c.quotient_above-size.result ≡ rounded_up c.args.root c.args.tick.now c.raised-places.result.0 =
    c.quotient_above-size.ensures ∙ ap (λ (n : ℕ). quotient true n c.args.tick.now.denominator) c.raised-places.ensures.value in
    rw (size, c.raised-places.ensures.places) refl
