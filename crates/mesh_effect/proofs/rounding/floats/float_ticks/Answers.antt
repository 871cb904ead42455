use Rattle.std.proofs.Common.{◌≡◌, ◌≤◌, ◌<◌, ℕ, ◌-◌, ◌*◌, ◌^◌, min, subst, sym, ap, ◌∙◌, rules, arith}
use Rattle.mesh_number.specs.Number.Fractions.{Fraction}
use Rattle.ember_wide.specs.Whole.{size_of}
use Rattle.mesh_written.specs.Places.{place_of}
use Rattle.mesh_written.specs.Floats.{IsFloatOf}
use Rattle.mesh_effect.specs.Rounding.Floats.{float_number, last_place}
use Rattle.mesh_effect.specs.Rounding.Ticks.{ticks_between, power_tick}
use Rattle.mesh_effect.proofs.RatioErrors.{infinite, error_short, error_within, ticks_of_error}
use Rattle.mesh_effect.proofs.rounding.floats.float_ticks.Goals as goal

pub error_of-error-requires-clause-below : goal.error_of-error-requires-clause-below
error_of-error-requires-clause-below c =
    let r = c.exact_place-place.result in
    let below : size_of r.numerator.size < size_of c.product-limit.result = search rules in
    omega (arith, below, c.product-limit.ensures)

pub error_of-error-requires-clause-float : goal.error_of-error-requires-clause-float
error_of-error-requires-clause-float c = subst (λ (v : Fraction). IsFloatOf v c.args.bits) (sym c.exact_place-place.ensures) c.requires.float

pub moved_ticks-requires-clause-short : goal.moved_ticks-requires-clause-short
moved_ticks-requires-clause-short c =
    let r = c.exact_place-place.result in
    let less : size_of r.numerator.size < size_of c.product-limit.result = search rules in
    let below : size_of r.numerator.size < (2 ^ 128 - 2 ^ 103) * r.denominator = omega (arith, less, c.product-limit.ensures) in
    let near = subst (λ (v : Fraction). IsFloatOf v c.args.bits) (sym c.exact_place-place.ensures) c.requires.float in
    error_short r c.args.bits below near (size_of c.error_of-error.result) c.args.top c.requires.place c.error_of-error.ensures

pub moved_ticks-requires-clause-within : goal.moved_ticks-requires-clause-within
moved_ticks-requires-clause-within c =
    let r = c.exact_place-place.result in
    let less : size_of r.numerator.size < size_of c.product-limit.result = search rules in
    let below : size_of r.numerator.size < (2 ^ 128 - 2 ^ 103) * r.denominator = omega (arith, less, c.product-limit.ensures) in
    let near = subst (λ (v : Fraction). IsFloatOf v c.args.bits) (sym c.exact_place-place.ensures) c.requires.float in
    let unit : c.min-unit.result ≡ min (last_place c.args.bits) 149 = c.min-unit.ensures ∙ ap (λ (p : ℕ). min p 149) c.last_place.ensures.value in
    rw unit (error_within r c.args.bits below near (size_of c.error_of-error.result) c.args.top c.requires.place c.error_of-error.ensures)

pub returns-then-ne-clause-ticks : goal.returns-then-ne-clause-ticks
returns-then-ne-clause-ticks c =
    let r = c.exact_place-place.result in
    let least : size_of c.product-limit.result ≤ size_of r.numerator.size = search rules in
    infinite r (place_of c.args.step.now c.args.offset.now c.args.axis c.args.corner.now) c.exact_place-place.ensures
    (omega (arith, least, c.product-limit.ensures))

pub returns-clause-ticks : goal.returns-clause-ticks
returns-clause-ticks c =
    let r = c.exact_place-place.result in
    let less : size_of r.numerator.size < size_of c.product-limit.result = search rules in
    let below : size_of r.numerator.size < (2 ^ 128 - 2 ^ 103) * r.denominator = omega (arith, less, c.product-limit.ensures) in
    let near = subst (λ (v : Fraction). IsFloatOf v c.args.bits) (sym c.exact_place-place.ensures) c.requires.float in
    let unit : c.min-unit.result ≡ min (last_place c.args.bits) 149 = c.min-unit.ensures ∙ ap (λ (p : ℕ). min p 149) c.last_place.ensures.value in
    let ticks = rw unit at c.moved_ticks.ensures.value in
    ticks
    ∙ ticks_of_error r c.args.bits below near (size_of c.error_of-error.result) c.args.top c.requires.place c.error_of-error.ensures
    ∙ ap (λ (v : Fraction). ticks_between (power_tick c.args.top) v (float_number c.args.bits)) c.exact_place-place.ensures
