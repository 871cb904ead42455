use Rattle.std.proofs.Common.{◌≡◌, ◌≤◌, ◌<◌, ℕ, ◌+◌, ◌*◌, ◌^◌, true, refl, ap, ◌∙◌, mul-le-mul, arith}
use Rattle.mesh_number.specs.Number.Quotients.{quotient}
use Rattle.ember_wide.specs.Whole.{size_of}
use Rattle.mesh_effect.specs.Rounding.Shown.{rounded_up}
use Rattle.mesh_effect.proofs.Above.{quotient_less}
use Rattle.mesh_effect.proofs.Places.{places_are, next_over}
use Rattle.mesh_effect.proofs.rounding.shown.raised.Goals as goal

pub loop-places-init : goal.loop-places-init
loop-places-init c =
    let tick = c.requires.tick in
    let numerator : c.args.tick.now.numerator ≤ 2 ^ 44 = omega (arith, tick.numerator_small) in
    let most : c.args.root * c.args.tick.now.numerator ≤ 2 ^ 64 * 2 ^ 44 = mul-le-mul c.requires.root numerator in
    let value : size_of c.product-over.result ≡ c.args.root * c.args.tick.now.numerator = c.product-over.ensures ∙ rw c.from.ensures refl in
    record {
      value = omega (arith, value);
      fits = omega (arith, value, most, tick.denominator_positive);
      short = λ l. absurd (omega (arith, l));
    }

pub times-next-requires : goal.times-next-requires
times-next-requires c = omega (arith, c.loop-places.invariant.fits, c.requires.tick.denominator_small)

pub quotient_above-requires-clause-fits : goal.quotient_above-requires-clause-fits
quotient_above-requires-clause-fits c = omega (arith, c.times-next.ensures, c.loop-places.invariant.fits, c.requires.tick.denominator_positive)

pub returns-then-quotient_above-ge-TEN_DIGITS-clause-places : goal.returns-then-quotient_above-ge-TEN_DIGITS-clause-places
returns-then-quotient_above-ge-TEN_DIGITS-clause-places c =
    let places = c.loop-places.places in
    let next = next_over c.args.root c.args.tick.now places (size_of c.loop-places.over) (size_of c.times-next.result)
    c.loop-places.invariant.value c.times-next.ensures in
    let is : c.quotient_above.result ≡ rounded_up c.args.root c.args.tick.now (places + 1) =
    c.quotient_above.ensures ∙ ap (λ (n : ℕ). quotient true n c.args.tick.now.denominator) next in
    places_are c.args.root c.args.tick.now c.requires.tick.denominator_positive 38 places
    (omega (arith, c.loop-places-test.true)) c.loop-places.invariant.short
    (λ l. omega (arith, is, c.if-quotient_above-ge-TEN_DIGITS.true))

pub loop-places-preserved : goal.loop-places-preserved
loop-places-preserved c =
    let places = c.loop-places.places in
    let next = next_over c.args.root c.args.tick.now places (size_of c.loop-places.over) (size_of c.times-next.result)
    c.loop-places.invariant.value c.times-next.ensures in
    let is : c.quotient_above.result ≡ rounded_up c.args.root c.args.tick.now (places + 1) =
    c.quotient_above.ensures ∙ ap (λ (n : ℕ). quotient true n c.args.tick.now.denominator) next in
    let less : quotient true (size_of c.times-next.result) c.args.tick.now.denominator < 10 ^ 9 =
    omega (arith, c.quotient_above.ensures, c.if-quotient_above-ge-TEN_DIGITS.false) in
    let most = quotient_less (size_of c.times-next.result) c.args.tick.now.denominator (10 ^ 9) c.requires.tick.denominator_positive less in
    record {
      value = next;
      fits = omega (arith, most, c.requires.tick.denominator_positive);
      short = λ l. omega (arith, is, c.if-quotient_above-ge-TEN_DIGITS.false);
    }

pub returns-clause-places : goal.returns-clause-places
returns-clause-places c =
    let all : c.loop-places.places ≡ 38 = omega (arith, c.loop-places-test.false, c.loop-places.auto.places-end) in
    places_are c.args.root c.args.tick.now c.requires.tick.denominator_positive 38 38 (omega arith)
    (λ l. rw all at c.loop-places.invariant.short (omega arith)) (λ l. absurd (omega (arith, l)))
