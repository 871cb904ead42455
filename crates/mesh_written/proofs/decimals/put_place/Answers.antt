use Rattle.std.proofs.Common.{◌<◌, ◌≤◌, ◌*◌, ◌^◌, refl, List, ◌++◌, ℕ, ap, ◌∙◌, rules, arith}
use Rattle.ember_wide.specs.Whole.{size_of}
use Rattle.mesh_written.specs.Places.{place_of}
use Rattle.mesh_written.proofs.Signs.{decimal_of_ratio, is_long, not_long, fits_with_places}
use Rattle.mesh_written.proofs.decimals.put_place.Goals as goal

pub put_decimal-requires-clause-fits : goal.put_decimal-requires-clause-fits
put_decimal-requires-clause-fits c =
    let r = c.exact_place-place.result in
    let below : size_of r.numerator.size < size_of c.product-limit.result = search rules in
    fits_with_places (size_of r.numerator.size) r.denominator c.args.places r.positive (omega (arith, below, c.product-limit.ensures)) c.requires.places

pub returns-then-ne-clause-far : goal.returns-then-ne-clause-far
returns-then-ne-clause-far c =
    let r = c.exact_place-place.result in
    let above : size_of c.product-limit.result ≤ size_of r.numerator.size = search rules in
    let long : r.denominator * 10 ^ 21 ≤ size_of r.numerator.size = omega (arith, above, c.product-limit.ensures) in (
      λ e. is_long r (place_of c.args.step.now c.args.offset.now c.args.axis c.args.corner.now) c.exact_place-place.ensures long,
      λ h. refl,
    )

pub returns-in-Err-clause-far : goal.returns-in-Err-clause-far
returns-in-Err-clause-far c =
    let r = c.exact_place-place.result in
    let below : size_of r.numerator.size < size_of c.product-limit.result = search rules in
    let short : size_of r.numerator.size < r.denominator * 10 ^ 21 = omega (arith, below, c.product-limit.ensures) in (
      λ e. absurd (cc e),
      λ h. absurd (not_long r
          (place_of c.args.step.now c.args.offset.now c.args.axis c.args.corner.now) c.exact_place-place.ensures short h),
    )

pub returns-in-Err-clause-unchanged : goal.returns-in-Err-clause-unchanged
returns-in-Err-clause-unchanged c = λ e. absurd (cc e)

pub returns-in-Ok-clause-far : goal.returns-in-Ok-clause-far
returns-in-Ok-clause-far c =
    let r = c.exact_place-place.result in
    let below : size_of r.numerator.size < size_of c.product-limit.result = search rules in
    let short : size_of r.numerator.size < r.denominator * 10 ^ 21 = omega (arith, below, c.product-limit.ensures) in (
      λ e. absurd (cc e),
      λ h. absurd (not_long r
          (place_of c.args.step.now c.args.offset.now c.args.axis c.args.corner.now) c.exact_place-place.ensures short h),
    )

pub returns-in-Ok-clause-text : goal.returns-in-Ok-clause-text
returns-in-Ok-clause-text c =
    c.in-Ok.ensures
    ∙ ap (λ (text : List ℕ). c.args.out.now.items ++ text)
    (decimal_of_ratio c.exact_place-place.result
    (place_of c.args.step.now c.args.offset.now c.args.axis c.args.corner.now) c.exact_place-place.ensures
    c.args.places)
