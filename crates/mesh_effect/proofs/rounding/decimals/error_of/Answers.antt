use Rattle.std.proofs.Common.{◌≡◌, ℕ, ◌*◌, ◌^◌, ap, ◌∙◌, arith}
use Rattle.ember_wide.specs.Whole.{size_of}
use Rattle.mesh_written.proofs.Signs.{fits_with_places}
use Rattle.mesh_effect.proofs.RatioErrors.{rest_is_error}
use Rattle.mesh_effect.proofs.rounding.decimals.error_of.Goals as goal

pub times-over-requires : goal.times-over-requires
times-over-requires c =
    let r = c.args.number.now in
    let unit : c.from.result ≡ 10 ^ c.args.places = c.from.ensures ∙ c.pow-unit.ensures in
    let fits = fits_with_places (size_of r.numerator.size) r.denominator c.args.places r.positive c.requires.short c.requires.places in
    rw unit (omega (arith, fits, r.small))

pub divide-rest-requires-clause-fits : goal.divide-rest-requires-clause-fits
divide-rest-requires-clause-fits c =
    let r = c.args.number.now in
    let unit : c.from.result ≡ 10 ^ c.args.places = c.from.ensures ∙ c.pow-unit.ensures in
    let over = c.times-over.ensures ∙ ap (λ (n : ℕ). size_of r.numerator.size * n) unit in
    let fits = fits_with_places (size_of r.numerator.size) r.denominator c.args.places r.positive c.requires.short c.requires.places in
    omega (arith, over, fits)

pub returns-clause-value : goal.returns-clause-value
returns-clause-value c =
    let r = c.args.number.now in
    let unit : c.from.result ≡ 10 ^ c.args.places = c.from.ensures ∙ c.pow-unit.ensures in
    let over = c.times-over.ensures ∙ ap (λ (n : ℕ). size_of r.numerator.size * n) unit in
    c.min.ensures ∙ rest_is_error r c.args.places c.divide-rest.result.0 c.divide-rest.result.1 (c.divide-rest.ensures.whole ∙ over) c.divide-rest.ensures.rest
