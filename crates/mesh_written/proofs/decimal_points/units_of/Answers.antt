use Rattle.std.proofs.Common.{◌≡◌, ℕ, ◌*◌, ◌^◌, ap, ◌∙◌, arith}
use Rattle.std.proofs.lemmas.Int.{to_z-of_z}
use mir.Syntax.{w128}
use Rattle.mesh_number.specs.Number.Fractions.{signed_whole}
use Rattle.mesh_number.specs.Round.Nearest.{nearest_whole}
use Rattle.ember_wide.specs.Whole.{size_of}
use Rattle.mesh_written.proofs.Signs.{fits_with_places, units_are_small, units_of_ratio}
use Rattle.mesh_written.proofs.decimal_points.units_of.Goals as goal

pub times-requires : goal.times-requires
times-requires c =
    let r = c.args.number.now in
    let unit : c.from.result ≡ 10 ^ c.args.places = c.from.ensures ∙ c.pow-unit.ensures in
    let fits = fits_with_places (size_of r.numerator.size) r.denominator c.args.places r.positive c.requires.short c.requires.places in
    rw unit (omega (arith, fits, r.small))

pub nearest-size-requires-clause-fits : goal.nearest-size-requires-clause-fits
nearest-size-requires-clause-fits c =
    let r = c.args.number.now in
    let unit : c.from.result ≡ 10 ^ c.args.places = c.from.ensures ∙ c.pow-unit.ensures in
    let scaled : size_of c.times.result ≡ size_of r.numerator.size * 10 ^ c.args.places = c.times.ensures ∙ ap (λ (k : ℕ). size_of r.numerator.size * k) unit in
    rw scaled (fits_with_places (size_of r.numerator.size) r.denominator c.args.places r.positive c.requires.short c.requires.places)

pub with_sign-requires : goal.with_sign-requires
with_sign-requires c =
    let r = c.args.number.now in
    let unit : c.from.result ≡ 10 ^ c.args.places = c.from.ensures ∙ c.pow-unit.ensures in
    let scaled : size_of c.times.result ≡ size_of r.numerator.size * 10 ^ c.args.places = c.times.ensures ∙ ap (λ (k : ℕ). size_of r.numerator.size * k) unit in
    units_are_small c.nearest-size.result r.denominator (size_of r.numerator.size) c.args.places r.positive
    c.requires.short c.requires.places (omega (arith, scaled, c.nearest-size.ensures.near.from))

pub returns : goal.returns
returns c =
    let r = c.args.number.now in
    let unit : c.from.result ≡ 10 ^ c.args.places = c.from.ensures ∙ c.pow-unit.ensures in
    let scaled : size_of c.times.result ≡ size_of r.numerator.size * 10 ^ c.args.places = c.times.ensures ∙ ap (λ (k : ℕ). size_of r.numerator.size * k) unit in
    let size : c.nearest-size.result ≡ nearest_whole (size_of r.numerator.size * 10 ^ c.args.places) r.denominator =
    c.nearest-size.ensures.value ∙ ap (λ (k : ℕ). nearest_whole k r.denominator) scaled in
    to_z-of_z w128 c.with_sign.result (record { sfits = c.with_sign.type_inv })
    ∙ c.with_sign.ensures
    ∙ ap (signed_whole r.numerator.negative) size
    ∙ units_of_ratio r c.args.places
