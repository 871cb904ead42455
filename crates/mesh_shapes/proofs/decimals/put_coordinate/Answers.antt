use Rattle.std.proofs.Common.{◌≡◌, ◌+◌, ◌-◌, ◌≤◌, ◌++◌, length, take, drop, sym, ap, ap₂, ◌∙◌, arith, decimal, List, ℕ}
use Rattle.ember_dec.specs.Digits.{number_from}
use Rattle.mesh_number.specs.Round.Decimals.{sign_text, fraction_text}
use Rattle.mesh_number.proofs.Appended.{after3, on_ok_same}
use Rattle.mesh_shapes.specs.Texts.{most_places}
use Rattle.mesh_shapes.proofs.CoordinateTexts.{AreParts, coordinate_by_parts, parts_where_cut}
use Rattle.mesh_shapes.proofs.decimals.put_coordinate.Goals as goal

pub returns-clause-text : goal.returns-clause-text
unfolding most_places
returns-clause-text c =
    let d = c.args.decimal.now in let digits = d.digits.items in let out = c.args.out.now.items in
    let slice : c.as_slice-digits.result.now ≡ digits = c.as_slice-digits.ensures.value in
    let front = c.split_at.result.0.now in let behind = c.split_at.result.1.now in
    let within : d.places ≤ most_places = omega arith in
    let cut : c.saturating_sub.result ≡ length digits - d.places = omega (arith, ap length slice) in
    let parts : AreParts digits d.places front behind =
    parts_where_cut digits front behind d.places c.saturating_sub.result cut
    (c.split_at.ensures.front ∙ ap (take c.saturating_sub.result) slice) (c.split_at.ensures.back ∙ ap (drop c.saturating_sub.result) slice) d.digits_alone in
    let text = coordinate_by_parts d.minus digits front behind d.places most_places c.number_of.result within parts c.number_of.ensures c.requires in
    let sign : sign_text d.minus (number_from 0 c.as_slice-digits.result.now) ≡ sign_text d.minus (number_from 0 digits) =
    ap (λ (l : List ℕ). sign_text d.minus (number_from 0 l)) slice in
    let zeros : c.saturating_sub-2.result ≡ d.places - length behind = omega arith in
    let rest : fraction_text (c.saturating_sub-2.result + length behind) (number_from 0 behind) ≡ fraction_text (d.places - length behind + length behind) (number_from 0 behind) =
    ap (λ (i : ℕ). fraction_text (i + length behind) (number_from 0 behind)) zeros in
    on_ok_same c.put_fraction.new.out.items _ _ c.put_fraction.result c.put_fraction.ensures
    (after3 _ (decimal c.number_of.result) _ out c.put_sign.new.out.items c.put_whole.new.out.items c.in_ok-put_sign.ensures c.in_ok-put_whole.ensures
    ∙ ap₂ (λ (a b : List ℕ). out ++ (a ++ (decimal c.number_of.result ++ b))) sign rest ∙ ap (λ (l : List ℕ). out ++ l) (sym text))

pub returns-in_err-put_sign-clause-places : goal.returns-in_err-put_sign-clause-places
unfolding most_places
returns-in_err-put_sign-clause-places c = omega arith

pub returns-in_err-put_whole-clause-places : goal.returns-in_err-put_whole-clause-places
unfolding most_places
returns-in_err-put_whole-clause-places c = omega arith

pub returns-clause-places : goal.returns-clause-places
unfolding most_places
returns-clause-places c = omega arith
