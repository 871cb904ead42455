use Rattle.std.proofs.Common.{◌+◌, length, sym, ◌∙◌}
use Rattle.std.proofs.lemmas.Nat.{pow_pos}
use Rattle.mesh_number.specs.Number.Values.{decimal_over, decimal_under, places_left}
use Rattle.mesh_number.proofs.DigitNumbers.{pow_ten_pos}
use Rattle.mesh_number.proofs.SignedFloors.{signed_multiple}
use Rattle.mesh_number.proofs.number.floors.floor_times.Goals as goal

pub returns-in-Decimal-clause-value : goal.returns-in-Decimal-clause-value
returns-in-Decimal-clause-value c =
    let d = c.in-Decimal.d in
    c.with_sign.ensures.value ∙ rw (c.in-Decimal.is, c.decimal_multiple.ensures.value)
    (sym (signed_multiple d.minus c.args.factor (decimal_over d) (decimal_under d) (pow_ten_pos (length d.fraction.now + places_left d.exponent))))

pub returns-in-Binary-clause-value : goal.returns-in-Binary-clause-value
returns-in-Binary-clause-value c =
    let b = c.in-Binary.b in
    c.with_sign-in-Binary.ensures.value ∙ rw (c.in-Binary.is, c.binary_multiple.ensures.value)
    (sym (signed_multiple b.minus c.args.factor _ _ (pow_pos b.scale)))
