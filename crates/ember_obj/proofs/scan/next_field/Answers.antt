use Rattle.std.proofs.Common.{◌<◌, ◌∙◌, sym, ap, length, arith}
use Rattle.ember_obj.specs.Scan.{before, is_separator}
use Rattle.ember_obj.proofs.Cuts.{first_field, field_has_byte}
use Rattle.ember_obj.proofs.scan.next_field.Goals as goal

pub returns-clause-fields : goal.returns-clause-fields
returns-clause-fields c =
    rw (c.cut_field.ensures.before, c.cut_field.ensures.onward)
    (sym c.skip_separators-start.ensures.fields ∙ first_field c.skip_separators-start.result.now (grind arith)
    (c.skip_separators-start.ensures.first (grind arith)))

pub returns-clause-shorter : goal.returns-clause-shorter
returns-clause-shorter c =
    let some : 0 < length (before is_separator c.skip_separators-start.result.now) =
    field_has_byte c.skip_separators-start.result.now (grind arith)
    (c.skip_separators-start.ensures.first (grind arith)) in
    omega (arith, ap length c.cut_field.ensures.before)
