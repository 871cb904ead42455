use Rattle.std.proofs.Common.{rules}
use Rattle.std.specs.Char.{is_ascii_digit}
use Rattle.ember_dec.proofs.Capped.{capped_parts, list_all-take}
use Rattle.ember_dec.proofs.capped_units.Goals as goal

pub append_digits-value-requires-2-clause-digits : goal.append_digits-value-requires-2-clause-digits
append_digits-value-requires-2-clause-digits c =
    rw c.split_places.ensures.within (list_all-take is_ascii_digit c.args.places c.args.fraction.now c.requires.fraction)

pub returns : goal.returns
returns c = search (rules, capped_parts)
