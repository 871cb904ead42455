use Rattle.std.proofs.Common.{rules, arith, ◌≡◌, ◌≤◌, true, ap, length}
use Rattle.std.specs.List.{list_all}
use Rattle.std.specs.Char.{is_ascii_digit}
use Rattle.ember_dec.proofs.Fronts.{digits_are, digits_few}
use Rattle.ember_expr.proofs.token.number.Goals as goal

pub append_digits-value-requires-clause-digits : goal.append_digits-value-requires-clause-digits
append_digits-value-requires-clause-digits c = rw c.split_digits.ensures.digits (digits_are c.args.text.now)

pub returns-clause-within : goal.returns-clause-within
returns-clause-within c = omega (arith, ap length c.split_digits.ensures.digits, digits_few c.args.text.now)
