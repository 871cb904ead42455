use Rattle.std.proofs.Common.{rules}
use Rattle.ember_dec.proofs.signed_value.Goals as goal

pub returns-then-not-are_digits : goal.returns-then-not-are_digits
returns-then-not-are_digits c = search rules

pub returns-then-not-are_zeros : goal.returns-then-not-are_zeros
returns-then-not-are_zeros c = search rules

pub returns-then-size-ge-LIMIT : goal.returns-then-size-ge-LIMIT
returns-then-size-ge-LIMIT c = search rules

pub returns-then-minus : goal.returns-then-minus
returns-then-minus c = search rules

pub returns-else-minus : goal.returns-else-minus
returns-else-minus c = search rules
