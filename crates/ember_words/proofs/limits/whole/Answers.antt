use Rattle.std.proofs.Common.{rules}
use Rattle.ember_words.proofs.limits.whole.Goals as goal

pub returns-then-minus : goal.returns-then-minus
returns-then-minus c = search rules

pub returns-else-minus : goal.returns-else-minus
returns-else-minus c = search rules
