use Rattle.std.proofs.Common.{arith}
use Rattle.std.proofs.lemmas.Str.Pattern.{strip_prefix_char}
use Rattle.ember_words.proofs.Numbers.{minus_is_stripped}
use Rattle.ember_words.proofs.limits.sign.Goals as goal

pub returns-in-None-clause-minus : goal.returns-in-None-clause-minus
returns-in-None-clause-minus c =
    (rw c.in-None.is at (minus_is_stripped c.args.text.now c.strip_prefix.result
    (strip_prefix_char 45 c.args.text.now c.strip_prefix.result c.strip_prefix.ensures.cases (omega arith)))).0

pub returns-in-None-clause-rest : goal.returns-in-None-clause-rest
returns-in-None-clause-rest c =
    (rw c.in-None.is at (minus_is_stripped c.args.text.now c.strip_prefix.result
    (strip_prefix_char 45 c.args.text.now c.strip_prefix.result c.strip_prefix.ensures.cases (omega arith)))).1
