use Rattle.std.proofs.Common.{arith}
use Rattle.std.proofs.lemmas.Str.Pattern.{split_parts}
use Rattle.ember_words.proofs.Parts.{parts_once}
use Rattle.ember_words.proofs.limits.part.Goals as goal

pub returns-in-Some : goal.returns-in-Some
returns-in-Some c =
    rw c.in-Some.is at (parts_once c.args.text.now c.split_once.result
    (split_parts 44 c.args.text.now c.split_once.result c.split_once.ensures.cases (omega arith)))

pub returns-in-None : goal.returns-in-None
returns-in-None c =
    rw c.in-None.is at (parts_once c.args.text.now c.split_once.result
    (split_parts 44 c.args.text.now c.split_once.result c.split_once.ensures.cases (omega arith)))
