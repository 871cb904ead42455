use Rattle.std.proofs.Common.{rules}
use Rattle.ember_words.proofs.Numbers.{decimal_small, digits_parse}
use Rattle.ember_words.proofs.limits.decimal.Goals as goal

pub returns-clause-small : goal.returns-clause-small
returns-clause-small c =
    rw (c.ok.ensures.value, digits_parse c.args.most_digits c.args.text.now c.parse.result c.parse.ensures.value.0 (search rules) (search rules) c.requires)
    (decimal_small c.args.most_digits c.args.text.now c.requires)
