use Rattle.std.proofs.Common.{rules}
use Rattle.ember_words.proofs.limits.four_parts.Goals as goal

pub returns : goal.returns
returns c = search rules
