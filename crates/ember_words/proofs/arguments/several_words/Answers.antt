use Rattle.std.proofs.Common.{rules}
use Rattle.ember_words.proofs.arguments.several_words.Goals as goal

pub returns-clause-rule : goal.returns-clause-rule
returns-clause-rule c = search rules
