use Rattle.std.proofs.Common.{rules}
use Rattle.ember_words.proofs.values.optional_value.Goals as goal

pub returns-in-Some : goal.returns-in-Some
returns-in-Some c = search rules
