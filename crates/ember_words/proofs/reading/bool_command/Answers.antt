use Rattle.std.proofs.Common.{rules}
use Rattle.ember_words.proofs.reading.bool_command.Goals as goal

pub returns : goal.returns
returns c = search rules
