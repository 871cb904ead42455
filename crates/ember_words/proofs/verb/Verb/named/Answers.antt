use Rattle.std.proofs.Common.{rules}
use Rattle.ember_words.proofs.verb.Verb.named.Goals as goal

pub returns-in-pairs : goal.returns-in-pairs
returns-in-pairs c = search rules
