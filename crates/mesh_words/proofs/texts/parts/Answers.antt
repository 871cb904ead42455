use Rattle.std.proofs.Common.{arith}
use Rattle.std.proofs.lemmas.Str.Pattern.{split_parts}
use Rattle.mesh_words.proofs.Parts.{parts_once}
use Rattle.mesh_words.proofs.texts.parts.Goals as goal

pub returns : goal.returns
returns c = parts_once c.args.word.now c.split_once.result (split_parts 61 c.args.word.now c.split_once.result c.split_once.ensures.cases (omega arith))
