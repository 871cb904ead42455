use Rattle.std.proofs.Common.{sym, arith}
use Rattle.ember_io.proofs.FileIndices.{bytes_at-named, named_past}
use Rattle.ember_io.proofs.file_index.bytes_of.Goals as goal

pub returns-in-Some : goal.returns-in-Some
returns-in-Some c = grind (arith, bytes_at-named)

pub returns-in-None : goal.returns-in-None
returns-in-None c = sym (named_past c.args.files.now c.args.file_index (grind arith))
