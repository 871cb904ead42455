use Rattle.std.proofs.Common.{Some, ap, arith}
use Rattle.ember_io.proofs.FileIndices.{named_past}
use Rattle.ember_io.proofs.file_index.file_index_or_end.Goals as goal

pub returns-in-None : goal.returns-in-None
returns-in-None c = rw c.in-None.ensures (ap (λ xs. Some xs) (named_past c.args.files.now _ (omega arith)))
