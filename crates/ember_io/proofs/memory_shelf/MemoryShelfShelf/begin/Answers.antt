use Rattle.std.proofs.Common.{refl}
use Rattle.ember_io.proofs.memory_shelf.MemoryShelfShelf.begin.Goals as goal

pub returns-clause-mark : goal.returns-clause-mark
returns-clause-mark c = refl
