use Rattle.std.proofs.Common.{refl}
use Rattle.ember_io.proofs.real.FileShelfShelf.begin.Goals as goal

pub returns-in-Err-clause-none_left : goal.returns-in-Err-clause-none_left
returns-in-Err-clause-none_left g c = refl
