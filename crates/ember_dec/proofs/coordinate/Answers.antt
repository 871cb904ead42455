use Rattle.std.proofs.Common.{rules}
use Rattle.ember_dec.proofs.coordinate.Goals as goal

pub returns : goal.returns
returns c = search rules
