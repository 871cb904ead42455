use Rattle.ember_known.proofs.Decided.{decided_tells}
use Rattle.ember_known.proofs.law.decided_is_true.Goals as goal

pub returns : goal.returns
returns c = λ undecided counts others f b fit agree e. decided_tells undecided counts others agree f b fit e
