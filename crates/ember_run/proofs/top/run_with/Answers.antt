use Rattle.ember_run.proofs.CanonicalWords.{canonical_command}
use Rattle.ember_run.proofs.top.run_with.Goals as goal

pub returns-in-Err-OutOfMemory-clause-canonical : goal.returns-in-Err-OutOfMemory-clause-canonical
returns-in-Err-OutOfMemory-clause-canonical g c = λ line h is. canonical_command _ line h is
