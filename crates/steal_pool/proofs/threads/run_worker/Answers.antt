use Rattle.std.proofs.Common.{sym, true≢false}
use Rattle.steal_pool.proofs.threads.run_worker.Goals as goal

pub returns-in-Err : goal.returns-in-Err
returns-in-Err g c = record { finished = λ done. absurd (true≢false (sym done)) }
