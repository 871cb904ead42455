use Rattle.std.proofs.Common.{arith}
use Rattle.crossbeam_deque.specs.Handles.{view}
use Rattle.steal_pool.proofs.DequeSteps.{protocol_takes}
use Rattle.steal_pool.proofs.worker.steal.Goals as goal

pub steal_as-requires-clause-takes : goal.steal_as-requires-clause-takes
steal_as-requires-clause-takes g c = protocol_takes g.K.VisitedJobs.is_visited c.args.pass.now.id (view c.args.pass.now) (λ _. omega (arith, c.requires.pass.1))
