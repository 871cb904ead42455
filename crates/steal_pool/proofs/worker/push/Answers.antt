use Rattle.std.proofs.Common.{[], ◌∷◌}
use Rattle.crossbeam_deque.specs.Handles.{worker_port, worker_view}
use Rattle.steal_pool.proofs.DequeSteps.{protocol_pushes, All_one}
use Rattle.steal_pool.proofs.worker.push.Goals as goal

pub push_as-requires-clause-pushes : goal.push_as-requires-clause-pushes
push_as-requires-clause-pushes g c = protocol_pushes g.K.VisitedJobs.is_visited (worker_port c.args.owner.now)
    (worker_view c.args.owner.now) (c.args.job ∷ []) c.requires.owns
    (All_one g.K.VisitedJobs.is_visited c.args.job c.requires.visited)
