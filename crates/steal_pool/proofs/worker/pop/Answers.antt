use Rattle.std.proofs.Common.{sym, ◌∙◌, true≢false}
use Rattle.crossbeam_deque.specs.Handles.{worker_port, worker_view}
use Rattle.steal_pool.proofs.DequeSteps.{protocol_pops, protocol_takes}
use Rattle.steal_pool.proofs.worker.pop.Goals as goal

pub pop_as-requires-clause-fifo : goal.pop_as-requires-clause-fifo
pop_as-requires-clause-fifo g c = λ _. protocol_takes g.K.VisitedJobs.is_visited (worker_port c.args.owner.now)
    (worker_view c.args.owner.now) (λ e. absurd (true≢false (sym c.requires ∙ e)))

pub pop_as-requires-clause-lifo : goal.pop_as-requires-clause-lifo
pop_as-requires-clause-lifo g c = λ _. protocol_pops g.K.VisitedJobs.is_visited (worker_port c.args.owner.now)
    (worker_view c.args.owner.now) (λ e. absurd (true≢false (sym c.requires ∙ e)))
