use Rattle.std.proofs.Common.{rules, length, drop}
use Rattle.steal_pool.proofs.AccountSums.{each_finished_back}
use Rattle.steal_pool.proofs.threads.run_workers.Goals as goal

pub returns-then-are_done : goal.returns-then-are_done
returns-then-are_done g c =
    each_finished_back g.K.VisitedJobs.is_visited g.K.BoxWeight.answers g.K.BoxWeight.weight c.args.stealers.now.items
    c.args.workers.now.len c.args.workers.now.items
    c.run_each.new.workers (drop (length c.run_each.new.workers) c.args.workers.now.items) (search rules) (search rules) (search rules) (search rules)
