use Rattle.std.proofs.Common.{arith}
use Rattle.steal_pool.proofs.PassLists.{each_length, each_at, each_set, taken_steal}
use Rattle.steal_pool.proofs.worker.steal_from.Goals as goal

pub index-stealer-requires : goal.index-stealer-requires
index-stealer-requires g c = omega (arith, each_length c.args.stealers.now.items c.args.passes.now.items c.requires.each)

pub steal-requires : goal.steal-requires
steal-requires g c = record {
  pass = rw (c.index-stealer.ensures, c.index_mut-pass.ensures.value)
      (each_at c.args.stealers.now.items c.args.passes.now.items c.args.from c.index-stealer.result.now
      c.index_mut-pass.result.now c.requires.each (omega arith));
}

pub returns-clause-each : goal.returns-clause-each
returns-clause-each g c = each_set c.args.stealers.now.items c.args.passes.now.items c.args.from
    c.index-stealer.result.now c.steal.new.pass c.requires.each (rw c.index-stealer.ensures at c.steal.ensures.pass.0)
    c.steal.ensures.pass.1

pub returns-clause-taken : goal.returns-clause-taken
returns-clause-taken g c = taken_steal g.K.VisitedJobs.is_visited c.steal.result c.args.passes.now.items c.args.from
    c.index_mut-pass.result.now c.steal.new.pass (omega arith) (rw c.index_mut-pass.ensures.value at c.steal.ensures.view)
