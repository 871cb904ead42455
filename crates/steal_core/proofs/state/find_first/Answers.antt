use Rattle.std.proofs.Common.{sym, ◌∙◌}
use Rattle.steal_core.specs.Core.{is_queued}
use Rattle.steal_core.proofs.CodeSteps.{search_passes_one}
use Rattle.steal_core.proofs.state.find_first.Goals as goal

pub loop-placed-preserved : goal.loop-placed-preserved
loop-placed-preserved c = search_passes_one (is_queued c.args.from) c.args.boxes.now c.loop-placed.rest.now
    c.in-Some.after.now c.in-Some.placed.now c.loop-placed.i c.loop-placed.invariant c.in-Some.ensures.cases.0
    (sym c.queued.ensures ∙ c.if-queued.false)
