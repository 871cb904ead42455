use Rattle.std.proofs.Common.{refl, ap, ◌∙◌}
use Rattle.steal_core.specs.Core.{Core, is_queued}
use Rattle.steal_core.proofs.CodeSteps.{no_pop, has_none_same}
use Rattle.steal_core.proofs.state.State.pop.Goals as goal

pub returns-in_default : goal.returns-in_default
returns-in_default c = (
  refl,
  no_pop c.args.by c.args.self.now
      (has_none_same (is_queued c.args.by) c.deref.result.now c.args.self.now.boxes c.in_default.ensures
      (c.deref.ensures.value ∙ ap (λ (s : Core). s.boxes) c.self.view_is)),
)
