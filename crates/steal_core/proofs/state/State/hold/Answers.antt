use Rattle.std.proofs.Common.{refl, ap, ◌∙◌}
use Rattle.steal_core.specs.Core.{Core, is_held}
use Rattle.steal_core.proofs.CodeSteps.{no_hold, has_none_same}
use Rattle.steal_core.proofs.state.State.hold.Goals as goal

pub returns-in_default : goal.returns-in_default
returns-in_default c = (
  refl,
  no_hold c.args.by c.args.path c.args.self.now
      (has_none_same (is_held c.args.by c.args.path) c.deref.result.now c.args.self.now.boxes c.in_default.ensures
      (c.deref.ensures.value ∙ ap (λ (s : Core). s.boxes) c.self.view_is)),
)
