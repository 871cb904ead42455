use Rattle.std.proofs.Common.{◌<◌, refl, ap, ◌∙◌, subst, length, arith}
use Rattle.steal_core.specs.Core.{Core, is_queued, FirstAt}
use Rattle.steal_core.proofs.CodeSteps.{no_steal, has_none_same, first_below, steps_steal}
use Rattle.steal_core.proofs.state.State.steal.Goals as goal
use Rattle.steal_core.proofs.state.State.steal.Goals.{then-by-self-via-then-by-self, then-by-self-via-else-by-self+then-from-self}

pub same-self : goal.same-self
same-self c = refl

pub returns-then-by-self : goal.returns-then-by-self
returns-then-by-self c =
    let workers = ap (λ (s : Core). s.workers) c.self.view_is in (
      refl,
      λ new s. elim c.then-by-self.branch [
        | then-by-self-via-then-by-self w ↦ omega (arith, workers, w.if-by-self.true, s.0)
        | then-by-self-via-else-by-self+then-from-self w ↦ omega (arith, workers, w.if-from-self.true, s.1)
      ],
    )

pub same-self-in_default : goal.same-self-in_default
same-self-in_default c = refl

pub returns-in_default : goal.returns-in_default
returns-in_default c = (
  refl,
  no_steal c.args.by c.args.from c.args.self.now
      (has_none_same (is_queued c.args.from) c.deref.result.now c.args.self.now.boxes c.in_default.ensures
      (c.deref.ensures.value ∙ ap (λ (s : Core). s.boxes) c.self.view_is)),
)

pub same-self-2 : goal.same-self-2
same-self-2 c = refl

pub relocate-requires : goal.relocate-requires
relocate-requires c =
    subst (λ xs. c.in-Some.i < length xs) (c.deref.ensures.value ∙ ap (λ (s : Core). s.boxes) c.self.view_is)
    (first_below (is_queued c.args.from) _ _ c.in-Some.ensures)

pub returns : goal.returns
returns c =
    steps_steal c.args.by c.args.from c.in-Some.i _ _
    (subst (λ (s : Core). c.args.by < s.workers) c.self.view_is c.if-by-self.false)
    (subst (λ (s : Core). c.args.from < s.workers) c.self.view_is c.if-from-self.false)
    (subst (λ xs. FirstAt (is_queued c.args.from) xs c.in-Some.i) (c.deref.ensures.value ∙ ap (λ (s : Core). s.boxes) c.self.view_is) c.in-Some.ensures)
    c.relocate.ensures
