use Rattle.std.proofs.Common.{◌<◌, refl, ap, ◌∙◌, subst, length, arith}
use Rattle.steal_core.specs.Core.{Core, is_queued, LastAt}
use Rattle.steal_core.specs.declared.place.Place.TheVariants.{Hand}
use Rattle.steal_core.proofs.CodeSteps.{Relocates, no_drain, has_none_same, last_below, steps_drain}
use Rattle.steal_core.proofs.state.State.drain.Goals as goal

pub same-self : goal.same-self
same-self c = refl

pub returns-then-from-self : goal.returns-then-from-self
returns-then-from-self c = (refl, λ new s. omega (arith, ap (λ (s : Core). s.workers) c.self.view_is, c.if-from-self.true, s.0))

pub same-self-in_default : goal.same-self-in_default
same-self-in_default c = refl

pub returns-in_default : goal.returns-in_default
returns-in_default c = (
  refl,
  no_drain c.args.from c.args.self.now
      (has_none_same (is_queued c.args.from) c.deref.result.now c.args.self.now.boxes c.in_default.ensures
      (c.deref.ensures.value ∙ ap (λ (s : Core). s.boxes) c.self.view_is)),
)

pub same-self-2 : goal.same-self-2
same-self-2 c = refl

pub same-relocate : goal.same-relocate
same-relocate c = refl

pub relocate-requires : goal.relocate-requires
relocate-requires c =
    subst (λ xs. c.in-Some.i < length xs) (c.deref.ensures.value ∙ ap (λ (s : Core). s.boxes) c.self.view_is)
    (last_below (is_queued c.args.from) _ _ c.in-Some.ensures)

pub returns : goal.returns
returns c =
    steps_drain c.args.from c.in-Some.i c.args.self.now c.relocate-2.new.self
    (subst (λ (s : Core). c.args.from < s.workers) c.self.view_is c.if-from-self.false)
    (subst (λ xs. LastAt (is_queued c.args.from) xs c.in-Some.i) (c.deref.ensures.value ∙ ap (λ (s : Core). s.boxes) c.self.view_is) c.in-Some.ensures)
    (subst (λ n. Relocates c.in-Some.i (Hand n) c.args.self.now c.relocate-2.new.self) (ap (λ (s : Core). s.workers) c.relocate.view_is) c.relocate-2.ensures)
