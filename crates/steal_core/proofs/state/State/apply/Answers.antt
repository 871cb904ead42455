use Rattle.std.proofs.Common.{◌≡◌, Bool, subst, sym}
use Rattle.steal_core.specs.Core.{Core, Fits, OnAnswer}
use Rattle.steal_core.specs.declared.place.Event.{Event}
use Rattle.steal_core.proofs.state.State.apply.Goals as goal

-- the step that was done is the given event's
told : (b : Bool) (given done : Event) (old new : Core) → given ≡ done → OnAnswer b done old new → OnAnswer b given old new
told b given done old new is h = subst (λ e. OnAnswer b e old new) (sym is) h

pub push-requires : goal.push-requires
push-requires c = subst (λ e. Fits e c.args.self.now) c.in-Push.is c.requires

pub hold-requires : goal.hold-requires
hold-requires c = subst (λ e. Fits e c.args.self.now) c.in-Hold.is c.requires

pub returns-in-Push : goal.returns-in-Push
returns-in-Push c = told _ _ _ _ _ c.in-Push.is c.push.ensures

pub returns-in-Hold : goal.returns-in-Hold
returns-in-Hold c = told _ _ _ _ _ c.in-Hold.is c.hold.ensures

pub returns-in-Pop : goal.returns-in-Pop
returns-in-Pop c = told _ _ _ _ _ c.in-Pop.is c.pop.ensures

pub returns-in-Steal : goal.returns-in-Steal
returns-in-Steal c = told _ _ _ _ _ c.in-Steal.is c.steal.ensures

pub returns-in-Drain : goal.returns-in-Drain
returns-in-Drain c = told _ _ _ _ _ c.in-Drain.is c.drain.ensures

pub returns-in-Finish : goal.returns-in-Finish
returns-in-Finish c = told _ _ _ _ _ c.in-Finish.is c.finish.ensures
