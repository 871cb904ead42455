use Rattle.std.proofs.Common.{◌≡◌, ◌<◌, ◌≤◌, ℕ, None}
use Rattle.mesh_outside.specs.Target.Targets.{new_name, IsTaken, HoldsSame}
use Rattle.mesh_outside.proofs.target.target.begin_beside.Given as goal

abbrev pub invariant-loop-number : goal.invariant-loop-number
invariant-loop-number g l =
    record {
      none_begun : g.T.Target.begun l.target ≡ None;
      held : HoldsSame (g.T.Target.held l.fn.target) (g.T.Target.held l.target);
      later : g.T.Target.faults l.fn.target ≤ g.T.Target.faults l.target;
      taken : (number : ℕ) → number < l.number → IsTaken (g.T.Target.held l.fn.target) (new_name l.front number);
    }
