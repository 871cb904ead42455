use Rattle.std.proofs.Common.{◌≡◌, ◌≤◌, List, ℕ, ◌++◌, length}
use Rattle.mesh_outside.specs.Target.Targets.{Grows}
use Rattle.mesh_outside.proofs.target.target.write_and_keep.Given as goal

abbrev pub invariant-loop-rest : goal.invariant-loop-rest
invariant-loop-rest g l =
    record {
      begun : g.T.Target.begun l.target ≡ g.T.Target.begun l.fn.target;
      later : g.T.Target.faults l.fn.target ≤ g.T.Target.faults l.target;
      bytes : (front : List ℕ) × (l.fn.bytes ≡ front ++ l.rest) × Grows (g.T.Target.begun l.fn.target)
          (g.T.Target.held l.fn.target) (g.T.Target.held l.target) front;
    }

abbrev pub decreases-loop-rest : goal.decreases-loop-rest
decreases-loop-rest g l = length l.rest
