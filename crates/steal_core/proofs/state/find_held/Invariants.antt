use Rattle.std.proofs.Common.{◌≡◌, ◌++◌, List, length}
use Rattle.steal_core.specs.declared.place.Placed.{Placed}
use Rattle.steal_core.specs.Core.{is_held, HasNone}
use Rattle.steal_core.proofs.state.find_held.Given as goal

abbrev pub invariant-loop-placed : goal.invariant-loop-placed
invariant-loop-placed l = (front : List Placed) × (l.boxes ≡ front ++ l.rest) × HasNone (is_held l.by l.path) front × (l.i ≡ length front)

abbrev pub decreases-loop-placed : goal.decreases-loop-placed
decreases-loop-placed l = length l.rest
