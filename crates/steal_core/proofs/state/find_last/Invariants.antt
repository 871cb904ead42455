use Rattle.std.proofs.Common.{◌≡◌, ◌++◌, List, length}
use Rattle.steal_core.specs.declared.place.Placed.{Placed}
use Rattle.steal_core.specs.Core.{is_queued, HasNone}
use Rattle.steal_core.proofs.state.find_last.Given as goal

abbrev pub invariant-loop-placed : goal.invariant-loop-placed
invariant-loop-placed l = (back : List Placed) × (l.boxes ≡ l.rest ++ back) × HasNone (is_queued l.from) back

abbrev pub decreases-loop-placed : goal.decreases-loop-placed
decreases-loop-placed l = length l.rest
