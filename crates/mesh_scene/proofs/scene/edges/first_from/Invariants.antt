use Rattle.std.proofs.Common.{◌≡◌, ◌-◌, ◌≤◌, ℕ, length, drop}
use Rattle.ember_balance.specs.Counts.{count}
use Rattle.mesh_scene.proofs.scene.edges.first_from.Given as goal

abbrev pub invariant-loop-index : goal.invariant-loop-index
invariant-loop-index l =
    (l.index ≤ length l.numbers) × ((n : ℕ) → l.number ≤ n → count n (drop l.index l.numbers) ≡ count n (drop l.start l.numbers))

abbrev pub decreases-loop-index : goal.decreases-loop-index
decreases-loop-index l = length l.numbers - l.index
