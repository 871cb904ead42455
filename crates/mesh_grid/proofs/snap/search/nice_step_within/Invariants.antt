use Rattle.std.proofs.Common.{ℕ, ◌<◌}
use Rattle.mesh_grid.specs.Snap.Steps.{nice_of}
use Rattle.mesh_grid.specs.Snap.Spans.{FitsAllWithin}
use Rattle.mesh_grid.specs.Snap.Sizes.{limit_of}
use Rattle.mesh_grid.proofs.snap.search.nice_step_within.Given as goal

abbrev pub invariant-loop-rank : goal.invariant-loop-rank
invariant-loop-rank l = (lower : ℕ) → lower < l.rank → FitsAllWithin (limit_of l.size) (nice_of lower) l.coordinates → ⊥
