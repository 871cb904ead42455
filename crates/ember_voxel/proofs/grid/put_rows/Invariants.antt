use Rattle.ember_voxel.specs.Grid.{AddsRows}
use Rattle.ember_voxel.proofs.grid.put_rows.Given as goal

abbrev pub invariant-loop : goal.invariant-loop
invariant-loop l = AddsRows l.n l.counter l.initial.text.items l.text.items
