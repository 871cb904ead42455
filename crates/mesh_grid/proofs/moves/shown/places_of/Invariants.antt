use Rattle.std.proofs.Common.{◌≡◌, ◌≤◌}
use Rattle.mesh_grid.specs.Moves.Shown.{places_up_to}
use Rattle.mesh_grid.proofs.moves.shown.places_of.Given as goal

abbrev pub invariant-loop-places : goal.invariant-loop-places
invariant-loop-places l = record {
  few : l.places ≤ 12;
  same : places_up_to l.root l.under l.places ≡ places_up_to l.root l.under 12;
}

abbrev pub decreases-loop-places : goal.decreases-loop-places
decreases-loop-places l = l.places
