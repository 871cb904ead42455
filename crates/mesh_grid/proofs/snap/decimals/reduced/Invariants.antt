use Rattle.std.proofs.Common.{◌≡◌, ◌≤◌, ◌<◌, ◌-◌, ◌*◌, ◌^◌}
use Rattle.mesh_grid.proofs.snap.decimals.reduced.Given as goal

abbrev pub invariant-loop-places : goal.invariant-loop-places
invariant-loop-places l = record {
  positive : 0 < l.number;
  few : l.places ≤ 12;
  same : l.number * 10 ^ (12 - l.places) ≡ l.trillionths;
}

abbrev pub decreases-loop-places : goal.decreases-loop-places
decreases-loop-places l = l.places
