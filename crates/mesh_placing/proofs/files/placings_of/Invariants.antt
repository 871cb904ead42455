use Rattle.std.proofs.Common.{◌≡◌, length}
use Rattle.std.specs.List.{AllZip, range_with_len}
use Rattle.mesh_placing.specs.Files.{IsPlacingOf}
use Rattle.mesh_placing.proofs.files.placings_of.Given as goal

abbrev pub invariant-loop-index : goal.invariant-loop-index
invariant-loop-index l = record {
  each : AllZip (IsPlacingOf l.files l.places l.turns) (range_with_len 1 l.index) l.placings.items;
  all : length l.placings.items ≡ l.index;
}
