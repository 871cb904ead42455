use Rattle.std.proofs.Common.{◌≡◌, false, take}
use Rattle.std.specs.List.{All}
use Rattle.mesh_grid.specs.Grid.Places.{has_edge}
use Rattle.mesh_grid.proofs.grid.places.place_of_edge.Given as goal

abbrev pub invariant-loop-index : goal.invariant-loop-index
invariant-loop-index l = All (λ t. has_edge (record { from = l.from; to = l.to }) t ≡ false) (take l.index l.tris)
