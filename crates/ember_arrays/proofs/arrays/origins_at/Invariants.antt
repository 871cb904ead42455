use Rattle.std.proofs.Common.{◌≡◌, map, take}
use Rattle.ember_arrays.specs.Sources.{origin_at}
use Rattle.ember_arrays.proofs.arrays.origins_at.Given as goal

abbrev pub invariant-loop-piece : goal.invariant-loop-piece
invariant-loop-piece l = l.origins.items ≡ map (origin_at l.rounded) (take l.piece-index l.pieces)
