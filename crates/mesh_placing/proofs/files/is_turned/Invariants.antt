use Rattle.std.proofs.Common.{◌≡◌, drop}
use Rattle.mesh_placing.specs.Files.{is_turned}
use Rattle.mesh_placing.proofs.files.is_turned.Given as goal

abbrev pub invariant-loop-turn : goal.invariant-loop-turn
invariant-loop-turn l = is_turned l.files l.number (drop l.turn-index l.turns) ≡ is_turned l.files l.number l.turns
