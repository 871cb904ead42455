use Rattle.std.proofs.Common.{All, take}
use Rattle.mesh_arrays.specs.Arrays.{IsShort}
use Rattle.ember_arrays.proofs.asked.first_long.Given as goal

abbrev pub invariant-loop-index : goal.invariant-loop-index
invariant-loop-index l = All IsShort (take l.index l.meshes)
