use Rattle.std.proofs.Common.{◌≡◌, ◌*◌}
use Rattle.ember_gen.specs.Numbers.{state}
use Rattle.ember_gen.specs.Scene.{evens, odds, mesh_of}
use Rattle.ember_gen.proofs.scene.meshes_of.Given as goal

abbrev pub invariant-loop-i : goal.invariant-loop-i
invariant-loop-i l =
    (l.numbers.last ≡ state (6 * l.i)) × (l.meshes.first.items ≡ mesh_of 1 (evens l.i)) × (l.meshes.second.items ≡ mesh_of 2 (odds l.i))
