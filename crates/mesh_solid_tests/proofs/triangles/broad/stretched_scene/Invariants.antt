use Rattle.std.proofs.Common.{◌≡◌, map, take}
use Rattle.mesh_solid_tests.specs.Stretched.{stretched_tri}
use Rattle.mesh_solid_tests.proofs.triangles.broad.stretched_scene.Given as goal

abbrev pub invariant-loop-t : goal.invariant-loop-t
invariant-loop-t l = l.tris.items ≡ map stretched_tri (take l.t-index l.fn.scene.tris)
