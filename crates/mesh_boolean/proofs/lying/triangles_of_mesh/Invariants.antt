use Rattle.std.proofs.Common.{◌≡◌, take}
use Rattle.ember_model.specs.Meshes.{of_mesh}
use Rattle.mesh_boolean.proofs.lying.triangles_of_mesh.Given as goal

abbrev pub invariant-loop-t : goal.invariant-loop-t
invariant-loop-t l = l.own.items ≡ of_mesh l.mesh (take l.t-index l.tris)
