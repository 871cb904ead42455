use Rattle.std.proofs.Common.{take}
use Rattle.mesh_write.specs.Vertices.Vertices.{IsMeshOf}
use Rattle.mesh_scene.specs.SceneFile.Meshes.{triangles_of}
use Rattle.mesh_scene.proofs.scene_file.mesh.indexed_mesh.Given as goal

abbrev pub invariant-loop-tri : goal.invariant-loop-tri
invariant-loop-tri l = IsMeshOf (triangles_of l.mesh (take l.tri-index l.tris)) l.indexed
