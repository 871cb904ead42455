-- The faces of a mesh's triangles
use Rattle.std.specs.Prelude.{List}
use Rattle.ember_model.specs.declared.face.Face.{Face}
use Rattle.mesh_solid.specs.Winding.TriangleFaces.{triangle_faces}
use Rattle.mesh_solid.specs.declared.mesh.mesh.SolidMesh.{SolidMesh}

-- a face for each of its triangles, exact and on the grid
abbrev pub faces_of_mesh : SolidMesh → List Face
faces_of_mesh mesh = triangle_faces mesh.planes.items mesh.corners.items mesh.triangles.items
