-- What is said of all meshes of solids, and of documents
use Rattle.std.specs.Prelude.{ℕ, List}
use Rattle.ember_expr.specs.Formula.{Formula}
use Rattle.ember_meaning.specs.Regions.Meaning.{IsFalseOutside}
use Rattle.ember_model.specs.Meshes.{IsScene}
use Rattle.ember_model.specs.declared.tri.Tri.{Tri}
use Rattle.mesh_certificate.specs.Certificate.Certificate.{edges_in}
use Rattle.mesh_certificate.specs.Certificate.Closed.{AreSegmentsClosed}
use Rattle.mesh_solid.specs.declared.mesh.mesh.SolidMesh.{SolidMesh}
use Rattle.mesh_solid.specs.Mesh.Meshes.{IsOutlinedMesh, IsSolidMesh}

-- it is so of the mesh of each solid whose expression is false outside
abbrev pub AllSolidMeshes : ((tris : List Tri) (formula : Formula) (mesh : SolidMesh) →
    IsSolidMesh tris formula mesh → Type 0) → Type 0
AllSolidMeshes Is =
    (tris : List Tri) (meshes : ℕ) (formula : Formula) (mesh : SolidMesh) → IsScene tris meshes →
    IsFalseOutside formula → (is : IsSolidMesh tris formula mesh) → Is tris formula mesh is

-- it is so of the mesh of each document whose written edges are the outlines of its faces
abbrev pub AllOutlined : ((bytes : List ℕ) (mesh : SolidMesh) → IsOutlinedMesh bytes mesh → Type 0) → Type 0
AllOutlined Is = (bytes : List ℕ) (mesh : SolidMesh) → (is : IsOutlinedMesh bytes mesh) → Is bytes mesh is

-- from each corner to each other one run as many edges of the mesh's triangles as back
abbrev pub HasClosedEdges : SolidMesh → Type 0
HasClosedEdges mesh = AreSegmentsClosed (edges_in mesh.triangles.items)
