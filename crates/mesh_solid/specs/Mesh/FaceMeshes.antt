-- The mesh of faces: of those in the document of a solid, or of those of its outlines on the broad grid
use Rattle.std.specs.Prelude.{◌≡◌, ◌≢◌, ⊤, ℕ, List, None, length}
use Rattle.ember_expr.specs.Formula.{Formula}
use Rattle.ember_model.specs.declared.face.Face.{Face}
use Rattle.ember_model.specs.declared.tri.Tri.{Tri}
use Rattle.ember_model.specs.Limits.{broad_limit, most_meshes}
use Rattle.ember_model.specs.Meshes.{IsScene}
use Rattle.ember_meaning.specs.Regions.Solids.{AreSolidFaces}
use Rattle.ember_query.specs.BroadLeaves.{AreBroadSceneOutlines, IsReportOnBroad}
use Rattle.ember_width.specs.Scenes.{IsSceneWithin}
use Rattle.mesh_triangles.specs.declared.fault.TrianglesFault.{TrianglesFault}
use Rattle.mesh_triangles.specs.declared.fault.TrianglesFault.TheVariants as triangles
use Rattle.mesh_solid.specs.declared.mesh.fault.SolidFault.{SolidFault}
use Rattle.mesh_solid.specs.declared.mesh.fault.SolidFault.TheVariants.{NoTables, NotCut, OutOfMemory}
use Rattle.mesh_solid.specs.declared.mesh.mesh.SolidMesh.{SolidMesh}
use Rattle.mesh_solid.specs.declared.mesh.solid.SolidRun.{SolidRun}
use Rattle.mesh_solid.specs.declared.tables.fault.TableFault.{TableFault}
use Rattle.mesh_solid.specs.declared.tables.fault.TableFault.TheVariants as table
use Rattle.mesh_solid.specs.declared.tables.tables.Tables.{Tables}
use Rattle.mesh_solid.specs.Mesh.Meshes.{IsMeshOf}
use Rattle.mesh_solid.specs.Tables.Edges.{face_edges_of}
use Rattle.mesh_solid.specs.Tables.Tables.{AreTables, IsFault}

-- ---- faces
-- the mesh is that of these faces
pub record IsFacesMesh (faces : List Face) (mesh : SolidMesh) : Type 0 where
  pub tables : Tables
  pub are_tables : AreTables (face_edges_of 0 faces) tables
  pub cut : IsMeshOf tables mesh
  pub count : mesh.faces ≡ length faces

-- the faces have this fault, and it isn't want of memory
pub record HaveFacesFault (faces : List Face) (fault : TableFault) : Type 0 where
  pub is_fault : IsFault (face_edges_of 0 faces) fault
  pub of_faces : fault ≢ table.OutOfMemory

-- they have tables but no triangles were found, and not for want of memory
pub record HaveNoTriangles (faces : List Face) (fault : TrianglesFault) : Type 0 where
  pub tables : Tables
  pub are_tables : AreTables (face_edges_of 0 faces) tables
  pub of_triangles : fault ≢ triangles.OutOfMemory

-- why faces give no mesh
abbrev pub IsFacesFault : List Face → SolidFault → Type 0
IsFacesFault faces (NoTables fault) = HaveFacesFault faces fault
IsFacesFault faces (NotCut fault) = HaveNoTriangles faces fault
IsFacesFault faces OutOfMemory = ⊤

-- ---- solids on both grids
-- the faces are those of the solid of an expression over a scene: those in its document, if the scene is one of the
-- narrow grid, or those of the outlines of its written regions, if it is one of the broad grid
pub data AreFacesOfSolid (tris : List Tri) (formula : Formula) (faces : List Face) : Type 0 where
  in_document : (meshes : ℕ) → IsScene tris meshes → AreSolidFaces tris formula faces → AreFacesOfSolid tris formula faces
  outlined : IsSceneWithin broad_limit tris most_meshes → AreBroadSceneOutlines tris formula faces →
      AreFacesOfSolid tris formula faces

-- the mesh is that of the solid's faces
pub record IsMeshOfSolid (tris : List Tri) (formula : Formula) (mesh : SolidMesh) : Type 0 where
  pub faces : List Face
  pub of_solid : AreFacesOfSolid tris formula faces
  pub of_faces : IsFacesMesh faces mesh

-- ---- a run on the broad grid
-- the mesh is that of the outlines' faces, the report is that of the run, and there is no document
pub record IsBroadRun (tris : List Tri) (formula : Formula) (solid : SolidRun) : Type 0 where
  pub faces : List Face
  pub outlines : AreBroadSceneOutlines tris formula faces
  pub mesh : IsFacesMesh faces solid.mesh
  pub report : IsReportOnBroad tris formula faces solid.report
  pub document : solid.document ≡ None

-- the faces of the outlines have a fault, or they have tables but no triangles were found, or memory is short
abbrev pub IsBroadFault : List Tri → Formula → SolidFault → Type 0
IsBroadFault tris formula OutOfMemory = ⊤
IsBroadFault tris formula fault = (faces : List Face) × AreBroadSceneOutlines tris formula faces × IsFacesFault faces fault
