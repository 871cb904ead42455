-- The steps from faces to tables, to triangles, and to the mesh of the faces or a fault of them.
use Rattle.std.proofs.Common.{◌≡◌, ℕ, subst, ◌∙◌, List, length, Result, Ok, Err, IfOk}
use Rattle.ember_expr.specs.Formula.{Formula}
use Rattle.ember_model.specs.declared.face.Face.{Face}
use Rattle.ember_model.specs.declared.tri.Tri.{Tri}
use Rattle.ember_query.specs.BroadLeaves.{AreBroadSceneOutlines}
use Rattle.mesh_solid.specs.declared.tables.fault.TableFault.{TableFault}
use Rattle.mesh_solid.specs.declared.tables.fault.TableFault.TheVariants as table
use Rattle.mesh_solid.specs.declared.tables.tables.Tables.{Tables}
use Rattle.mesh_solid.specs.declared.mesh.fault.SolidFault.{SolidFault}
use Rattle.mesh_solid.specs.declared.mesh.fault.SolidFault.TheVariants.{NoTables, NotCut, OutOfMemory}
use Rattle.mesh_solid.specs.declared.mesh.mesh.SolidMesh.{SolidMesh}
use Rattle.mesh_solid.specs.Mesh.FaceMeshes.{IsFacesMesh, IsFacesFault, IsBroadFault}
use Rattle.mesh_solid.specs.Mesh.Faults.{IsCutFault, of_table_fault}
use Rattle.mesh_solid.specs.Mesh.Meshes.{IsMeshOf}
use Rattle.mesh_solid.specs.Tables.Edges.{face_edges_of}
use Rattle.mesh_solid.specs.Tables.Tables.{AreTables, IsFault}

module _ (faces given : List Face) (e : given ≡ faces) where
  -- the fault of the tables of faces
  pub faces_table_fault : (fault : TableFault) → IsFault (face_edges_of 0 given) fault → IsFacesFault faces (of_table_fault fault)
  faces_table_fault fault h = of_faces fault (subst (λ (fs : List Face). IsFault (face_edges_of 0 fs) fault) e h)
    where
      of_faces : (fault : TableFault) → IsFault (face_edges_of 0 faces) fault → IsFacesFault faces (of_table_fault fault)
      of_faces (table.NoLine n) h = record { is_fault = h; of_faces = λ q. cc }
      of_faces (table.NoCorner n) h = record { is_fault = h; of_faces = λ q. cc }
      of_faces table.TooMany h = record { is_fault = h; of_faces = λ q. cc }
      of_faces table.OutOfMemory h = tt

  module _ (tables : Tables) (are : AreTables (face_edges_of 0 given) tables) where
    are_tables : AreTables (face_edges_of 0 faces) tables
    are_tables = subst (λ (fs : List Face). AreTables (face_edges_of 0 fs) tables) e are

    -- the mesh of the tables is that of the faces
    pub faces_mesh_is : (result : Result SolidMesh SolidFault) (count : ℕ) → count ≡ length faces →
        IfOk result (IsMeshOf tables) → IfOk result (λ mesh. mesh.faces ≡ count) → IfOk result (IsFacesMesh faces)
    faces_mesh_is (Ok mesh) count many cut counted =
        record { tables = tables; are_tables = are_tables; cut = cut; count = counted ∙ many }
    faces_mesh_is (Err fault) count many cut counted = tt

    -- and their fault is one of the faces
    pub faces_cut_fault : (fault : SolidFault) → IsCutFault fault → IsFacesFault faces fault
    faces_cut_fault (NoTables fault) is = absurd is
    faces_cut_fault (NotCut fault) is = record { tables = tables; are_tables = are_tables; of_triangles = is }
    faces_cut_fault OutOfMemory is = tt

-- the fault of the faces of outlines is one of the solid
pub broad_fault_is : (tris : List Tri) (formula : Formula) (faces : List Face) → AreBroadSceneOutlines tris formula faces →
    (fault : SolidFault) → IsFacesFault faces fault → IsBroadFault tris formula fault
broad_fault_is tris formula faces outlines (NoTables fault) is = (faces, outlines, is)
broad_fault_is tris formula faces outlines (NotCut fault) is = (faces, outlines, is)
broad_fault_is tris formula faces outlines OutOfMemory is = tt
