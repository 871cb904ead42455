-- The steps from a face file to tables, to triangles, and to the mesh of the document or a fault of it.
use Rattle.std.proofs.Common.{◌≡◌, ◌⊎◌, inl, inr, ℕ, subst, ◌∙◌, List, length, Result, Ok, Err, IfOk}
use Rattle.mesh_certificate.specs.declared.certificate.segment.Segment.{Segment}
use Rattle.mesh_point.specs.declared.space_point.SpacePoint.{SpacePoint}
use Rattle.mesh_certificate.specs.declared.certificate.triangle.Triangle.{Triangle}
use Rattle.mesh_certificate.specs.Certificate.Certificate.{IsCertified}
use Rattle.ember_expr.specs.Formula.{Formula}
use Rattle.ember_model.specs.declared.face.Face.{Face}
use Rattle.ember_model.specs.declared.plane.Plane.{Plane}
use Rattle.ember_model.specs.declared.tri.Tri.{Tri}
use Rattle.ember_model.specs.FaceFiles.{IsFaceFile}
use Rattle.mesh_certificate.specs.declared.key.lines.LineKey.{LineKey}
use Rattle.ember_meaning.specs.Regions.Solids.{IsSolidText}
use Rattle.ember_reread.specs.declared.fault.RereadFault.{RereadFault}
use Rattle.ember_reread.specs.declared.fault.RereadFault.TheVariants as reread
use Rattle.mesh_solid.specs.declared.tables.fault.TableFault.{TableFault}
use Rattle.mesh_solid.specs.declared.tables.fault.TableFault.TheVariants as table
use Rattle.mesh_solid.specs.declared.tables.tables.Tables.{Tables}
use Rattle.mesh_solid.specs.Tables.Edges.{face_edges_of}
use Rattle.mesh_solid.specs.Tables.Tables.{AreTables, IsFault}
use Rattle.mesh_solid.specs.declared.mesh.fault.SolidFault.{SolidFault}
use Rattle.mesh_solid.specs.declared.mesh.fault.SolidFault.TheVariants.{NoTables, NotCut, OutOfMemory}
use Rattle.mesh_solid.specs.declared.mesh.mesh.SolidMesh.{SolidMesh}
use Rattle.mesh_solid.specs.Mesh.FaceTables.{AreTablesIn}
use Rattle.mesh_solid.specs.Mesh.Faults.{IsCutFault, IsDocumentFault, IsFileFault, IsSolidFault, of_reading_fault, of_table_fault}
use Rattle.mesh_solid.specs.Mesh.Meshes.{IsMeshOf, IsDocumentMesh}

-- triangles are certified of equal lists
pub certified_of : {ps qs : List Plane} {ls ks : List LineKey} {cs ds : List SpacePoint} {ss us : List Segment}
    (ts : List Triangle) → ps ≡ qs → ls ≡ ks → cs ≡ ds → ss ≡ us → IsCertified ps ls cs ss ts → IsCertified qs ks ds us ts
certified_of {ps} {qs} {ls} {ks} {cs} {ds} {ss} {us} ts a l b d h =
    let on_planes : IsCertified qs ls cs ss ts = subst (λ (ps : List Plane). IsCertified ps ls cs ss ts) a h in
    let on_lines : IsCertified qs ks cs ss ts = subst (λ (ls : List LineKey). IsCertified qs ls cs ss ts) l on_planes in
    let on_corners : IsCertified qs ks ds ss ts = subst (λ (cs : List SpacePoint). IsCertified qs ks cs ss ts) b on_lines in
    subst (λ (ss : List Segment). IsCertified qs ks ds ss ts) d on_corners

module _ (bytes : List ℕ) (faces given : List Face) (read : IsFaceFile bytes faces) (e : given ≡ faces) where
  -- the fault of the tables of faces that a file holds
  pub table_fault_is : (fault : TableFault) → IsFault (face_edges_of 0 given) fault → IsFileFault bytes (of_table_fault fault)
  table_fault_is fault h = of_faces fault (subst (λ (fs : List Face). IsFault (face_edges_of 0 fs) fault) e h)
    where
      of_faces : (fault : TableFault) → IsFault (face_edges_of 0 faces) fault → IsFileFault bytes (of_table_fault fault)
      of_faces (table.NoLine n) h = record { faces = faces; read = read; is_fault = h; of_faces = λ q. cc }
      of_faces (table.NoCorner n) h = record { faces = faces; read = read; is_fault = h; of_faces = λ q. cc }
      of_faces table.TooMany h = record { faces = faces; read = read; is_fault = h; of_faces = λ q. cc }
      of_faces table.OutOfMemory h = tt

  module _ (tables : Tables) (are : AreTables (face_edges_of 0 given) tables) where
    tables_are : AreTablesIn bytes tables
    tables_are =
        record { faces = faces; read = read; are_tables = subst (λ (fs : List Face). AreTables (face_edges_of 0 fs) tables) e are }

    -- the mesh of the tables is that of the document
    pub document_mesh_is : (result : Result SolidMesh SolidFault) (count : ℕ) → count ≡ length faces →
        IfOk result (IsMeshOf tables) → IfOk result (λ mesh. mesh.faces ≡ count) → IfOk result (IsDocumentMesh bytes)
    unfolding tables_are
    document_mesh_is (Ok mesh) count many cut counted =
        record { tables = tables; tables_are = tables_are; cut = cut; faces = counted ∙ many }
    document_mesh_is (Err fault) count many cut counted = tt

    -- and their fault is one of the document
    pub cut_fault_is : (fault : SolidFault) → IsCutFault fault → IsFileFault bytes fault
    cut_fault_is (NoTables fault) is = absurd is
    cut_fault_is (NotCut fault) is = record { tables = tables; are_tables = tables_are; of_triangles = is }
    cut_fault_is OutOfMemory is = tt

-- the fault of a reader
pub reading_fault_is : (bytes : List ℕ) (cause : RereadFault) →
    (cause ≡ reread.OutOfMemory) ⊎ ((faces : List Face) → IsFaceFile bytes faces → ⊥) →
    IsDocumentFault bytes (of_reading_fault cause)
reading_fault_is bytes reread.Form (inl memory) = absurd (clash memory)
  where
    clash : reread.Form ≡ reread.OutOfMemory → ⊥
    clash e = cc
reading_fault_is bytes reread.Form (inr none) = λ held. none held.0 held.1
reading_fault_is bytes reread.OutOfMemory h = tt

-- the fault of a solid's mesh is that of its document
pub solid_fault_is : (tris : List Tri) (formula : Formula) (bytes : List ℕ) → IsSolidText tris formula bytes →
    (fault : SolidFault) → IsFileFault bytes fault → IsSolidFault tris formula fault
solid_fault_is tris formula bytes text (NoTables fault) is = (bytes, text, is)
solid_fault_is tris formula bytes text (NotCut fault) is = (bytes, text, is)
solid_fault_is tris formula bytes text OutOfMemory is = tt
