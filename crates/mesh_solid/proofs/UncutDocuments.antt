-- Why a document got no triangles
use Rattle.std.proofs.Common.{◌≡◌, ◌≢◌, ℕ, List, map, refl, subst}
use Rattle.ember_model.specs.declared.face.Face.{Face}
use Rattle.ember_model.specs.FaceFiles.{WrittenFace}
use Rattle.ember_reread.specs.Cornered.{IsFileOf}
use Rattle.ember_reread.specs.Lines.{face_in}
use Rattle.mesh_triangles.specs.declared.fault.TrianglesFault.{TrianglesFault}
use Rattle.mesh_triangles.specs.declared.fault.TrianglesFault.TheVariants as triangles
use Rattle.mesh_solid.specs.declared.mesh.fault.DocumentFault.TheVariants as document
use Rattle.mesh_solid.specs.declared.tables.fault.TableFault.{TableFault}
use Rattle.mesh_solid.specs.declared.tables.fault.TableFault.TheVariants as table
use Rattle.mesh_solid.specs.declared.tables.tables.Tables.{Tables}
use Rattle.mesh_solid.specs.Mesh.FaceTables.{AreTablesIn}
use Rattle.mesh_solid.specs.Mesh.Faults.{IsDocumentFault, of_tables_fault}
use Rattle.mesh_solid.specs.Refusal.ClosedLines.{AreLinesClosed}
use Rattle.mesh_solid.specs.Refusal.Overlaps.{HaveOverlap}
use Rattle.mesh_solid.specs.Tables.Edges.{face_edges_of}
use Rattle.mesh_solid.specs.Tables.Tables.{AreTables, IsFault}

module _ (ws : List WrittenFace) (bytes : List ℕ) (file : IsFileOf ws bytes) (faces : List Face) (e : faces ≡ map face_in ws) where
  -- its faces have no tables
  pub document_has_no_tables : (fault : TableFault) → IsFault (face_edges_of 0 faces) fault → IsDocumentFault bytes (of_tables_fault fault)
  document_has_no_tables fault h = of_faces fault (subst (λ (fs : List Face). IsFault (face_edges_of 0 fs) fault) e h)
    where
      of_faces : (fault : TableFault) → IsFault (face_edges_of 0 (map face_in ws)) fault → IsDocumentFault bytes (of_tables_fault fault)
      of_faces (table.NoLine n) h =
          record {
            faces = map face_in ws;
            read = record { written = ws; well_formed = file.well_formed; is = file.is; faces = refl };
            is_fault = h;
            of_faces = λ q. cc;
          }
      of_faces (table.NoCorner n) h =
          record {
            faces = map face_in ws;
            read = record { written = ws; well_formed = file.well_formed; is = file.is; faces = refl };
            is_fault = h;
            of_faces = λ q. cc;
          }
      of_faces table.TooMany h =
          record {
            faces = map face_in ws;
            read = record { written = ws; well_formed = file.well_formed; is = file.is; faces = refl };
            is_fault = h;
            of_faces = λ q. cc;
          }
      of_faces table.OutOfMemory h = tt

  module _ (tables : Tables) (are : AreTables (face_edges_of 0 faces) tables) where
    abbrev held : AreTablesIn bytes tables
    held = record {
      faces = map face_in ws;
      read = record { written = ws; well_formed = file.well_formed; is = file.is; faces = refl };
      are_tables = subst (λ (fs : List Face). AreTables (face_edges_of 0 fs) tables) e are;
    }

    -- they aren't closed along a line
    pub document_is_not_closed : (AreLinesClosed tables.segments.items → ⊥) → IsDocumentFault bytes document.NotClosed
    document_is_not_closed h = record { tables = tables; are_tables = held; is_open = h }

    -- two of them overlap
    pub document_has_overlap : HaveOverlap ws → IsDocumentFault bytes document.Overlap
    document_has_overlap h = record { tables = tables; are_tables = held; overlap = h }

    -- or neither
    pub document_is_not_cut : (fault : TrianglesFault) → fault ≢ triangles.OutOfMemory → AreLinesClosed tables.segments.items →
        (HaveOverlap ws → ⊥) → IsDocumentFault bytes (document.NotCut fault)
    document_is_not_cut fault plain closed apart =
        record { tables = tables; are_tables = held; closed = closed; apart = apart; of_triangles = plain }
