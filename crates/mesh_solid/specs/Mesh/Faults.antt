-- Why a solid or a document gets no mesh
use Rattle.std.specs.Prelude.{◌≢◌, ⊤, ℕ, List}
use Rattle.ember_expr.specs.Formula.{Formula}
use Rattle.ember_model.specs.declared.tri.Tri.{Tri}
use Rattle.mesh_solid.specs.declared.outline.fault.OutlineFault.{OutlineFault}
use Rattle.mesh_solid.specs.declared.outline.fault.OutlineFault.TheVariants as outline
use Rattle.mesh_solid.specs.Outline.Rounds.{IsOffEdge, IsOffPlane, IsNotRound}
use Rattle.ember_meaning.specs.Regions.Solids.{IsSolidText}
use Rattle.ember_reread.specs.declared.fault.RereadFault.{RereadFault}
use Rattle.ember_reread.specs.declared.fault.RereadFault.TheVariants as reread
use Rattle.mesh_solid.specs.declared.tables.fault.TableFault.{TableFault}
use Rattle.mesh_solid.specs.declared.tables.fault.TableFault.TheVariants as table
use Rattle.mesh_solid.specs.declared.tables.tables.Tables.{Tables}
use Rattle.mesh_triangles.specs.declared.fault.TrianglesFault.{TrianglesFault}
use Rattle.mesh_triangles.specs.declared.fault.TrianglesFault.TheVariants as triangles
use Rattle.mesh_solid.specs.declared.mesh.fault.DocumentFault.{DocumentFault}
use Rattle.mesh_solid.specs.declared.mesh.fault.DocumentFault.TheVariants as document
use Rattle.mesh_solid.specs.declared.mesh.fault.SolidFault.{SolidFault}
use Rattle.mesh_solid.specs.declared.mesh.fault.SolidFault.TheVariants.{NoTables, NotCut, OutOfMemory}
use Rattle.mesh_solid.specs.Refusal.ClosedLines.{AreLinesClosed}
use Rattle.mesh_solid.specs.Refusal.Overlaps.{HaveOverlap}
use Rattle.mesh_solid.specs.Mesh.FaceTables.{AreTablesIn, HasFirstFace, HaveTableFault, HoldsFaces}

-- ---- the faults of the steps, where want of memory is one
abbrev pub of_table_fault : TableFault → SolidFault
of_table_fault table.OutOfMemory = OutOfMemory
of_table_fault fault = NoTables fault

abbrev pub of_triangles_fault : TrianglesFault → SolidFault
of_triangles_fault triangles.OutOfMemory = OutOfMemory
of_triangles_fault fault = NotCut fault

abbrev pub of_reading_fault : RereadFault → DocumentFault
of_reading_fault reread.Form = document.NotADocument
of_reading_fault reread.OutOfMemory = document.OutOfMemory

abbrev pub of_outline_fault : ℕ → OutlineFault → DocumentFault
of_outline_fault face outline.OffPlane = document.OffPlane face
of_outline_fault face outline.OffEdge = document.OffEdge face
of_outline_fault face outline.NotRound = document.NotRound face
of_outline_fault face outline.OutOfMemory = document.OutOfMemory

abbrev pub of_tables_fault : TableFault → DocumentFault
of_tables_fault table.OutOfMemory = document.OutOfMemory
of_tables_fault fault = document.NoTables fault

-- why tables give no triangles
abbrev pub IsCutFault : SolidFault → Type 0
IsCutFault (NoTables fault) = ⊥
IsCutFault (NotCut fault) = fault ≢ triangles.OutOfMemory
IsCutFault OutOfMemory = ⊤

-- ---- the faults of faces
-- they have tables but no triangles were found, and not for want of memory
pub record HasNoTriangles (bytes : List ℕ) (fault : TrianglesFault) : Type 0 where
  pub tables : Tables
  pub are_tables : AreTablesIn bytes tables
  pub of_triangles : fault ≢ triangles.OutOfMemory

-- why the faces of a face file give no mesh
abbrev pub IsFileFault : List ℕ → SolidFault → Type 0
IsFileFault bytes (NoTables fault) = HaveTableFault bytes fault
IsFileFault bytes (NotCut fault) = HasNoTriangles bytes fault
IsFileFault bytes OutOfMemory = ⊤

-- ---- the faults of a document
-- its faces have tables, and aren't closed along some line
pub record IsNotClosed (bytes : List ℕ) : Type 0 where
  pub tables : Tables
  pub are_tables : AreTablesIn bytes tables
  pub is_open : AreLinesClosed tables.segments.items → ⊥

-- its faces have tables, and two of them overlap
pub record HasOverlap (bytes : List ℕ) : Type 0 where
  pub tables : Tables
  pub are_tables : AreTablesIn bytes tables
  pub overlap : HaveOverlap are_tables.read.written

-- its faces are closed along lines and don't overlap, but no triangles were found, and not for want of memory
pub record IsNotCut (bytes : List ℕ) (fault : TrianglesFault) : Type 0 where
  pub tables : Tables
  pub are_tables : AreTablesIn bytes tables
  pub closed : AreLinesClosed tables.segments.items
  pub apart : HaveOverlap are_tables.read.written → ⊥
  pub of_triangles : fault ≢ triangles.OutOfMemory

-- why bytes from anywhere give no mesh: they are no face file, a face isn't as it has to be, or the faces give none
abbrev pub IsDocumentFault : List ℕ → DocumentFault → Type 0
IsDocumentFault bytes document.NotADocument = HoldsFaces bytes → ⊥
IsDocumentFault bytes (document.OffPlane face) = HasFirstFace bytes face IsOffPlane
IsDocumentFault bytes (document.OffEdge face) = HasFirstFace bytes face IsOffEdge
IsDocumentFault bytes (document.NotRound face) = HasFirstFace bytes face IsNotRound
IsDocumentFault bytes (document.NoTables fault) = HaveTableFault bytes fault
IsDocumentFault bytes document.NotClosed = IsNotClosed bytes
IsDocumentFault bytes document.Overlap = HasOverlap bytes
IsDocumentFault bytes (document.NotCut fault) = IsNotCut bytes fault
IsDocumentFault bytes document.OutOfMemory = ⊤

-- ---- the faults of a solid
-- the faces of its document have a fault, or they have tables but no triangles were found, or memory is short
abbrev pub IsSolidFault : List Tri → Formula → SolidFault → Type 0
IsSolidFault tris formula (NoTables fault) =
    (bytes : List ℕ) × IsSolidText tris formula bytes × HaveTableFault bytes fault
IsSolidFault tris formula (NotCut fault) =
    (bytes : List ℕ) × IsSolidText tris formula bytes × HasNoTriangles bytes fault
IsSolidFault tris formula OutOfMemory = ⊤
