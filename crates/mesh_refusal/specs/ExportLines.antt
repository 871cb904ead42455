-- The line on standard error of a document that isn't exported
use Rattle.std.specs.Prelude.{ℕ, ◌+◌, List, [], ◌∷◌, ◌++◌, Some, None, codes, decimal}
use Rattle.std.specs.declared.option.Option.{Option}
use Rattle.mesh_words.specs.declared.command.ExportRequest.{ExportRequest}
use Rattle.mesh_solid.specs.declared.mesh.fault.DocumentFault.{DocumentFault}
use Rattle.mesh_solid.specs.declared.mesh.fault.DocumentFault.TheVariants as document
use Rattle.mesh_solid.specs.declared.tables.fault.TableFault.{TableFault}
use Rattle.mesh_solid.specs.declared.tables.fault.TableFault.TheVariants as table
use Rattle.mesh_refusal.specs.Lines.{file_text, reading_why, too_far_text, too_many_text, uncut_text}
use Rattle.mesh_refusal.specs.declared.status.Status.{Status}
use Rattle.mesh_refusal.specs.declared.status.Status.TheVariants.{NotAScene, TooManyWritten, TooFar, DocumentRefused}

-- ---- the files that are read
-- the names of the scene, if one is named, and of the document, behind each other
abbrev pub with_document : Option (List ℕ) → List ℕ → List (List ℕ)
with_document None document = document ∷ []
with_document (Some scene) document = scene ∷ document ∷ []

-- the files in the order in which they are read
abbrev pub names_read : ExportRequest → List (List ℕ)
names_read request = with_document request.scene request.document

-- ---- pieces of lines
-- `FILE: WHY`
abbrev pub named_text : List ℕ → List ℕ → List ℕ
named_text name why = name ++ (codes ": " ++ why)

-- `FILE: face N: WHY`, where the first face is 1
abbrev pub face_text : List ℕ → ℕ → List ℕ → List ℕ
face_text name face why = name ++ (codes ": face " ++ (decimal (face + 1) ++ (codes ": " ++ why)))

-- ---- a document without a mesh
-- its faces have no tables
abbrev pub table_text : List ℕ → TableFault → List ℕ
table_text name (table.NoLine face) = face_text name face (codes "an edge whose plane is parallel to the face")
table_text name (table.NoCorner face) =
    face_text name face (codes "a corner outside the cube, or of a weight of 2^75 or more")
table_text name table.TooMany = named_text name (codes "more than 2147483647 edges")
table_text name table.OutOfMemory = codes "out of memory"

-- why a document of this name has no mesh. Where that isn't its own fault, it isn't named
abbrev pub document_text : List ℕ → DocumentFault → List ℕ
document_text name document.NotADocument = named_text name (codes "not a face file")
document_text name (document.OffPlane face) = face_text name face (codes "a corner off its plane")
document_text name (document.OffEdge face) = face_text name face (codes "a corner off its edge")
document_text name (document.NotRound face) = face_text name face (codes "its edges don't lead around it")
document_text name (document.NoTables fault) = table_text name fault
document_text name document.NotClosed =
    named_text name (codes "the document isn't closed along a line; not a document of bool")
document_text name document.Overlap = named_text name (codes "faces of one plane overlap; not a document of bool")
document_text name (document.NotCut fault) = uncut_text fault
document_text name document.OutOfMemory = codes "out of memory"

-- ---- all of them
-- why a document isn't exported
abbrev pub export_why : ExportRequest → Status → List ℕ
export_why request NotAScene =
    file_text (names_read request) 1 (codes "not a scene of ember-mesh; take the scene.json that snap or --keep wrote")
export_why request (DocumentRefused fault) = document_text request.document fault
export_why request TooManyWritten = too_many_text request.format
export_why request TooFar = too_far_text request.format
export_why request status = reading_why (names_read request) status
