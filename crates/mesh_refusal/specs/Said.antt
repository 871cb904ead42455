-- What standard error takes of a request that isn't met: a line, or one object of JSON
use Rattle.std.specs.Prelude.{◌≡◌, ℕ, ◌+◌, Bool, List, ◌++◌, length, Some, None, codes, decimal, string_bytes}
use Rattle.std.specs.Borrow.{Bor}
use Rattle.std.specs.Global.{Vec}
use Rattle.std.specs.Prelude.{if◌then◌else◌}
use Rattle.std.specs.declared.option.Option.{Option}
use Rattle.mesh_words.specs.declared.command.ExportRequest.{ExportRequest}
use Rattle.mesh_words.specs.declared.command.Request.{Request}
use Rattle.mesh_words.specs.declared.command.SnapRequest.{SnapRequest}
use Rattle.mesh_words.specs.declared.faults.Refusal.{Refusal}
use Rattle.mesh_refusal.specs.ExportLines.{export_why, names_read}
use Rattle.mesh_refusal.specs.Lines.{noun_of, reading_why, snap_why, why_of}
use Rattle.mesh_texts.specs.Texts.{line, name_of}
use Rattle.mesh_refusal.specs.Numbers.{number_of}
use Rattle.mesh_refusal.specs.Refusals.{refusal_object, text_behind}
use Rattle.mesh_refusal.specs.WordLines.{refusal_text}
use Rattle.mesh_refusal.specs.declared.status.Status.{Status}
use Rattle.mesh_refusal.specs.declared.status.Status.TheVariants.{ReadFault, NotWritten, NotAScene, DocumentRefused}
use Rattle.mesh_refusal.specs.declared.status.Status.TheVariants.{FileRefused, NotClosed, LongFile}

-- ---- the file and the place of a status
-- the name of the file at fault, if one is; a document is the last file that is read
abbrev pub file_at_fault : List (List ℕ) → Status → Option (List ℕ)
file_at_fault names (ReadFault i kind) = Some (name_of names i)
file_at_fault names (NotWritten name) = Some (string_bytes name)
file_at_fault names NotAScene = Some (name_of names 1)
file_at_fault names (DocumentRefused fault) = Some (name_of names (length names))
file_at_fault names (FileRefused i reason) = Some (name_of names i)
file_at_fault names (NotClosed o format) = Some (name_of names (o.file + 1))
file_at_fault names (LongFile i) = Some (name_of names i)
file_at_fault names status = None

-- the place in this file, if the text of the line doesn't begin with it
abbrev pub place_known : Status → Option (List ℕ)
place_known (NotClosed o format) = Some (noun_of format ++ (codes " " ++ decimal o.place))
place_known status = None

-- ---- refusals
-- the line with this text, or the object of its parts
abbrev pub said : Bool → ℕ → Option (List ℕ) → Option (List ℕ) → List ℕ → List ℕ
said json number file place why = if json then refusal_object number file place why else line why

-- the text is that; the file and the place are behind references, if there are some
abbrev pub IsSaidOf : Bool → ℕ → Option (Bor (List ℕ)) → Option (Bor (List ℕ)) → List ℕ → Vec ℕ → Type 0
IsSaidOf json number file place why text = text.items ≡ said json number (text_behind file) (text_behind place) why

-- of a status of these files
abbrev pub status_said : Bool → List (List ℕ) → Status → List ℕ → List ℕ
status_said json names status why =
    said json (number_of status) (file_at_fault names status) (place_known status) why

abbrev pub solid_said : Bool → Request → Status → List ℕ
solid_said json request status = status_said json request.files status (why_of request status)

abbrev pub snap_said : Bool → SnapRequest → Status → List ℕ
snap_said json request status = status_said json request.files status (snap_why request status)

abbrev pub export_said : Bool → ExportRequest → Status → List ℕ
export_said json request status = status_said json (names_read request) status (export_why request status)

abbrev pub reading_said : Bool → List (List ℕ) → Status → List ℕ
reading_said json names status = status_said json names status (reading_why names status)

abbrev pub words_said : Bool → List (List ℕ) → Refusal → List ℕ
words_said json words why = said json 2 None None (refusal_text words why)

-- of want of memory, and of standard output that fails
abbrev pub memory_said : Bool → List ℕ
memory_said json = said json 12 None None (codes "out of memory")

abbrev pub output_said : Bool → List ℕ
output_said json = said json 4 None None (codes "cannot write to standard output")
