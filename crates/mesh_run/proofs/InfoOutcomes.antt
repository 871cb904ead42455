-- What comes of meshes of which something is to be said
use Rattle.std.proofs.Common.{◌≡◌, ◌<◌, ℕ, Bool, List, length, false, refl, get_or, take, sym, ap, subst, arith, ◌∙◌, ◌+◌, ◌++◌}
use Rattle.std.proofs.lemmas.List.{length-map, get_or-map, take_all, take_more}
use Rattle.std.specs.Prelude.{Result}
use Rattle.ember_algebra.specs.Relations.{Each}
use Rattle.ember_algebra.proofs.Relations.{each_push}
use Rattle.mesh_boolean.specs.declared.files.InputFile.{InputFile}
use Rattle.mesh_boolean.specs.Files.{AreReadings, held, reading}
use Rattle.mesh_file.specs.File.Faults.{Fault}
use Rattle.mesh_info.specs.Info.Lines.{IsInfoLine}
use Rattle.mesh_read.specs.declared.surface.surface.Surface.{Surface}
use Rattle.mesh_read.specs.Surface.Surfaces.{Content}
use Rattle.ember_io.specs.Calls.{ShelfCall, SinkCall}
use Rattle.mesh_run.specs.Causes.{IsReadingCause, IsRefusalCause}
use Rattle.mesh_run.specs.Infos.{AreInfoLines, IsFileLine}
use Rattle.mesh_refusal.specs.Said.{reading_said}
use Rattle.mesh_run.specs.Memory.{hides_memory}
use Rattle.mesh_run.specs.Serves.{IsInfoOutcome, IsMessageOutcome}
use Rattle.mesh_refusal.specs.declared.status.Status.{Status}
use Rattle.mesh_refusal.specs.declared.status.Status.TheVariants.{Done, Words, StepOfNoGrid, ReadFault, WriteFault}
use Rattle.mesh_refusal.specs.declared.status.Status.TheVariants.{NotWritten, FileRefused, NoTriangles, NotAScene}
use Rattle.mesh_refusal.specs.declared.status.Status.TheVariants.{NotClosed, ExprRefused, Unbounded, LongFile}
use Rattle.mesh_refusal.specs.declared.status.Status.TheVariants.{TooManyTriangles, TooManyWritten, StepTooSmall}
use Rattle.mesh_refusal.specs.declared.status.Status.TheVariants.{TooFar, DocumentRefused, OutOfMemory, Uncertified}

-- ---- files and their surfaces
-- there are as many
pub surfaces_are_as_many : (files : List InputFile) (surfaces : List Surface) → AreReadings files surfaces → length files ≡ length surfaces
surfaces_are_as_many files surfaces h = sym (length-map files reading) ∙ ap length h ∙ length-map surfaces held

-- the line of one file more; d stands for any file past the end
pub line_more : (files : List InputFile) (surfaces : List Surface) (i : ℕ) (d : InputFile) (surface : Surface)
    (lines line : List ℕ) → AreReadings files surfaces → i < length surfaces
    → surface ≡ get_or surfaces i surface → IsInfoLine (get_or files i d).name.now surface line →
    Each IsFileLine (take i files) lines → Each IsFileLine (take (i + 1) files) (lines ++ line)
line_more files surfaces i d surface lines line h l at says e =
    let below : i < length files = subst (λ (n : ℕ). i < n) (sym (surfaces_are_as_many files surfaces h)) l in
    let read : reading (get_or files i d) ≡ held surface =
    sym (get_or-map reading files i d (held surface) below)
    ∙ ap (λ (rs : List (Result Content Fault)). get_or rs i (held surface)) h
    ∙ get_or-map held surfaces i surface (held surface) l
    ∙ ap held (sym at) in
    subst (λ (fs : List InputFile). Each IsFileLine fs (lines ++ line)) (sym (take_more files i d below))
    (each_push e (record { surface = surface; read = read; says = says }))

-- the lines of all files
pub lines_of_all : (files : List InputFile) (surfaces : List Surface) (lines : List ℕ) → AreReadings files surfaces →
    Each IsFileLine (take (length surfaces) files) lines → Each IsFileLine files lines
lines_of_all files surfaces lines h e =
    subst (λ (fs : List InputFile). Each IsFileLine fs lines)
    (ap (λ (n : ℕ). take n files) (sym (surfaces_are_as_many files surfaces h))
    ∙ take_all (length files) files (omega arith)) e

module _ (names : List (List ℕ)) (shelf : ShelfCall) where
  -- ---- causes
  -- a file is refused
  pub refusal_is_reading : (status : Status) → IsRefusalCause shelf.told names status → IsReadingCause names shelf status
  refusal_is_reading Done h = h
  refusal_is_reading (Words refusal) h = h
  refusal_is_reading StepOfNoGrid h = h
  refusal_is_reading (ReadFault i kind) h = absurd h
  refusal_is_reading WriteFault h = h
  refusal_is_reading (NotWritten file) h = h
  refusal_is_reading (FileRefused i reason) h = h
  refusal_is_reading NoTriangles h = h
  refusal_is_reading NotAScene h = h
  refusal_is_reading (NotClosed o format) h = h
  refusal_is_reading (ExprRefused fault) h = h
  refusal_is_reading Unbounded h = h
  refusal_is_reading (LongFile i) h = absurd h
  refusal_is_reading (TooManyTriangles count) h = h
  refusal_is_reading TooManyWritten h = h
  refusal_is_reading (StepTooSmall extent) h = h
  refusal_is_reading TooFar h = h
  refusal_is_reading (DocumentRefused fault) h = h
  refusal_is_reading OutOfMemory h = h
  refusal_is_reading (Uncertified fault) h = h

  -- out-of-memory isn't hidden in the status of files that aren't all read
  pub reading_tells_memory : (status : Status) → IsReadingCause names shelf status → hides_memory status ≡ false
  reading_tells_memory Done h = absurd h
  reading_tells_memory (Words refusal) h = absurd h
  reading_tells_memory StepOfNoGrid h = absurd h
  reading_tells_memory (ReadFault i kind) h = refl
  reading_tells_memory WriteFault h = absurd h
  reading_tells_memory (NotWritten file) h = absurd h
  reading_tells_memory (FileRefused i reason) h = refl
  reading_tells_memory NoTriangles h = absurd h
  reading_tells_memory NotAScene h = absurd h
  reading_tells_memory (NotClosed o format) h = absurd h
  reading_tells_memory (ExprRefused fault) h = absurd h
  reading_tells_memory Unbounded h = absurd h
  reading_tells_memory (LongFile i) h = refl
  reading_tells_memory (TooManyTriangles count) h = absurd h
  reading_tells_memory TooManyWritten h = absurd h
  reading_tells_memory (StepTooSmall extent) h = absurd h
  reading_tells_memory TooFar h = absurd h
  reading_tells_memory (DocumentRefused fault) h = absurd h
  reading_tells_memory OutOfMemory h = refl
  reading_tells_memory (Uncertified fault) h = absurd h

module _ (json : Bool) (names : List (List ℕ)) (shelf : ShelfCall) (out : SinkCall) where
  -- ---- outcomes
  -- of files that aren't all read this is said
  pub unread_outcome : (status : Status) (text : List ℕ) → IsReadingCause names shelf status →
      out.taken_after ≡ out.taken → text ≡ reading_said json names status → IsInfoOutcome json names shelf out status text
  unread_outcome Done text h same e = absurd h
  unread_outcome (Words refusal) text h same e = (h, same, e)
  unread_outcome StepOfNoGrid text h same e = (h, same, e)
  unread_outcome (ReadFault i kind) text h same e = (h, same, e)
  unread_outcome WriteFault text h same e = absurd h
  unread_outcome (NotWritten file) text h same e = (h, same, e)
  unread_outcome (FileRefused i reason) text h same e = (h, same, e)
  unread_outcome NoTriangles text h same e = (h, same, e)
  unread_outcome NotAScene text h same e = (h, same, e)
  unread_outcome (NotClosed o format) text h same e = (h, same, e)
  unread_outcome (ExprRefused fault) text h same e = (h, same, e)
  unread_outcome Unbounded text h same e = (h, same, e)
  unread_outcome (LongFile i) text h same e = (h, same, e)
  unread_outcome (TooManyTriangles count) text h same e = (h, same, e)
  unread_outcome TooManyWritten text h same e = (h, same, e)
  unread_outcome (StepTooSmall extent) text h same e = (h, same, e)
  unread_outcome TooFar text h same e = (h, same, e)
  unread_outcome (DocumentRefused fault) text h same e = (h, same, e)
  unread_outcome OutOfMemory text h same e = (h, same, e)
  unread_outcome (Uncertified fault) text h same e = (h, same, e)

  -- the lines are written, or aren't
  pub lines_outcome : (lines : List ℕ) (status : Status) (text : List ℕ) → AreInfoLines shelf.told names lines →
      IsMessageOutcome json lines out status text → IsInfoOutcome json names shelf out status text
  lines_outcome lines Done text are h = record { lines = lines; are_lines = are; written = h }
  lines_outcome lines (Words refusal) text are h = absurd h
  lines_outcome lines StepOfNoGrid text are h = absurd h
  lines_outcome lines (ReadFault i kind) text are h = absurd h
  lines_outcome lines WriteFault text are h = record { lines = lines; are_lines = are; written = h }
  lines_outcome lines (NotWritten file) text are h = absurd h
  lines_outcome lines (FileRefused i reason) text are h = absurd h
  lines_outcome lines NoTriangles text are h = absurd h
  lines_outcome lines NotAScene text are h = absurd h
  lines_outcome lines (NotClosed o format) text are h = absurd h
  lines_outcome lines (ExprRefused fault) text are h = absurd h
  lines_outcome lines Unbounded text are h = absurd h
  lines_outcome lines (LongFile i) text are h = absurd h
  lines_outcome lines (TooManyTriangles count) text are h = absurd h
  lines_outcome lines TooManyWritten text are h = absurd h
  lines_outcome lines (StepTooSmall extent) text are h = absurd h
  lines_outcome lines TooFar text are h = absurd h
  lines_outcome lines (DocumentRefused fault) text are h = absurd h
  lines_outcome lines OutOfMemory text are h = (tt, h.0, h.1)
  lines_outcome lines (Uncertified fault) text are h = absurd h
