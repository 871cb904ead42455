-- The causes of the statuses of files that give no output
use Rattle.std.proofs.Common.{◌≡◌, ◌+◌, ◌-◌, ◌≤◌, inl, inr, ℕ, List, length, take, refl, sym, subst, arith}
use Rattle.std.proofs.lemmas.List.{length-take-le, take-take}
use Rattle.std.proofs.lemmas.Option.{slice_get_within}
use Rattle.std.specs.declared.option.Option.{Option}
use Rattle.std.specs.Prelude.{string_bytes}
use Rattle.mesh_boolean.specs.declared.fault.BooleanFault.{BooleanFault}
use Rattle.mesh_boolean.specs.declared.fault.BooleanFault.TheVariants as boolean
use Rattle.mesh_boolean.specs.declared.files.InputFile.{InputFile}
use Rattle.mesh_boolean.specs.Faults.{IsBooleanFault, IsFirstUnread, IsPlacingFault, IsReadFault, IsUnplaceable}
use Rattle.mesh_boolean.specs.Files.{AreReadings}
use Rattle.mesh_boolean.proofs.ImageLists.{given_are_as_many}
use Rattle.mesh_boolean.proofs.Readings.{readings_are_as_many}
use Rattle.mesh_placing.specs.declared.files.Placing.{Placing}
use Rattle.mesh_placing.specs.declared.image.ImageFault.{ImageFault}
use Rattle.ember_expr.specs.Formula.{Formula}
use Rattle.mesh_file.specs.declared.file.fault.FileFault.{FileFault}
use Rattle.mesh_boolean.specs.declared.wanted.WantedFile.{WantedFile}
use Rattle.mesh_grid.specs.declared.grid.choice.Wanted.{Wanted}
use Rattle.mesh_scene.specs.declared.scene.fault.SceneFault.TheVariants as scene
use Rattle.ember_io.specs.declared.shelf.FaultKind.{FaultKind}
use Rattle.ember_io.specs.declared.shelf.ReadEnd.{ReadEnd}
use Rattle.ember_io.specs.declared.shelf.ReadEnd.TheVariants as read
use Rattle.ember_io.specs.Shelves.{TellsMore, IsFileIn}
use Rattle.ember_io.specs.Calls.{ShelfCall, HasShelfFailed}
use Rattle.mesh_run.specs.Causes.{end_status, IsEndAt, IsFilesCause, IsPlacingCause, IsReadingCause, IsRefusalCause}
use Rattle.mesh_run.specs.Causes.{IsRefused, IsUnplaced}
use Rattle.mesh_run.specs.Files.{AreFiles, AreRead}
use Rattle.mesh_texts.specs.Texts.{name_of}
use Rattle.mesh_refusal.specs.Placings.{image_reason}
use Rattle.mesh_refusal.specs.Statuses.{HasReason, IsStatusOf, NamesFile}
use Rattle.mesh_run.proofs.ToldFiles.{file_up_to, files_are_as_many, files_up_to}
use Rattle.mesh_refusal.specs.declared.status.Status.{Status}
use Rattle.mesh_refusal.specs.declared.status.Status.TheVariants.{Done, Words, StepOfNoGrid, ReadFault, WriteFault}
use Rattle.mesh_refusal.specs.declared.status.Status.TheVariants.{NotWritten, FileRefused, NoTriangles, NotAScene}
use Rattle.mesh_refusal.specs.declared.status.Status.TheVariants.{NotClosed, ExprRefused, Unbounded, LongFile}
use Rattle.mesh_refusal.specs.declared.status.Status.TheVariants.{TooManyTriangles, TooManyWritten, StepTooSmall}
use Rattle.mesh_refusal.specs.declared.status.Status.TheVariants.{TooFar, DocumentRefused, OutOfMemory, Uncertified}

-- a file that is refused is one that isn't read
refusal_is_cause : (names : List (List ℕ)) (shelf : ShelfCall) (status : Status) → IsRefusalCause shelf.told names status → IsReadingCause names shelf status
refusal_is_cause names shelf Done h = absurd h
refusal_is_cause names shelf (Words refusal) h = absurd h
refusal_is_cause names shelf StepOfNoGrid h = absurd h
refusal_is_cause names shelf (ReadFault i kind) h = absurd h
refusal_is_cause names shelf WriteFault h = absurd h
refusal_is_cause names shelf (NotWritten file) h = absurd h
refusal_is_cause names shelf (FileRefused i reason) h = h
refusal_is_cause names shelf NoTriangles h = absurd h
refusal_is_cause names shelf NotAScene h = absurd h
refusal_is_cause names shelf (NotClosed o format) h = absurd h
refusal_is_cause names shelf (ExprRefused fault) h = absurd h
refusal_is_cause names shelf Unbounded h = absurd h
refusal_is_cause names shelf (LongFile i) h = absurd h
refusal_is_cause names shelf (TooManyTriangles count) h = absurd h
refusal_is_cause names shelf TooManyWritten h = absurd h
refusal_is_cause names shelf (StepTooSmall extent) h = absurd h
refusal_is_cause names shelf TooFar h = absurd h
refusal_is_cause names shelf (DocumentRefused fault) h = absurd h
refusal_is_cause names shelf OutOfMemory h = tt
refusal_is_cause names shelf (Uncertified fault) h = absurd h

ended : (names : List (List ℕ)) (shelf : ShelfCall) (i : ℕ) (end : ReadEnd) (kind : FaultKind) → IsFileIn names i →
    kind ≡ shelf.fault_kind → AreRead shelf.told (take (i - 1) names) →
    (end ≡ read.ReadFault → HasShelfFailed shelf × (shelf.fault_at ≡ i)) →
    ((count : ℕ) → end ≡ read.TooLong count → TellsMore (shelf.told (name_of names i)) 268435456) →
    IsReadingCause names shelf (end_status i end kind)
ended names shelf i read.ReadFault kind one is before failed long =
    let f = failed refl in record { one_of = one; failed = f.0; place = f.1; kind_is = is; before = before }
ended names shelf i (read.TooLong count) kind one is before failed long =
    record { one_of = one; long = long count refl; before = before }
ended names shelf i read.OutOfMemory kind one is before failed long = tt

-- why reading ended at file i is why not all files are read
pub end_is_cause : (names : List (List ℕ)) (shelf : ShelfCall) (i : ℕ) (end : ReadEnd) (kind : FaultKind)
    (status : Status) → IsFileIn names i → kind ≡ shelf.fault_kind → IsEndAt shelf.told names i end kind status →
    (end ≡ read.ReadFault → HasShelfFailed shelf × (shelf.fault_at ≡ i)) →
    ((count : ℕ) → end ≡ read.TooLong count → TellsMore (shelf.told (name_of names i)) 268435456) →
    IsReadingCause names shelf status
end_is_cause names shelf i end kind status one is (inl h) failed long = refusal_is_cause names shelf status h
end_is_cause names shelf i end kind status one is (inr h) failed long =
    subst (λ (s : Status). IsReadingCause names shelf s) (sym h.0) (ended names shelf i end kind one is h.1 failed long)

-- ---- the file of a fault
-- a file that isn't read is one of the files
pub unread_file_is_there : (files : List InputFile) (fault : BooleanFault) → IsReadFault files fault → NamesFile files fault
unread_file_is_there files (boolean.File index fault) h = slice_get_within files index h.file h.found
unread_file_is_there files (boolean.Image index fault) h = absurd h
unread_file_is_there files (boolean.Scene fault) h = absurd h
unread_file_is_there files (boolean.Solid fault) h = absurd h
unread_file_is_there files boolean.TooFar h = absurd h
unread_file_is_there files boolean.TooManyTriangles h = absurd h
unread_file_is_there files boolean.OutOfMemory h = tt

-- a file that keeps files from their grid is one of them
pub unplaced_file_is_there : (files : List InputFile) (placings : List (Option Placing)) (wanted : Wanted) (fault : BooleanFault) →
    IsPlacingFault files placings wanted fault → NamesFile files fault
unplaced_file_is_there files placings wanted (boolean.File index fault) h = slice_get_within files index h.file h.found
unplaced_file_is_there files placings wanted (boolean.Image index fault) h =
    let inside = slice_get_within h.as_read index h.has.surface h.has.found in
    let as_many = readings_are_as_many files h.as_read h.read in
    omega (arith, inside, as_many)
unplaced_file_is_there files placings wanted (boolean.Scene scene.NoTriangles) h = tt
unplaced_file_is_there files placings wanted (boolean.Scene (scene.StepTooSmall extent)) h = tt
unplaced_file_is_there files placings wanted (boolean.Scene (scene.Open o)) h =
    let first = h.is_fault.1 in
    let inside = slice_get_within h.surfaces o.file first.surface first.found in
    let as_many = given_are_as_many placings h.as_read h.surfaces h.given in
    let as_read = readings_are_as_many files h.as_read h.read in
    omega (arith, inside, as_many, as_read)
unplaced_file_is_there files placings wanted (boolean.Scene (scene.TooManyTriangles count)) h = tt
unplaced_file_is_there files placings wanted (boolean.Scene scene.OutOfMemory) h = tt
unplaced_file_is_there files placings wanted (boolean.Solid fault) h = absurd h
unplaced_file_is_there files placings wanted boolean.TooFar h = absurd h
unplaced_file_is_there files placings wanted boolean.TooManyTriangles h = absurd h
unplaced_file_is_there files placings wanted boolean.OutOfMemory h = tt

-- a file that has a fault is one of the files
pub faulty_file_is_there : (files : List InputFile) (formula : Formula) (wanted : WantedFile) (fault : BooleanFault) →
    IsBooleanFault files formula wanted fault → NamesFile files fault
faulty_file_is_there files formula wanted (boolean.File index fault) h =
    unplaced_file_is_there files wanted.placings.now wanted.grid (boolean.File index fault) h
faulty_file_is_there files formula wanted (boolean.Image index fault) h =
    unplaced_file_is_there files wanted.placings.now wanted.grid (boolean.Image index fault) h
faulty_file_is_there files formula wanted (boolean.Scene fault) h =
    unplaced_file_is_there files wanted.placings.now wanted.grid (boolean.Scene fault) h
faulty_file_is_there files formula wanted (boolean.Solid fault) h = tt
faulty_file_is_there files formula wanted boolean.TooFar h = tt
faulty_file_is_there files formula wanted boolean.TooManyTriangles h = tt
faulty_file_is_there files formula wanted boolean.OutOfMemory h = tt

-- ---- faults and statuses
module _ (told : List ℕ → Option (List ℕ)) (names : List (List ℕ)) (files : List InputFile) (are : AreFiles told names files) where
  -- the first file that is refused
  refused_first : (index : ℕ) (fault : FileFault) (reason : List ℕ) → IsFirstUnread files index fault →
      HasReason files index fault reason → IsRefused told names (index + 1) reason
  refused_first index fault reason first says =
      let up = take (index + 1) files in
      let inside = slice_get_within files index first.file first.found in
      let as_many = files_are_as_many told names files are in
      let back : index ≡ index + 1 - 1 = omega arith in
      let shorter = take-take index (index + 1) files (omega arith) in
      let first_up : IsFirstUnread up index fault = record {
        file = first.file;
        found = file_up_to files index first.file first.found;
        has = first.has;
        surfaces = first.surfaces;
        before = subst (λ (fs : List InputFile). AreReadings fs first.surfaces) (sym shorter) first.before;
      } in
      let says_up : HasReason up index fault reason = record {
        file = says.file;
        found = file_up_to files index says.file says.found;
        is = says.is;
      } in
      record {
        one_of = record { first = omega arith; last = omega (arith, inside, as_many) };
        files = up;
        are_files = files_up_to told names files (index + 1) are;
        fault = fault;
        first = subst (λ (k : ℕ). IsFirstUnread up k fault) back first_up;
        reason_is = subst (λ (k : ℕ). HasReason up k fault reason) back says_up;
      }

  -- the status of a file that isn't read
  pub refusal_caused : (fault : BooleanFault) (status : Status) → IsReadFault files fault → IsStatusOf files fault status → IsRefusalCause told names status
  refusal_caused (boolean.File index fault) status h (inl r) =
      subst (λ (s : Status). IsRefusalCause told names s) (sym r.1) (refused_first index fault (string_bytes r.0) h r.2)
  refusal_caused (boolean.File index fault) status h (inr e) = subst (λ (s : Status). IsRefusalCause told names s) (sym e) tt
  refusal_caused (boolean.Image index fault) status h s = absurd h
  refusal_caused (boolean.Scene fault) status h s = absurd h
  refusal_caused (boolean.Solid fault) status h s = absurd h
  refusal_caused boolean.TooFar status h s = absurd h
  refusal_caused boolean.TooManyTriangles status h s = absurd h
  refusal_caused boolean.OutOfMemory status h e = subst (λ (s : Status). IsRefusalCause told names s) (sym e) tt

  -- a file that is no mesh where it is placed
  unplaced : (placings : List (Option Placing)) (index : ℕ) (fault : ImageFault) (reason : List ℕ) →
      IsUnplaceable files placings index fault → reason ≡ image_reason fault → IsUnplaced told names placings (index + 1) reason
  unplaced placings index fault reason h says =
      let inside = slice_get_within h.as_read index h.has.surface h.has.found in
      let as_read = readings_are_as_many files h.as_read h.read in
      let as_many = files_are_as_many told names files are in
      let back : index ≡ index + 1 - 1 = omega arith in
      record {
        one_of = record { first = omega arith; last = omega (arith, inside, as_read, as_many) };
        files = files;
        are_files = are;
        fault = fault;
        is_fault = subst (λ (k : ℕ). IsUnplaceable files placings k fault) back h;
        reason_is = says;
      }

  -- the status of files that aren't put on the grid
  pub placing_caused : (placings : List (Option Placing)) (wanted : Wanted) (fault : BooleanFault) (status : Status) →
      IsPlacingFault files placings wanted fault → IsStatusOf files fault status → IsPlacingCause told names placings wanted status
  placing_caused placings wanted (boolean.File index fault) status h (inl r) =
      subst (λ (s : Status). IsPlacingCause told names placings wanted s) (sym r.1) (inl (refused_first index fault (string_bytes r.0) h r.2))
  placing_caused placings wanted (boolean.File index fault) status h (inr e) = subst (λ (s : Status). IsPlacingCause told names placings wanted s) (sym e) tt
  placing_caused placings wanted (boolean.Image index fault) status h (inl r) =
      subst (λ (s : Status). IsPlacingCause told names placings wanted s) (sym r.1) (inr (unplaced placings index fault (string_bytes r.0) h r.2))
  placing_caused placings wanted (boolean.Image index fault) status h (inr e) = subst (λ (s : Status). IsPlacingCause told names placings wanted s) (sym e) tt
  placing_caused placings wanted (boolean.Scene scene.NoTriangles) status h e =
      subst (λ (s : Status). IsPlacingCause told names placings wanted s) (sym e)
      (record { files = files; are_files = are; is_fault = h })
  placing_caused placings wanted (boolean.Scene (scene.StepTooSmall extent)) status h e =
      subst (λ (s : Status). IsPlacingCause told names placings wanted s) (sym e)
      (record { files = files; are_files = are; is_fault = h })
  placing_caused placings wanted (boolean.Scene (scene.Open o)) status h s =
      subst (λ (s : Status). IsPlacingCause told names placings wanted s) (sym s.1) (record { files = files; are_files = are; is_fault = h; format_is = s.2 })
  placing_caused placings wanted (boolean.Scene (scene.TooManyTriangles count)) status h e =
      subst (λ (s : Status). IsPlacingCause told names placings wanted s) (sym e)
      (record { files = files; are_files = are; is_fault = h })
  placing_caused placings wanted (boolean.Scene scene.OutOfMemory) status h e = subst (λ (s : Status). IsPlacingCause told names placings wanted s) (sym e) tt
  placing_caused placings wanted (boolean.Solid fault) status h e = absurd h
  placing_caused placings wanted boolean.TooFar status h e = absurd h
  placing_caused placings wanted boolean.TooManyTriangles status h e = absurd h
  placing_caused placings wanted boolean.OutOfMemory status h e = subst (λ (s : Status). IsPlacingCause told names placings wanted s) (sym e) tt

  -- the status of files that have no output
  placing_is_cause : (formula : Formula) (wanted : WantedFile) (status : Status) →
      IsPlacingCause told names wanted.placings.now wanted.grid status → IsFilesCause told names formula wanted status
  placing_is_cause formula wanted Done h = h
  placing_is_cause formula wanted (Words refusal) h = h
  placing_is_cause formula wanted StepOfNoGrid h = h
  placing_is_cause formula wanted (ReadFault i kind) h = h
  placing_is_cause formula wanted WriteFault h = h
  placing_is_cause formula wanted (NotWritten file) h = h
  placing_is_cause formula wanted (FileRefused i reason) h = h
  placing_is_cause formula wanted NoTriangles h = h
  placing_is_cause formula wanted NotAScene h = h
  placing_is_cause formula wanted (NotClosed o format) h = h
  placing_is_cause formula wanted (ExprRefused fault) h = h
  placing_is_cause formula wanted Unbounded h = h
  placing_is_cause formula wanted (LongFile i) h = h
  placing_is_cause formula wanted (TooManyTriangles count) h = h
  placing_is_cause formula wanted TooManyWritten h = absurd h
  placing_is_cause formula wanted (StepTooSmall extent) h = h
  placing_is_cause formula wanted TooFar h = absurd h
  placing_is_cause formula wanted (DocumentRefused fault) h = h
  placing_is_cause formula wanted OutOfMemory h = h
  placing_is_cause formula wanted (Uncertified fault) h = absurd h

  pub status_caused : (formula : Formula) (wanted : WantedFile) (fault : BooleanFault) (status : Status) →
      IsBooleanFault files formula wanted fault → IsStatusOf files fault status →
      IsFilesCause told names formula wanted status
  status_caused formula wanted (boolean.File index fault) status h s =
      placing_is_cause formula wanted status (placing_caused wanted.placings.now wanted.grid (boolean.File index fault) status h s)
  status_caused formula wanted (boolean.Image index fault) status h s =
      placing_is_cause formula wanted status (placing_caused wanted.placings.now wanted.grid (boolean.Image index fault) status h s)
  status_caused formula wanted (boolean.Scene fault) status h s =
      placing_is_cause formula wanted status (placing_caused wanted.placings.now wanted.grid (boolean.Scene fault) status h s)
  status_caused formula wanted (boolean.Solid fault) status h e =
      subst (λ (s : Status). IsFilesCause told names formula wanted s) (sym e) (record { files = files; are_files = are; is_fault = h })
  status_caused formula wanted boolean.TooFar status h e =
      subst (λ (s : Status). IsFilesCause told names formula wanted s) (sym e) (record { files = files; are_files = are; is_fault = h })
  status_caused formula wanted boolean.TooManyTriangles status h e =
      subst (λ (s : Status). IsFilesCause told names formula wanted s) (sym e) (record { files = files; are_files = are; is_fault = h })
  status_caused formula wanted boolean.OutOfMemory status h e =
      subst (λ (s : Status). IsFilesCause told names formula wanted s) (sym e) tt

-- ---- the first files of many
-- what is refused among the first names is refused among all
pub refused_among_more : (told : List ℕ → Option (List ℕ)) (names : List (List ℕ)) (n i : ℕ) (reason : List ℕ) →
    n ≤ length names → IsRefused told (take n names) i reason → IsRefused told names i reason
refused_among_more told names n i reason l h =
    let long = length-take-le n names l in
    let last = h.one_of.last in
    let within : i ≤ n = omega (arith, long, last) in
    record {
      one_of = record { first = h.one_of.first; last = omega (arith, within, l) };
      files = h.files;
      are_files = subst (λ (ns : List (List ℕ)). AreFiles told ns h.files) (take-take i n names within) h.are_files;
      fault = h.fault;
      first = h.first;
      reason_is = h.reason_is;
    }

-- the same, as a cause
pub cause_among_more : (told : List ℕ → Option (List ℕ)) (names : List (List ℕ)) (n : ℕ) (status : Status) →
    n ≤ length names → IsRefusalCause told (take n names) status → IsRefusalCause told names status
cause_among_more told names n Done l h = absurd h
cause_among_more told names n (Words refusal) l h = absurd h
cause_among_more told names n StepOfNoGrid l h = absurd h
cause_among_more told names n (ReadFault i kind) l h = absurd h
cause_among_more told names n WriteFault l h = absurd h
cause_among_more told names n (NotWritten file) l h = absurd h
cause_among_more told names n (FileRefused i reason) l h = refused_among_more told names n i (string_bytes reason) l h
cause_among_more told names n NoTriangles l h = absurd h
cause_among_more told names n NotAScene l h = absurd h
cause_among_more told names n (NotClosed o format) l h = absurd h
cause_among_more told names n (ExprRefused fault) l h = absurd h
cause_among_more told names n Unbounded l h = absurd h
cause_among_more told names n (LongFile i) l h = absurd h
cause_among_more told names n (TooManyTriangles count) l h = absurd h
cause_among_more told names n TooManyWritten l h = absurd h
cause_among_more told names n (StepTooSmall extent) l h = absurd h
cause_among_more told names n TooFar l h = absurd h
cause_among_more told names n (DocumentRefused fault) l h = absurd h
cause_among_more told names n OutOfMemory l h = tt
cause_among_more told names n (Uncertified fault) l h = absurd h
