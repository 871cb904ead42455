-- Why a command over one file has no reply.
use Rattle.std.proofs.Common.{◌≡◌, ◌≢◌, ℕ, ◌-◌, ◌≤◌, ℤ, true, false, List, [], ◌∷◌, length, Some, None, Result, Ok, Err}
use Rattle.std.proofs.Common.{IfOk, IfErr, Vec, Global, refl, sym, ap, subst, arith, ◌∙◌}
use Rattle.std.specs.declared.option.Option.{Option}
use Rattle.ember_model.specs.declared.tri.Tri.{Tri}
use Rattle.ember_verdict.specs.declared.status.Status.{Status}
use Rattle.ember_verdict.specs.declared.status.Status.TheVariants.{Done, Words, ReadFault, WriteFault, ObjRefused}
use Rattle.ember_verdict.specs.declared.status.Status.TheVariants.{MeshRefused, ExprRefused, Unbounded, Limit, NotClear}
use Rattle.ember_verdict.specs.declared.status.Status.TheVariants.{FaceRefused, OutOfMemory}
use Rattle.ember_io.specs.Calls.{ShelfCall, HasShelfFailed}
use Rattle.ember_io.specs.Shelves.{AreBytes, IsFileIn}
use Rattle.ember_verdict.specs.FaceTexts.{IsFaceFileOf}
use Rattle.ember_verdict.specs.Held.{MayHold, MayHoldOne}
use Rattle.ember_verdict.specs.NoReplies.{IsNoFile, IsNoReply, with_others}
use Rattle.ember_verdict.specs.Outputs.{FaceTexts}
use Rattle.ember_verdict.specs.Slices.{IsSlice, IsSliceRefusal}
use Rattle.ember_verdict.specs.Statuses.{IsRefusal, IsRefusalIfTold, IsText, hides_memory, is_refusal, refused_file}
use Rattle.ember_verdict.specs.Verdict.{Verdict, Unknown, Refused, Writes, Slices, after_bytes, after_file, faces_verdict, file_at}
use Rattle.ember_verdict.specs.Verdict.{first_told, slice_verdict}
use Rattle.ember_verdict.proofs.HeldContents.{held_one_then, held_one_told, held_only, some_contents, told_or_empty}
use Rattle.ember_verdict.proofs.NoReplies.{before_is_refusal, before_no_file, file_is_refusal, same_number}
use Rattle.ember_verdict.proofs.Verdicts.{bytes_read, refusal_if_told, refusal_is}

only_file : (name : List ℕ) (i : ℕ) → i ≡ 1 → IsFileIn (name ∷ []) i
only_file name i e = record { first = omega (arith, e); last = omega (arith, e) }

-- a file that is refused, or can't be read; `after` is the verdict by its contents
one_is_no_reply : (after : Option (List ℕ) → Verdict) (name : List ℕ) (shelf : ShelfCall) (status : Status) →
    after None ≡ Unknown →
    (is_refusal status ≡ true → MayHoldOne (shelf.told name) (λ content. IsRefusal status (after content))) →
    (is_refusal status ≡ true → refused_file status ≡ Some 1) → hides_memory status ≡ false
    → ((i : ℕ) → status ≡ ReadFault i → (i ≡ 1) × HasShelfFailed shelf × (shelf.fault_at ≡ i)) →
    (status ≢ Done) × (status ≢ Words) × (status ≢ WriteFault) →
    IsNoReply (λ contents. after (file_at contents 1)) (name ∷ []) shelf status
one_is_no_reply after name shelf status none refused file memory read_fault never =
    let untold : IsRefusalIfTold status (after None) = subst (λ (v : Verdict). IsRefusalIfTold status v) (sym none) tt in
    let if_told : is_refusal status ≡ true → IsRefusalIfTold status (after (shelf.told name)) =
    λ r. held_one_told (shelf.told name) (λ content. IsRefusalIfTold status (after content)) untold
    (held_one_then (shelf.told name) (λ content. IsRefusal status (after content))
    (λ content. IsRefusalIfTold status (after content)) (λ content. refusal_if_told status (after content)) (refused r)) in
    record {
      refused = λ r. held_only shelf.told name (λ content. IsRefusal status (after content)) (refused r);
      before_files = λ b. absurd (before_no_file status 1 b (file (before_is_refusal status b)));
      in_file = λ i f others m.
          let is = file_is_refusal status i f in
          let at : i ≡ 1 = same_number i 1 (sym f ∙ file is) in
          subst (λ (i : ℕ). IsRefusalIfTold status (after (file_at (with_others i (shelf.told name ∷ []) others) 1))) (sym at) (if_told is);
      one_of = λ i f. only_file name i (same_number i 1 (sym f ∙ file (file_is_refusal status i f)));
      read_fault = λ i f.
          let a = read_fault i f in (
            a.1,
            a.2,
            subst (λ (i : ℕ). after (file_at (first_told (i - 1) (shelf.told name ∷ [])) 1) ≡ Unknown) (sym a.0) none,
            only_file name i a.0,
          );
      nothing_before = λ i f.
          let bytes = told_or_empty (shelf.told name) in (
            bytes ∷ [],
            some_contents shelf.told (name ∷ []),
            subst (λ (i : ℕ). after (file_at (first_told (i - 1) (Some bytes ∷ [])) 1) ≡ Unknown) (sym (read_fault i f).0) none,
          );
      memory = memory;
      never = never;
    }

-- a file that gives nothing; what is done with its contents is a step and what follows on it
no_file_is_no_reply : {A : Type 0} (step : Option (List ℕ) → (A → Verdict) → Verdict) (next : A → Verdict)
    (name : List ℕ) (shelf : ShelfCall) (status : Status) → step None next ≡ Unknown → IsNoFile step 1 name shelf status →
    IsNoReply (λ contents. step (file_at contents 1) next) (name ∷ []) shelf status
no_file_is_no_reply {A = A} step next name shelf status none no_file =
    one_is_no_reply (λ content. step content next) name shelf status none
    (λ r. held_one_then (shelf.told name) (λ content. (next : A → Verdict) → step content next ≡ Refused status)
    (λ content. IsRefusal status (step content next))
    (λ content refused. refusal_is status (step content next) (refused next)) (no_file.refused r)) no_file.of_file
    no_file.memory no_file.read_fault no_file.never

-- ---- faces
pub face_file_is_no_reply : (places : ℕ) (name : List ℕ) (shelf : ShelfCall) (status : Status) →
    IsNoFile (after_file places 1) 1 name shelf status →
    IsNoReply (λ contents. faces_verdict places (file_at contents 1)) (name ∷ []) shelf status
face_file_is_no_reply places name shelf status no_file =
    no_file_is_no_reply (after_file places 1) (λ tris. Writes (FaceTexts tris)) name shelf status refl no_file

-- the faces of the triangles of contents that the file may have
pub faces_held : (told : List ℕ → Option (List ℕ)) (name : List ℕ) (places : ℕ) (tris : List Tri) (bytes : List ℕ) →
    MayHoldOne (told name) (λ content. (next : List Tri → Verdict) → after_file places 1 content next ≡ next tris) →
    IsFaceFileOf tris bytes →
    MayHold told (name ∷ []) (λ contents. IsText (faces_verdict places (file_at contents 1)) bytes)
faces_held told name places tris bytes read faces =
    held_only told name (λ content. IsText (faces_verdict places content) bytes)
    (held_one_then (told name) (λ content. (next : List Tri → Verdict) → after_file places 1 content next ≡ next tris)
    (λ content. IsText (faces_verdict places content) bytes)
    (λ content read. subst (λ (v : Verdict). IsText v bytes) (sym (read (λ tris. Writes (FaceTexts tris)))) faces) read)

-- ---- a slice
slice_file : (at : ℤ) (bytes : List ℕ) (status : Status) → IsSliceRefusal at bytes status → refused_file status ≡ Some 1
slice_file at bytes Done a = absurd a
slice_file at bytes Words a = absurd a
slice_file at bytes (ReadFault i) a = absurd a
slice_file at bytes WriteFault a = absurd a
slice_file at bytes (ObjRefused i fault) a = absurd a
slice_file at bytes (MeshRefused i fault) a = absurd a
slice_file at bytes (ExprRefused fault) a = absurd a
slice_file at bytes Unbounded a = absurd a
slice_file at bytes (Limit kind count) a = absurd a
slice_file at bytes NotClear a = absurd a
slice_file at bytes (FaceRefused fault) a = refl
slice_file at bytes OutOfMemory a = absurd a

slice_memory : (at : ℤ) (bytes : List ℕ) (status : Status) → (is_refusal status ≡ true → IsSliceRefusal at bytes status) → hides_memory status ≡ false
slice_memory at bytes Done a = refl
slice_memory at bytes Words a = refl
slice_memory at bytes (ReadFault i) a = refl
slice_memory at bytes WriteFault a = refl
slice_memory at bytes (ObjRefused i fault) a = absurd (a refl)
slice_memory at bytes (MeshRefused i fault) a = absurd (a refl)
slice_memory at bytes (ExprRefused fault) a = absurd (a refl)
slice_memory at bytes Unbounded a = refl
slice_memory at bytes (Limit kind count) a = refl
slice_memory at bytes NotClear a = refl
slice_memory at bytes (FaceRefused fault) a = refl
slice_memory at bytes OutOfMemory a = refl

sliced : (at : ℤ) (bytes : List ℕ) → length bytes ≤ 268435456 → slice_verdict at (Some bytes) ≡ Slices at bytes
sliced at bytes l = bytes_read 1 bytes (λ bytes. Slices at bytes) l

-- a face file of which no slice can be made
pub slice_is_no_reply_if : {A : Type 0} (at : ℤ) (bytes name : List ℕ) (shelf : ShelfCall) (result : Result A Status) →
    AreBytes shelf.told name bytes → IfErr result (λ status. is_refusal status ≡ true → IsSliceRefusal at bytes status) →
    ((i : ℕ) → result ≢ Err (ReadFault i)) → (result ≢ Err Done) × (result ≢ Err Words) × (result ≢ Err WriteFault)
    → IfErr result (IsNoReply (λ contents. slice_verdict at (file_at contents 1)) (name ∷ []) shelf)
slice_is_no_reply_if at bytes name shelf (Ok value) are refused no_read_fault never = tt
slice_is_no_reply_if at bytes name shelf (Err status) are refused no_read_fault never =
    one_is_no_reply (slice_verdict at) name shelf status refl
    (λ r. (bytes, are.tells, subst (λ (v : Verdict). IsRefusal status v) (sym (sliced at bytes are.small)) (refused r)))
    (λ r. slice_file at bytes status (refused r)) (slice_memory at bytes status refused)
    (λ i f. absurd (no_read_fault i (ap Err f))) (
      λ f. never.0 (ap Err f),
      λ f. never.1 (ap Err f),
      λ f. never.2 (ap Err f),
    )

-- a face file that can't be read
pub unread_slice_is_no_reply : (at : ℤ) (name : List ℕ) (shelf : ShelfCall) (status : Status) →
    IsNoFile (after_bytes 1) 1 name shelf status →
    IsNoReply (λ contents. slice_verdict at (file_at contents 1)) (name ∷ []) shelf status
unread_slice_is_no_reply at name shelf status no_file =
    no_file_is_no_reply (after_bytes 1) (λ bytes. Slices at bytes) name shelf status refl no_file

-- the slice of contents that the file may have
pub slice_held_if : {E : Type 0} (told : List ℕ →
    Option (List ℕ)) (name : List ℕ) (at : ℤ) (bytes : List ℕ) (result : Result (Vec ℕ Global) E) →
    AreBytes told name bytes → IfOk result (λ text. IsSlice at bytes text.items) →
    IfOk result (λ text. MayHold told (name ∷ []) (λ contents. IsText (slice_verdict at (file_at contents 1)) text.items))
slice_held_if told name at bytes (Ok text) are is =
    held_only told name (λ content. IsText (slice_verdict at content) text.items)
    (bytes, are.tells, subst (λ (v : Verdict). IsText v text.items) (sym (sliced at bytes are.small)) is)
slice_held_if told name at bytes (Err error) are is = tt
