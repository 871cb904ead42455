-- Why a file gives nothing.
use Rattle.std.proofs.Common.{◌≡◌, ◌≢◌, ◌⊎◌, inl, inr, ℕ, ◌<◌, ◌≤◌, List, length, Some, None, Err, refl, sym, ap, subst, ◌∙◌}
use Rattle.std.specs.declared.option.Option.{Option}
use Rattle.ember_balance.specs.Loose.{loose_of}
use Rattle.ember_balance.specs.declared.loose.Loose.{Loose}
use Rattle.ember_io.specs.Causes.{HasRisen}
use Rattle.ember_io.specs.Shelves.{TellsMore, AreBytes}
use Rattle.ember_mesh.specs.declared.fault.MeshFault.TheVariants.{Unbalanced}
use Rattle.ember_model.specs.declared.tri.Tri.{Tri}
use Rattle.ember_obj.specs.declared.fault.ObjFault.{ObjFault}
use Rattle.ember_obj.specs.declared.fault.ObjFault.TheVariants as obj
use Rattle.ember_obj.specs.ReadObj.{read_obj_of}
use Rattle.ember_verdict.specs.declared.status.LimitKind.TheVariants.{Bytes}
use Rattle.ember_verdict.specs.declared.status.Status.{Status}
use Rattle.ember_verdict.specs.declared.status.Status.TheVariants.{ReadFault, ObjRefused, MeshRefused, Limit, OutOfMemory}
use Rattle.ember_io.specs.Calls.{ShelfCall, HasShelfFailed}
use Rattle.ember_verdict.specs.Held.{MayHoldOne}
use Rattle.ember_verdict.specs.NoReplies.{IsNoFile}
use Rattle.ember_verdict.specs.Verdict.{Verdict, Refused, after_balance, after_bytes, after_file, after_mesh, after_triangles}
use Rattle.ember_verdict.proofs.ErrTexts.{has_risen_later}
use Rattle.ember_verdict.proofs.HeldContents.{held_one_then, more_bytes}
use Rattle.ember_verdict.proofs.NoReplies.{obj_tells}
use Rattle.ember_verdict.proofs.Verdicts.{bytes_too_long, file_refused}

-- ---- the bytes of a file
abbrev unread_number : Status → ℕ
unread_number (ReadFault i) = i
unread_number _ = 0

-- a file that can't be read
pub unread_is_no_file : {A : Type 0} (step : Option (List ℕ) → (A → Verdict) → Verdict) (i : ℕ) (name : List ℕ)
    (shelf : ShelfCall) → HasShelfFailed shelf → shelf.fault_at ≡ i → IsNoFile step i name shelf (ReadFault i)
unread_is_no_file step i name shelf failed at = record {
  refused = λ r. absurd (cc);
  of_file = λ r. absurd (cc);
  read_fault = λ number f.
      let same : i ≡ number = ap (λ (status : Status). unread_number status) f in (sym same, failed, at ∙ same);
  memory = refl;
  never = (λ f. absurd (cc), λ f. absurd (cc), λ f. absurd (cc));
}

-- out-of-memory may stop the reading of any file
pub memory_is_no_file : {A : Type 0} (step : Option (List ℕ) → (A → Verdict) → Verdict) (i : ℕ) (name : List ℕ)
    (shelf : ShelfCall) → IsNoFile step i name shelf OutOfMemory
memory_is_no_file step i name shelf = record {
  refused = λ r. absurd (cc);
  of_file = λ r. absurd (cc);
  read_fault = λ number f. absurd (cc);
  memory = refl;
  never = (λ f. absurd (cc), λ f. absurd (cc), λ f. absurd (cc));
}

some_long : (i count : ℕ) → count ≡ 268435457 → ((bytes : List ℕ) × (268435456 < length bytes)) →
    MayHoldOne None (λ content. (next : List ℕ → Verdict) → after_bytes i content next ≡ Refused (Limit (Bytes i) count))
some_long i count e bytes = (bytes.0, tt, λ next. bytes_too_long i count bytes.0 next e bytes.1)

long_held : (i count : ℕ) (told : Option (List ℕ)) → count ≡ 268435457 → TellsMore told 268435456 →
    MayHoldOne told (λ content. (next : List ℕ → Verdict) → after_bytes i content next ≡ Refused (Limit (Bytes i) count))
long_held i count None e h = some_long i count e (more_bytes 268435456)
long_held i count (Some bytes) e h = (bytes, refl, λ next. bytes_too_long i count bytes next e h)

-- a file that is too long
pub long_is_no_file : (i count : ℕ) (name : List ℕ) (shelf : ShelfCall) → count ≡ 268435457 →
    TellsMore (shelf.told name) 268435456 → IsNoFile (after_bytes i) i name shelf (Limit (Bytes i) count)
long_is_no_file i count name shelf e h = record {
  refused = λ r. long_held i count (shelf.told name) e h;
  of_file = λ r. refl;
  read_fault = λ number f. absurd (cc);
  memory = refl;
  never = (λ f. absurd (cc), λ f. absurd (cc), λ f. absurd (cc));
}

-- ---- its triangles
-- what one step refuses, the next one doesn't see
no_file_then : {A B : Type 0} (step : Option (List ℕ) → (A → Verdict) → Verdict) (more : Option (List ℕ) →
    (B → Verdict) → Verdict) (i : ℕ) (name : List ℕ) (shelf : ShelfCall) (status : Status) →
    ((content : Option (List ℕ)) → ((next : A → Verdict) → step content next ≡ Refused status) → (next : B → Verdict) →
    more content next ≡ Refused status) → IsNoFile step i name shelf status → IsNoFile more i name shelf status
no_file_then {A = A} {B = B} step more i name shelf status follows no_file = record {
  refused = λ r. held_one_then (shelf.told name) (λ content. (next : A → Verdict) → step content next ≡ Refused status)
      (λ content. (next : B → Verdict) → more content next ≡ Refused status) follows (no_file.refused r);
  of_file = no_file.of_file;
  read_fault = no_file.read_fault;
  memory = no_file.memory;
  never = no_file.never;
}

-- without its bytes there are no triangles
pub bytes_are_no_file : (places i : ℕ) (name : List ℕ) (shelf : ShelfCall) (status : Status) →
    IsNoFile (after_bytes i) i name shelf status → IsNoFile (after_file places i) i name shelf status
bytes_are_no_file places i name shelf status no_file =
    no_file_then (after_bytes i) (after_file places i) i name shelf status
    (λ content refused next. refused (λ bytes. after_triangles i (read_obj_of places i bytes) next)) no_file

fault_held : (places i : ℕ) (name : List ℕ) (shelf : ShelfCall) (bytes : List ℕ) (fault : ObjFault) →
    AreBytes shelf.told name bytes → read_obj_of places i bytes ≡ Err fault →
    MayHoldOne (shelf.told name) (λ content. (next : List Tri → Verdict) →
    after_file places i content next ≡ Refused (ObjRefused i fault))
fault_held places i name shelf bytes fault are e =
    (bytes, are.tells, λ next. file_refused places i bytes fault next are.small e)

-- a file with a fault
pub fault_is_no_file : (places i : ℕ) (name : List ℕ) (shelf : ShelfCall) (bytes : List ℕ) (fault : ObjFault) →
    AreBytes shelf.told name bytes → fault ≢ obj.OutOfMemory →
    (fault ≡ obj.OutOfMemory) ⊎ (read_obj_of places i bytes ≡ Err fault) →
    IsNoFile (after_file places i) i name shelf (ObjRefused i fault)
fault_is_no_file places i name shelf bytes fault are n (inl e) = absurd (n e)
fault_is_no_file places i name shelf bytes fault are n (inr e) = record {
  refused = λ r. fault_held places i name shelf bytes fault are e;
  of_file = λ r. refl;
  read_fault = λ number f. absurd (cc);
  memory = obj_tells i fault n;
  never = (λ f. absurd (cc), λ f. absurd (cc), λ f. absurd (cc));
}

-- ---- its mesh
-- without its triangles there is no mesh
pub file_is_no_mesh : (places i : ℕ) (name : List ℕ) (shelf : ShelfCall) (status : Status) →
    IsNoFile (after_file places i) i name shelf status → IsNoFile (after_mesh places i) i name shelf status
file_is_no_mesh places i name shelf status no_file =
    no_file_then (after_file places i) (after_mesh places i) i name shelf status
    (λ content refused next. refused (λ tris. after_balance i (loose_of tris) (next tris))) no_file

loose_held : (places i : ℕ) (told : Option (List ℕ)) (tris : List Tri) (loose : Loose) → loose_of tris ≡ Some loose →
    MayHoldOne told (λ content. (next : List Tri → Verdict) → after_file places i content next ≡ next tris) →
    MayHoldOne told (λ content. (next : List Tri → Verdict) →
    after_mesh places i content next ≡ Refused (MeshRefused i (Unbalanced loose)))
loose_held places i told tris loose found h =
    held_one_then told (λ content. (next : List Tri → Verdict) → after_file places i content next ≡ next tris)
    (λ content. (next : List Tri → Verdict) →
    after_mesh places i content next ≡ Refused (MeshRefused i (Unbalanced loose)))
    (λ content read next. read (λ tris. after_balance i (loose_of tris) (next tris))
    ∙ ap (λ (found : Option Loose). after_balance i found (next tris)) found) h

-- a mesh that isn't closed
pub loose_is_no_file : (places i : ℕ) (name : List ℕ) (shelf : ShelfCall) (tris : List Tri) (loose : Loose) →
    MayHoldOne (shelf.told name) (λ content. (next : List Tri → Verdict) →
    after_file places i content next ≡ next tris) → loose_of tris ≡ Some loose →
    IsNoFile (after_mesh places i) i name shelf (MeshRefused i (Unbalanced loose))
loose_is_no_file places i name shelf tris loose read found = record {
  refused = λ r. loose_held places i (shelf.told name) tris loose found read;
  of_file = λ r. refl;
  read_fault = λ number f. absurd (cc);
  memory = refl;
  never = (λ f. absurd (cc), λ f. absurd (cc), λ f. absurd (cc));
}

-- ---- a longer call
-- what a call saw of the file is what a call saw that began earlier
pub no_file_since : {A : Type 0} (step : Option (List ℕ) → (A → Verdict) → Verdict) (i : ℕ) (name other : List ℕ)
    (late all : ShelfCall) (status : Status) → late.told ≡ all.told → all.faults ≤ late.faults →
    late.faults_after ≡ all.faults_after → late.fault_at ≡ all.fault_at → name ≡ other →
    IsNoFile step i name late status → IsNoFile step i other all status
no_file_since {A = A} step i name other late all status told later after at named no_file = record {
  refused = λ r. subst (λ (content : Option (List ℕ)). MayHoldOne content
      (λ content. (next : A → Verdict) → step content next ≡ Refused status)) (λ k. told k (named k)) (no_file.refused r);
  of_file = no_file.of_file;
  read_fault = λ number f.
      let fault = no_file.read_fault number f in
      let risen : HasRisen late.faults all.faults_after = subst (λ (n : ℕ). HasRisen late.faults n) after fault.1 in
      (fault.0, has_risen_later all.faults late.faults all.faults_after later risen, sym at ∙ fault.2);
  memory = no_file.memory;
  never = no_file.never;
}
