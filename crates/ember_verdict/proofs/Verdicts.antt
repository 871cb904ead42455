-- What follows on a step of a verdict, and what the reading of a file says of it.
use Rattle.std.proofs.Common.{◌≡◌, ◌≢◌, ℕ, ◌<◌, ◌≤◌, true, false, List, length, nat_le, Some, Result, Ok, Err, IfErr}
use Rattle.std.proofs.Common.{refl, sym, ap, subst, arith, leb, ◌⊎◌, inl, inr, ◌∙◌}
use Rattle.std.specs.Prelude.{⊤}
use Rattle.std.proofs.lemmas.Bool.{le-leb}
use Rattle.std.proofs.lemmas.Bool.Decides.{leb_tells}
use Rattle.std.specs.declared.option.Option.{Option}
use Rattle.std.specs.Result.{IsErrAnd}
use Rattle.ember_model.specs.declared.tri.Tri.{Tri}
use Rattle.ember_io.specs.Shelves.{AreBytes}
use Rattle.ember_obj.specs.declared.fault.ObjFault.{ObjFault}
use Rattle.ember_obj.specs.Table.{FileTriangles}
use Rattle.ember_obj.specs.ReadObj.{read_obj_of}
use Rattle.ember_verdict.specs.declared.status.LimitKind.TheVariants.{Bytes}
use Rattle.ember_verdict.specs.declared.status.Status.{Status}
use Rattle.ember_verdict.specs.declared.status.Status.TheVariants.{ObjRefused, Limit}
use Rattle.ember_verdict.specs.Held.{MayHoldOne}
use Rattle.ember_verdict.specs.Verdict.{Verdict, Unknown, Refused, Writes, Slices, after_bytes, after_file, after_triangles}
use Rattle.ember_verdict.specs.Statuses.{IsRefusal, IsRefusalIfTold, IsText, IsTextIfTold}

-- ---- one verdict and another
-- if the first verdict is told, it is the second
abbrev pub IsSameIfTold : Verdict → Verdict → Type 0
IsSameIfTold Unknown other = ⊤
IsSameIfTold (Refused refusal) other = Refused refusal ≡ other
IsSameIfTold (Writes output) other = Writes output ≡ other
IsSameIfTold (Slices at bytes) other = Slices at bytes ≡ other

pub same_self : (v : Verdict) → IsSameIfTold v v
same_self Unknown = tt
same_self (Refused status) = refl
same_self (Writes output) = refl
same_self (Slices at bytes) = refl

-- a refusal stays one if only a part of the files is known
pub refusal_then : (status : Status) (u v : Verdict) → IsSameIfTold u v → IsRefusalIfTold status v → IsRefusalIfTold status u
refusal_then status Unknown v e f = tt
refusal_then status (Refused refusal) v e f = subst (λ v. IsRefusalIfTold status v) (sym e) f
refusal_then status (Writes output) v e f = subst (λ v. IsRefusalIfTold status v) (sym e) f
refusal_then status (Slices at bytes) v e f = subst (λ v. IsRefusalIfTold status v) (sym e) f

-- a refusal that is told is one if told
pub refusal_if_told : (status : Status) (v : Verdict) → IsRefusal status v → IsRefusalIfTold status v
refusal_if_told status Unknown f = tt
refusal_if_told status (Refused refusal) f = f
refusal_if_told status (Writes output) f = f
refusal_if_told status (Slices at bytes) f = f

-- an output by all contents is one if only a part of them is known
pub text_told : (bytes : List ℕ) (u v : Verdict) → IsSameIfTold u v → IsText v bytes → IsTextIfTold u bytes
text_told bytes Unknown v e f = tt
text_told bytes (Refused refusal) v e f = subst (λ v. IsText v bytes) (sym e) f
text_told bytes (Writes output) v e f = subst (λ v. IsText v bytes) (sym e) f
text_told bytes (Slices at file) v e f = subst (λ v. IsText v bytes) (sym e) f

-- a verdict that, if told, is the same as an unknown one is unknown
pub untold_then : (u v : Verdict) → IsSameIfTold u v → v ≡ Unknown → u ≡ Unknown
untold_then Unknown v e f = refl
untold_then (Refused refusal) v e f = e ∙ f
untold_then (Writes output) v e f = e ∙ f
untold_then (Slices at bytes) v e f = e ∙ f

-- a verdict that is told is the same
pub known_then : (u v : Verdict) → u ≢ Unknown → IsSameIfTold u v → v ≡ u
known_then Unknown v n e = absurd (n refl)
known_then (Refused refusal) v n e = sym e
known_then (Writes output) v n e = sym e
known_then (Slices at bytes) v n e = sym e

-- a verdict that refuses is this refusal
pub refusal_is : (status : Status) (v : Verdict) → v ≡ Refused status → IsRefusal status v
refusal_is status v e = subst (λ (v : Verdict). IsRefusal status v) (sym e) refl

-- ---- errors

-- an error that is passed on as it is
pub passed_on : {A : Type 0} (P : Status → Type 0) (result : Result A Status) (status : Status) →
    IsErrAnd result (λ given. given ≡ status) → P status → IfErr result P
passed_on P (Ok value) status e h = tt
passed_on P (Err given) status e h = subst P (sym e) h

-- ---- a file
pub above : (a b : ℕ) → b < a → nat_le a b ≡ false
above a b h = by (leb_tells a b)
  where
    by : ((leb a b ≡ true) × (a ≤ b)) ⊎ ((leb a b ≡ false) × (b < a)) → leb a b ≡ false
    by (inl p) = absurd (omega (arith, p.1, h))
    by (inr p) = p.0

-- bytes that are few enough are passed on
pub bytes_read : (i : ℕ) (bytes : List ℕ) (next : List ℕ → Verdict) → length bytes ≤ 268435456 →
    after_bytes i (Some bytes) next ≡ next bytes
bytes_read i bytes next l = rw (le-leb (length bytes) 268435456 l) refl

-- too many bytes are refused
pub bytes_too_long : (i count : ℕ) (bytes : List ℕ) (next : List ℕ → Verdict) → count ≡ 268435457 →
    268435456 < length bytes → after_bytes i (Some bytes) next ≡ Refused (Limit (Bytes i) count)
bytes_too_long i count bytes next e h = subst (λ (n : ℕ). after_bytes i (Some bytes) next ≡ Refused (Limit (Bytes i) n))
    (sym e) (rw (above (length bytes) 268435456 h) refl)

-- triangles that were read are passed on
pub file_read : (places i : ℕ) (bytes : List ℕ) (faces : FileTriangles) (next : List Tri → Verdict) →
    length bytes ≤ 268435456 → read_obj_of places i bytes ≡ Ok faces →
    after_file places i (Some bytes) next ≡ next faces.tris
file_read places i bytes faces next l e =
    bytes_read i bytes (λ bytes. after_triangles i (read_obj_of places i bytes) next) l
    ∙ ap (λ (read : Result FileTriangles ObjFault). after_triangles i read next) e

-- a file with a fault is refused
pub file_refused : (places i : ℕ) (bytes : List ℕ) (fault : ObjFault) (next : List Tri → Verdict) →
    length bytes ≤ 268435456 → read_obj_of places i bytes ≡ Err fault →
    after_file places i (Some bytes) next ≡ Refused (ObjRefused i fault)
file_refused places i bytes fault next l e =
    bytes_read i bytes (λ bytes. after_triangles i (read_obj_of places i bytes) next) l
    ∙ ap (λ (read : Result FileTriangles ObjFault). after_triangles i read next) e

-- the file may have the bytes that were read
pub file_held : (told : List ℕ → Option (List ℕ)) (name : List ℕ) (places i : ℕ) (bytes : List ℕ)
    (faces : FileTriangles) → AreBytes told name bytes → read_obj_of places i bytes ≡ Ok faces →
    MayHoldOne (told name) (λ content. (next : List Tri → Verdict) → after_file places i content next ≡ next faces.tris)
file_held told name places i bytes faces are e = (bytes, are.tells, λ next. file_read places i bytes faces next are.small e)
