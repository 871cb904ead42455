-- Files of which no two have one name: one that is removed, and one that is put behind the others
use Rattle.std.proofs.Common.{◌≡◌, ℕ, zero, suc, ◌+◌, ◌<◌, List, [], ◌∷◌, ◌++◌, length, take, drop, Bool, true}
use Rattle.std.proofs.Common.{false, Some, None, IsSome, IfSome, MatchOption, is_some, if◌then◌else◌, refl, sym, ap, ◌∙◌, subst, arith}
use Rattle.std.proofs.Common.{string_bytes}
use Rattle.std.proofs.lemmas.List.{map-append, take_all}
use Rattle.std.specs.Option.{option_map}
use Rattle.std.specs.Str.{bytes_eq}
use Rattle.std.specs.Prelude.{slice_index_or}
use Rattle.std.specs.Io.KnownBytes.{append_known}
use Rattle.std.specs.declared.option.Option.{Option}
use Rattle.std.proofs.lemmas.Bool.{false_from_ne_true}
use Rattle.std.proofs.lemmas.Slice.Eq.{bytes_eq-Decides}
use Rattle.ember_io.specs.Files.{first_of}
use Rattle.mesh_outside.specs.declared.target.several.NamedFile.{NamedFile}
use Rattle.mesh_outside.specs.Target.Several.{NamedBytes, names_and_bytes}
use Rattle.mesh_outside.specs.Target.Targets.{Grows, Moves}
use Rattle.ember_call.specs.Taken.{HaveOwnNames, IsIndexOf, IsWithout, held_by, with_new}

-- ---- the first file of a name
if_none : (b : Bool) (bytes : List ℕ) (rest : Option (List ℕ)) → (if b then Some bytes else rest) ≡ None → rest ≡ None
if_none true bytes rest e = absurd (cc)
if_none false bytes rest e = e

-- the first file has the name
pub first_has : (file : NamedBytes) (files : List NamedBytes) (name : List ℕ) → file.0 ≡ name →
    first_of (file ∷ files) name ≡ Some file.1
first_has file files name e = let same : bytes_eq file.0 name ≡ true = (bytes_eq-Decides file.0 name).1 e in rw same refl

-- the first file has another name
pub first_has_another : (file : NamedBytes) (files : List NamedBytes) (name : List ℕ) → ¬ (file.0 ≡ name) →
    first_of (file ∷ files) name ≡ first_of files name
first_has_another file files name n =
    let differs = false_from_ne_true (bytes_eq file.0 name) (λ t. n ((bytes_eq-Decides file.0 name).0 t)) in rw differs refl

-- a name that no file has isn't that of the first
not_first : (file : NamedBytes) (files : List NamedBytes) (name : List ℕ) → first_of (file ∷ files) name ≡ None → ¬ (file.0 ≡ name)
not_first file files name none = λ e. let some = sym (first_has file files name e) ∙ none in absurd (cc)

not_in_rest : (file : NamedBytes) (files : List NamedBytes) (name : List ℕ) → first_of (file ∷ files) name ≡ None →
    first_of files name ≡ None
not_in_rest file files name none = if_none (bytes_eq file.0 name) file.1 (first_of files name) none

-- ---- a file that is removed

found : (files : List NamedFile) (i : ℕ) (name : List ℕ) → i < length files →
    ((other : NamedFile) → string_bytes (slice_index_or files i other).name ≡ name) → first_of (names_and_bytes files) name ≡ None → ⊥
found [] i name h e none = absurd (omega arith)
found (file ∷ files) zero name h e none =
    not_first (string_bytes file.name, file.bytes.items) (names_and_bytes files) name none (e file)
found (file ∷ files) (suc i) name h e none =
    found files i name (omega arith) e (not_in_rest (string_bytes file.name, file.bytes.items) (names_and_bytes files) name none)

-- the file of this name is removed
pub removed : (files : List NamedFile) (i : ℕ) (name : List ℕ) → i < length files →
    ((other : NamedFile) → string_bytes (slice_index_or files i other).name ≡ name) → HaveOwnNames (names_and_bytes files)
    → IsWithout (names_and_bytes files) (names_and_bytes (take i files ++ drop (suc i) files)) name
removed [] i name h e own = absurd (omega arith)
removed (file ∷ files) zero name h e own =
    record {
      own_names = own.1;
      gone = subst (λ n. first_of (names_and_bytes files) n ≡ None) (e file) own.0;
      others = λ other n. sym (first_has_another (string_bytes file.name, file.bytes.items) (names_and_bytes files) other
          (λ same. n (sym same ∙ e file)));
    }
removed (file ∷ files) (suc i) name h e own =
    let rest = removed files i name (omega arith) e own.1 in
    let apart : ¬ (string_bytes file.name ≡ name) = λ same. found files i name (omega arith) e
    (subst (λ n. first_of (names_and_bytes files) n ≡ None) same own.0) in
    record {
      own_names = (rest.others (string_bytes file.name) apart ∙ own.0, rest.own_names);
      gone = first_has_another (string_bytes file.name, file.bytes.items) (names_and_bytes (take i files ++ drop (suc i) files))
          name apart ∙ rest.gone;
      others = λ other n. ap (λ w. if bytes_eq (string_bytes file.name) other then Some file.bytes.items else w)
          (rest.others other n);
    }

-- ---- a file behind the others
behind_another : (files : List NamedBytes) (name bytes other : List ℕ) → ¬ (other ≡ name) →
    first_of (files ++ (name, bytes) ∷ []) other ≡ first_of files other
behind_another [] name bytes other n = first_has_another (name, bytes) [] other (λ same. n (sym same))
behind_another (file ∷ files) name bytes other n =
    ap (λ w. if bytes_eq file.0 other then Some file.1 else w) (behind_another files name bytes other n)

behind_itself : (files : List NamedBytes) (name bytes : List ℕ) → first_of files name ≡ None →
    first_of (files ++ (name, bytes) ∷ []) name ≡ Some bytes
behind_itself [] name bytes none = first_has (name, bytes) [] name refl
behind_itself (file ∷ files) name bytes none =
    first_has_another file (files ++ (name, bytes) ∷ []) name (not_first file files name none)
    ∙ behind_itself files name bytes (not_in_rest file files name none)

-- the names are still their own
pub own_names_behind : (files : List NamedBytes) (name bytes : List ℕ) → HaveOwnNames files → first_of files name ≡ None →
    HaveOwnNames (files ++ (name, bytes) ∷ [])
own_names_behind [] name bytes own none = (refl, tt)
own_names_behind (file ∷ files) name bytes own none = (
  behind_another files name bytes file.0 (not_first file files name none) ∙ own.0,
  own_names_behind files name bytes own.1 (not_in_rest file files name none),
)

-- ---- a new file

-- it takes bytes
pub new_file_grows : (kept : List NamedBytes) (path bytes piece : List ℕ)
    → Grows (Some path) (held_by ((path, bytes) ∷ kept)) (held_by ((path, bytes ++ piece) ∷ kept)) piece
new_file_grows kept path bytes piece = (
  first_has (path, bytes ++ piece) kept path refl
      ∙ sym (ap (λ w. append_known w piece) (first_has (path, bytes) kept path refl)),
  λ other n. first_has_another (path, bytes ++ piece) kept other (λ same. n (sym same))
      ∙ sym (first_has_another (path, bytes) kept other (λ same. n (sym same))),
)

-- it takes the name of a file that was removed
pub new_file_is_kept : (kept without : List NamedBytes) (path bytes name : List ℕ) → HaveOwnNames ((path, bytes) ∷ kept) →
    IsWithout kept without name → ¬ (path ≡ name)
    → Moves (held_by ((path, bytes) ∷ kept)) (held_by (without ++ (name, bytes) ∷ [])) path name (first_of ((path, bytes) ∷ kept) path)
new_file_is_kept kept without path bytes name own is n = (
  behind_itself without name bytes is.gone ∙ sym (first_has (path, bytes) kept path refl),
  behind_another without name bytes path n ∙ is.others path n ∙ own.0,
  λ other from to. behind_another without name bytes other to ∙ is.others other to
      ∙ sym (first_has_another (path, bytes) kept other (λ same. from (sym same))),
)

-- ---- the steps of a target
-- without a new file there are those that are kept
pub only_kept : (new : Option NamedFile) (kept : List NamedBytes) → option_map (λ (file : NamedFile). string_bytes file.name) new ≡ None →
    with_new new kept ≡ kept
only_kept None kept e = refl
only_kept (Some file) kept e = absurd (cc)

held_if_not_none : (held : Option (List ℕ)) → (held ≡ None → ⊥) → IsSome held
held_if_not_none None n = absurd (n refl)
held_if_not_none (Some bytes) n = refl

-- a file that was found is held
pub found_is_held : (files : List NamedFile) (name : List ℕ) (index : Option ℕ) →
    MatchOption index (first_of (names_and_bytes files) name ≡ None) (IsIndexOf files name) → is_some index ≡ true →
    IsSome (first_of (names_and_bytes files) name)
found_is_held files name None m e = absurd (cc)
found_is_held files name (Some i) m e =
    held_if_not_none (first_of (names_and_bytes files) name) (found files i name m.in_range m.named)

-- a new file takes a piece
pub piece_is_taken : (new : Option NamedFile) (file : NamedFile) (kept : List NamedBytes) (taken piece : List ℕ) → new ≡ Some file →
    taken ≡ file.bytes.items ++ piece
    → Grows (option_map (λ (file : NamedFile). string_bytes file.name) new) (held_by (with_new new kept))
    (held_by ((string_bytes file.name, taken) ∷ kept)) (take (length piece) piece)
piece_is_taken new file kept taken piece e t =
    rw (e, t, take_all (length piece) piece (omega arith)) (new_file_grows kept (string_bytes file.name) file.bytes.items piece)

-- a kept file behind the others
with_put : (removed pushed : List NamedFile) (put : NamedFile) (name : List ℕ) → pushed ≡ removed ++ put ∷ [] → string_bytes put.name ≡ name →
    names_and_bytes pushed ≡ names_and_bytes removed ++ (name, put.bytes.items) ∷ []
with_put removed pushed put name p n = rw (p, sym n) (map-append _ removed (put ∷ []))

pub own_names_with_kept : (old : List NamedBytes) (removed pushed : List NamedFile) (put : NamedFile) (name : List ℕ) (after : Option NamedFile)
    → IsWithout old (names_and_bytes removed) name → pushed ≡ removed ++ put ∷ [] → string_bytes put.name ≡ name → after ≡ None
    → HaveOwnNames (with_new after (names_and_bytes pushed))
own_names_with_kept old removed pushed put name after is p n a =
    rw (a, with_put removed pushed put name p n)
    (own_names_behind (names_and_bytes removed) name put.bytes.items is.own_names is.gone)

pub kept_file_moves : (new after : Option NamedFile) (file put : NamedFile) (kept removed pushed : List NamedFile) (name : List ℕ)
    → new ≡ Some file → HaveOwnNames (with_new new (names_and_bytes kept)) → IsWithout (names_and_bytes kept) (names_and_bytes removed) name
    → pushed ≡ removed ++ put ∷ [] → string_bytes put.name ≡ name → put.bytes.items ≡ file.bytes.items
    → ¬ (option_map (λ (file : NamedFile). string_bytes file.name) new ≡ Some name) → after ≡ None
    → IfSome (option_map (λ (file : NamedFile). string_bytes file.name) new) (λ path. Moves (held_by (with_new new (names_and_bytes kept)))
    (held_by (with_new after (names_and_bytes pushed))) path name (first_of (with_new new (names_and_bytes kept)) path))
kept_file_moves None after file put kept removed pushed name e own is p n b apart a = tt
kept_file_moves (Some new) after file put kept removed pushed name e own is p n b apart a =
    let same : new.bytes.items ≡ put.bytes.items = ap (λ (o : Option NamedFile). bytes_in o) e ∙ sym b in
    rw (a, with_put removed pushed put name p n, sym same)
    (new_file_is_kept (names_and_bytes kept) (names_and_bytes removed) (string_bytes new.name) new.bytes.items name own is
    (λ s. apart (ap (λ w. Some w) s)))
  where
    bytes_in : Option NamedFile → List ℕ
    bytes_in None = []
    bytes_in (Some f) = f.bytes.items
