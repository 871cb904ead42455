-- Files that are written one after another.
use Rattle.std.proofs.Common.{◌≡◌, ℕ, ◌+◌, ◌<◌, ◌≤◌, ◌⊎◌, List, [], ◌∷◌, ◌++◌, length, take, drop, get_or, Some, None, refl, ◌∙◌, ap, sym, inl, inr, arith}
use Rattle.std.proofs.lemmas.List.{at_drop_more, map-append, take-append-drop, take_more}
use Rattle.std.specs.Prelude.{string_bytes}
use Rattle.std.specs.declared.option.Option.{Option}
use Rattle.mesh_outside.specs.declared.target.several.NamedFile.{NamedFile}
use Rattle.mesh_outside.specs.declared.target.target.WriteEnd.{WriteEnd}
use Rattle.mesh_outside.specs.declared.target.target.WriteEnd.TheVariants.{WriteFault, NamesTaken, OutOfMemory}
use Rattle.ember_io.specs.Causes.{HasRisen}
use Rattle.mesh_outside.specs.Target.Several.{IsWriteCause, NamedBytes, PutsBefore, PutsEach, names_and_bytes}
use Rattle.mesh_outside.specs.Target.Targets.{Names, AreAllTaken, HasRisenTwice, HoldsSame, Puts}
use Rattle.mesh_outside.proofs.HeldNames.{HoldsSame-trans, Puts-after_same}

HoldsSame-refl : (a : Option Names) → HoldsSame a a
HoldsSame-refl None = tt
HoldsSame-refl (Some f) = λ other. refl

-- files that were put, and then one more
pub PutsEach-more : (files : List NamedBytes) (a b c : Option Names) (name bytes : List ℕ) → PutsEach files a b → Puts b c name (Some bytes)
    → PutsEach (files ++ (name, bytes) ∷ []) a c
PutsEach-more [] a b c name bytes p q = (c, Puts-after_same a b c name (Some bytes) p q, HoldsSame-refl c)
PutsEach-more (file ∷ files) a b c name bytes p q = (p.0, p.1, PutsEach-more files p.0 b c name bytes p.2 q)

-- a call that changed nothing, and then files that were put
pub PutsEach-after_same : (files : List NamedBytes) (a b c : Option Names) → HoldsSame a b → PutsEach files b c → PutsEach files a c
PutsEach-after_same [] a b c p q = HoldsSame-trans a b c p q
PutsEach-after_same (file ∷ files) a b c p q = (q.0, Puts-after_same a b q.0 file.0 (Some file.1) p q.1, q.2)

-- the files before this one, this one, and those behind it
pub files_before_and_behind : (files : List NamedFile) (i : ℕ) (file : NamedFile) → i < length files → file ≡ get_or files i file
    → names_and_bytes files ≡ names_and_bytes (take i files) ++ (string_bytes file.name, file.bytes.items) ∷ names_and_bytes (drop (i + 1) files)
files_before_and_behind files i file h e =
    ap names_and_bytes (sym (take-append-drop i files)) ∙ map-append _ (take i files) (drop i files) ∙ ap (λ rest. names_and_bytes (take i files) ++ rest)
    (at_drop_more names_and_bytes files i file h ∙ ap (λ found. names_and_bytes (found ∷ drop (i + 1) files)) (sym e))

-- one file more than those before this one
pub files_with_one_more : (files : List NamedFile) (i : ℕ) (file : NamedFile) → i < length files → file ≡ get_or files i file
    → names_and_bytes (take (i + 1) files) ≡ names_and_bytes (take i files) ++ (string_bytes file.name, file.bytes.items) ∷ []
files_with_one_more files i file h e =
    ap names_and_bytes (take_more files i file h) ∙ map-append _ (take i files) (get_or files i file ∷ [])
    ∙ ap (λ found. names_and_bytes (take i files) ++ names_and_bytes (found ∷ [])) (sym e)

-- a count that has risen twice since a later call has done so since an earlier one
pub risen_twice_since : {P : Type 0} (before between now : ℕ) → before ≤ between → P ⊎ HasRisenTwice between now → P ⊎ HasRisenTwice before now
risen_twice_since before between now h (inl p) = inl p
risen_twice_since before between now h (inr r) = inr (omega (arith, h, r))

-- the cause of one file is one of all that were to be written
pub cause_since : (held : Option Names) (name : List ℕ) (before between now : ℕ) (why : WriteEnd) → before ≤ between → (why ≡ WriteFault → HasRisen between now)
    → (why ≡ NamesTaken → AreAllTaken held name) → IsWriteCause held name before now why
cause_since held name before between now WriteFault h fault taken = omega (arith, h, fault refl)
cause_since held name before between now NamesTaken h fault taken = taken refl
cause_since held name before between now OutOfMemory h fault taken = tt

cause_earlier : (held : Option Names) (name : List ℕ) (before between now : ℕ) (why : WriteEnd) → before ≤ between →
    IsWriteCause held name between now why → IsWriteCause held name before now why
cause_earlier held name before between now WriteFault h cause = omega (arith, h, cause)
cause_earlier held name before between now NamesTaken h cause = cause
cause_earlier held name before between now OutOfMemory h cause = tt

-- a call that changed nothing, and then files of which one wasn't written
pub PutsBefore-after_same : (files : List NamedBytes) (name : List ℕ) (why : WriteEnd) (a b c : Option Names)
    (before between now : ℕ) → HoldsSame a b → before ≤ between
    → PutsBefore files name why b c between now → PutsBefore files name why a c before now
PutsBefore-after_same files name why a b c before between now same later h =
    record {
      written = h.written;
      bytes = h.bytes;
      others = h.others;
      all = h.all;
      between = h.between;
      put = PutsEach-after_same h.written a b h.between same h.put;
      held = h.held;
      removed = risen_twice_since before between now later h.removed;
      cause = cause_earlier h.between name before between now why later h.cause;
    }
