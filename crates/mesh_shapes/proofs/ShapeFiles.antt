-- Files in front of one more
use Rattle.std.proofs.Common.{map, get_or, ◌≡◌, ◌≢◌, ℕ, suc, ◌<◌, Bool, true, false, List, [], ◌∷◌, ◌++◌, length, refl, sym, ap, ◌∙◌, subst, arith, bytes_eq, None, Some, Option, if◌then◌else◌, String, Vec, Global, string_bytes}
use Rattle.std.proofs.lemmas.Slice.Eq.{bytes_eq-Decides}
use Rattle.std.specs.Prelude.{All}
use Rattle.std.proofs.lemmas.List.Elements.{All-push, All-nil, All-cons}
use Rattle.ember_io.specs.Files.{named, first_of}
use Rattle.mesh_shapes.specs.Shapes.{IsShapeFile, IsNext}

-- a file more
pub named_more : (files new : List (String Global × Vec ℕ Global)) (file : String Global × Vec ℕ Global) → new ≡ files ++ file ∷ [] →
    named new ≡ named files ++ (string_bytes file.0, file.1.items) ∷ []
named_more [] new file e = ap named e
named_more (f ∷ files) new file e = ap named e ∙ ap (λ (fs : List (List ℕ × List ℕ)). (string_bytes f.0, f.1.items) ∷ fs) (named_more files (files ++ file ∷ []) file refl)

-- a name that none of more files has, none of those before has
none_here : (here : Bool) (x : List ℕ) (less more : Option (List ℕ)) → (more ≡ None → less ≡ None) →
    (if here then Some x else more) ≡ None → (if here then Some x else less) ≡ None
none_here true x less more f h = absurd (cc)
none_here false x less more f h = f h

pub none_before : (files : List (List ℕ × List ℕ)) (file : List ℕ × List ℕ) (name : List ℕ) → first_of (files ++ file ∷ []) name ≡ None → first_of files name ≡ None
none_before [] file name h = refl
none_before (f ∷ files) file name h =
    none_here (bytes_eq f.0 name) f.1 (first_of files name) (first_of (files ++ file ∷ []) name) (none_before files file name) h

-- and the last of them has its name
some_here : (here : Bool) (x : List ℕ) (more : Option (List ℕ)) → (more ≢ None) → (if here then Some x else more) ≢ None
some_here true x more f h = absurd (cc)
some_here false x more f h = f h

pub last_is_there : (files : List (List ℕ × List ℕ)) (file : List ℕ × List ℕ) → first_of (files ++ file ∷ []) file.0 ≢ None
last_is_there [] file h =
    let same : bytes_eq file.0 file.0 ≡ true = (bytes_eq-Decides file.0 file.0).1 refl in
    absurd (cc (rw same at h))
last_is_there (f ∷ files) file h =
    some_here (bytes_eq f.0 file.0) f.1 (first_of (files ++ file ∷ []) file.0) (last_is_there files file) h

pub next_file : (old new : List (String Global × Vec ℕ Global)) (file : String Global × Vec ℕ Global) (word : List ℕ) → new ≡ old ++ file ∷ [] →
    string_bytes file.0 ≡ word → IsShapeFile (word, file.1.items) → IsNext (named old) (named new) word
next_file old new file word add name h =
    let more = named_more old new file add in
    let made : IsShapeFile (string_bytes file.0, file.1.items) = subst (λ (w : List ℕ). IsShapeFile (w, file.1.items)) (sym name) h in
    record {
      each = λ all. subst (All IsShapeFile) (sym more) (All-push IsShapeFile (named old) (string_bytes file.0, file.1.items) all made);
      kept = λ other none. none_before (named old) (string_bytes file.0, file.1.items) other (subst (λ (fs : List (List ℕ × List ℕ)). first_of fs other ≡ None) more none);
      served = λ none. absurd (last_is_there (named old) (string_bytes file.0, file.1.items)
          (subst (λ (fs : List (List ℕ × List ℕ)). first_of fs (string_bytes file.0) ≡ None) more (subst (λ (w : List ℕ). first_of (named new) w ≡ None) (sym name) none)));
    }

-- what holds of each word holds of its bytes
pub all_of_words : (P : List ℕ → Type 0) (words : List (String Global)) → ((k : ℕ) → k < length words → (d : String Global) → P (string_bytes (get_or words k d)))
    → All P (map string_bytes words)
all_of_words P [] h = All-nil P
all_of_words P (w ∷ ws) h =
    All-cons P (string_bytes w) (map string_bytes ws) (h 0 (omega arith) w) (all_of_words P ws (λ k l d. h (suc k) (omega arith) d))
