-- Indices in a list of named files: the bytes there, and the first file of a name.
use Rattle.std.proofs.Common.{◌≡◌, ℕ, zero, suc, ◌≤◌, ◌<◌, List, [], ◌∷◌, length, drop, get_or, true, Some, refl, ap}
use Rattle.std.proofs.Common.{arith, Vec, String, string_bytes, Global, bytes_eq}
use Rattle.ember_io.specs.Files.{named, first_of, bytes_at}

bytes_at-past : (files : List (List ℕ × List ℕ)) (i : ℕ) → length files ≤ i → bytes_at files i ≡ []
bytes_at-past [] i h = refl
bytes_at-past (f ∷ fs) zero h = absurd (omega arith)
bytes_at-past (f ∷ fs) (suc i) h = bytes_at-past fs i (omega arith)

length-named : (files : List (String Global × Vec ℕ Global)) → length (named files) ≡ length files
length-named [] = refl
length-named (f ∷ fs) = ap suc (length-named fs)

-- the bytes at an index are those of the file there
pub bytes_at-named : (files : List (String Global × Vec ℕ Global)) (i : ℕ) (d : String Global × Vec ℕ Global) →
    i < length files → bytes_at (named files) i ≡ (get_or files i d).1.items
bytes_at-named [] i d h = absurd (omega arith)
bytes_at-named (f ∷ fs) zero d h = refl
bytes_at-named (f ∷ fs) (suc i) d h = bytes_at-named fs i d (omega arith)

-- past the last file there are no bytes
pub named_past : (files : List (String Global × Vec ℕ Global)) (i : ℕ) → length files ≤ i → bytes_at (named files) i ≡ []
named_past files i h = bytes_at-past (named files) i (omega (arith, length-named files))

-- if the file at an index has the name, it is the first of this name from there on
pub first_here : (files : List (String Global × Vec ℕ Global)) (i : ℕ) (name : List ℕ)
    (d : String Global × Vec ℕ Global) → i < length files → bytes_eq (string_bytes (get_or files i d).0) name ≡ true
    → first_of (named (drop i files)) name ≡ Some (bytes_at (named files) i)
first_here [] i name d h e = absurd (omega arith)
first_here (f ∷ fs) zero name d h e = rw e refl
first_here (f ∷ fs) (suc i) name d h e = first_here fs i name d (omega arith) e
