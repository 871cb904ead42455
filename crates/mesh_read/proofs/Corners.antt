-- The corners of a face
use Rattle.std.proofs.Common.{◌≡◌, ℕ, zero, suc, false, ◌<◌, ◌≤◌, ◌-◌, List, [], ◌∷◌, ◌++◌, length, min, refl, sym, ap}
use Rattle.std.proofs.Common.{ap₂, ◌∙◌, append_assoc, arith, Option, None, Some, inl, inr}
use Rattle.std.specs.Prelude.{nat_le, nat_lt}
use Rattle.std.specs.Option.{option_map}
use Rattle.std.proofs.lemmas.Bool.{cases_Bool, leb-true, leb-false, le-ltb}
use Rattle.std.proofs.lemmas.List.{append-nil}
use Rattle.mesh_read.specs.Scan.Parts.{Piece}
use Rattle.mesh_number.specs.Number.Naturals.{number_of, below}
use Rattle.mesh_read.specs.Off.ReadOff.{with_corner, indices, corners_of_size}

-- corners in front of those that follow
abbrev pub corners_front : List ℕ → Option (List ℕ) → Option (List ℕ)
corners_front xs None = None
corners_front xs (Some more) = Some (xs ++ more)

corners_twice : (xs : List ℕ) (x : ℕ) (more : Option (List ℕ)) → corners_front xs (with_corner (Some x) more) ≡ corners_front (xs ++ x ∷ []) more
corners_twice xs x None = refl
corners_twice xs x (Some more) = ap (λ zs. Some zs) (sym (append_assoc xs (x ∷ []) more))

-- after one more index of a vertex, what is left is the indices in the other words
pub indices_more : (all : Option (List ℕ)) (vertices : ℕ) (items new : List ℕ) (corner left : ℕ)
    (words more : List Piece) (word : Piece) → 0 < left → all ≡ corners_front items (indices vertices left words) →
    words ≡ word ∷ more → below vertices (number_of word.text) ≡ Some corner → new ≡ items ++ corner ∷ [] →
    all ≡ corners_front new (indices vertices (left - 1) more)
indices_more all vertices items new corner zero words more word some so_far is read n = absurd (omega arith)
indices_more all vertices items new corner (suc left) words more word some so_far is read n =
    let less : suc left - 1 ≡ left = omega arith in
    so_far
    ∙ ap (λ ws. corners_front items (indices vertices (suc left) ws)) is
    ∙ ap (λ c. corners_front items (with_corner c (indices vertices left more))) read
    ∙ corners_twice items corner (indices vertices left more)
    ∙ ap₂ (λ xs k. corners_front xs (indices vertices k more)) (sym n) (sym less)

-- if a word is no index of a vertex, there are no corners
pub indices_fault : (all : Option (List ℕ)) (vertices : ℕ) (items : List ℕ) (left : ℕ) (words more : List Piece)
    (word : Piece) → 0 < left → all ≡ corners_front items (indices vertices left words) → words ≡ word ∷ more →
    below vertices (number_of word.text) ≡ None → all ≡ None
indices_fault all vertices items zero words more word some so_far is read = absurd (omega arith)
indices_fault all vertices items (suc left) words more word some so_far is read =
    so_far
    ∙ ap (λ ws. corners_front items (indices vertices (suc left) ws)) is
    ∙ ap (λ c. corners_front items (with_corner c (indices vertices left more))) read

-- if the words end too early, there are no corners
pub indices_short : (all : Option (List ℕ)) (vertices : ℕ) (items : List ℕ) (left : ℕ) (words : List Piece) → 0 < left →
    all ≡ corners_front items (indices vertices left words) → words ≡ [] → all ≡ None
indices_short all vertices items zero words some so_far is = absurd (omega arith)
indices_short all vertices items (suc left) words some so_far is = so_far ∙ ap (λ ws. corners_front items (indices vertices (suc left) ws)) is

-- if no index is left to read, the corners are those that were read
pub indices_end : (all : Option (List ℕ)) (vertices : ℕ) (items : List ℕ) (words : List Piece) →
    all ≡ corners_front items (indices vertices 0 words) → all ≡ Some items
indices_end all vertices items words so_far = so_far ∙ ap (λ xs. Some xs) (append-nil items)

no_corner : (first : Option ℕ) → with_corner first None ≡ None
no_corner None = refl
no_corner (Some x) = refl

-- a face can't have more corners than words
few_words : (vertices left : ℕ) (words : List Piece) → length words < left → indices vertices left words ≡ None
few_words vertices zero words few = absurd (omega arith)
few_words vertices (suc left) [] few = refl
few_words vertices (suc left) (word ∷ words) few =
    ap (with_corner (below vertices (number_of word.text))) (few_words vertices left words (omega arith))
    ∙ no_corner (below vertices (number_of word.text))

-- a size may be cut down to a limit above the number of words
capped_size : (limit vertices size : ℕ) (words : List Piece) → length words < limit → indices vertices (min limit size) words ≡ indices vertices size words
capped_size limit vertices size words few =
    elim (cases_Bool (nat_le size limit)) [
      | inl h ↦ let same : min limit size ≡ size = omega (arith, leb-true size limit h) in ap (λ n. indices vertices n words) same
      | inr h ↦ few_words vertices (min limit size) words (omega (arith, leb-false size limit h))
          ∙ sym (few_words vertices size words (omega (arith, leb-false size limit h)))
    ]

-- ---- sizes that are read with a limit

-- a size of 3 or more that was read with a limit: the corners are read by it
pub size_read : (limit vertices size : ℕ) (number : Option ℕ) (words : List Piece) →
    Some size ≡ option_map (min limit) number → 3 ≤ size → length words < limit →
    corners_of_size vertices number words ≡ indices vertices size words
size_read limit vertices size None words is enough few = cc
size_read limit vertices size (Some n) words is enough few =
    let same : size ≡ min limit n = cc in
    let no : nat_lt n 3 ≡ false = le-ltb n 3 (omega (arith, same)) in
    rw no (sym (capped_size limit vertices n words few) ∙ ap (λ k. indices vertices k words) (sym same))
