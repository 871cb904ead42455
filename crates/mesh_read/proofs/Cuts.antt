-- A text that is cut at the first byte of a kind
use Rattle.std.proofs.Common.{◌≡◌, ℕ, Bool, true, false, ◌<◌, ◌+◌, ◌-◌, List, [], ◌∷◌, ◌++◌, length, refl, sym, ap, ap₂, ◌∙◌}
use Rattle.std.proofs.Common.{append_assoc, arith, slice_index, inl, inr, drop}
use Rattle.std.specs.Prelude.{◌==◌, if◌then◌else◌}
use Rattle.std.proofs.lemmas.Bool.{cases_Bool}
use Rattle.std.proofs.lemmas.List.{append-nil}
use Rattle.ember_obj.specs.Scan.{before, onward}
use Rattle.mesh_read.specs.Scan.Parts.{Piece, with_word_ending, words_by, before_lines, lines_from}

abbrev piece : ℕ → List ℕ → Piece
piece s text = record { start = s; text = text }

-- the last line, which no line feed ends
last_line : (s : ℕ) (text : List ℕ) → 0 < length text → onward (λ b. b == 10) text ≡ [] → lines_from s text ≡ piece s (before (λ b. b == 10) text) ∷ []
last_line s [] some none = absurd (omega arith)
last_line s (b ∷ []) some none =
    elim (b == 10) as (λ t. (if t then b ∷ [] else []) ≡ [] →
    (if t then piece s [] ∷ [] else piece s (b ∷ []) ∷ []) ≡ piece s (if t then [] else b ∷ []) ∷ []) [
      | true ↦ λ e. (cc)
      | false ↦ λ e. refl
    ] none
last_line s (b ∷ c ∷ bs) some none =
    elim (b == 10) as (λ t. (if t then b ∷ c ∷ bs else onward (λ x. x == 10) (c ∷ bs)) ≡ [] →
    (if t then piece s [] ∷ lines_from (s + 1) (c ∷ bs) else before_lines s b (lines_from (s + 1) (c ∷ bs))) ≡ piece s
    (if t then [] else b ∷ before (λ x. x == 10) (c ∷ bs)) ∷ []) [
      | true ↦ λ e. (cc)
      | false ↦ λ e. ap (λ l. before_lines s b l) (last_line (s + 1) (c ∷ bs) (omega arith) e)
    ] none

-- a line that a line feed ends
first_line : (s : ℕ) (text after : List ℕ) (b : ℕ) → onward (λ x. x == 10) text ≡ b ∷ after →
    lines_from s text ≡ piece s (before (λ x. x == 10) text)
    ∷ lines_from (s + length (before (λ x. x == 10) text) + 1) after
first_line s [] after b is = cc
first_line s (x ∷ xs) after b is =
    elim (x == 10) as (λ t. (if t then x ∷ xs else onward (λ y. y == 10) xs) ≡ b ∷ after →
    (if t then piece s [] ∷ lines_from (s + 1) xs else before_lines s x (lines_from (s + 1) xs)) ≡ piece s
    (if t then [] else x ∷ before (λ y. y == 10) xs)
    ∷ lines_from (s + length (if t then [] else x ∷ before (λ y. y == 10) xs) + 1) after) [
      | true ↦ λ e.
          let same : xs ≡ after = cc in
          let place : s + 0 + 1 ≡ s + 1 = omega arith in
          ap₂ (λ n l. piece s [] ∷ lines_from n l) (sym place) same
      | false ↦ λ e.
          let place : s + 1 + length (before (λ y. y == 10) xs) + 1 ≡ s + length (x ∷ before (λ y. y == 10) xs) + 1 = omega arith in
          ap (λ l. before_lines s x l) (first_line (s + 1) xs after b e) ∙ ap (λ n. piece s (x ∷ before (λ y. y == 10) xs) ∷ lines_from n after) place
    ] is

-- the last line is cut off
pub last_cut : (s t n : ℕ) (text line rest : List ℕ) → 0 < length text → rest ≡ onward (λ b. b == 10) text →
    length rest ≡ 0 → line ≡ before (λ b. b == 10) text → t ≡ s → lines_from s text ≡ piece t line ∷ lines_from n rest
last_cut s t n text line [] some is none l same = last_line s text some (sym is) ∙ ap₂ (λ m x. piece m x ∷ []) (sym same) (sym l)
last_cut s t n text line (r ∷ rs) some is none l same = absurd (omega arith)

-- a line that a line feed ends is cut off
pub first_cut : (s t n m : ℕ) (text line rest after : List ℕ) → 0 < length rest → rest ≡ onward (λ b. b == 10) text →
    line ≡ before (λ b. b == 10) text → t ≡ s → n ≡ s + length line → m ≡ n + 1 → after ≡ drop 1 rest →
    lines_from s text ≡ piece t line ∷ lines_from m after
first_cut s t n m text line [] after some is l same next more a = absurd (omega arith)
first_cut s t n m text line (r ∷ rs) after some is l same next more a =
    let place : s + length (before (λ b. b == 10) text) + 1 ≡ m = omega (arith, next, more, ap length l) in
    first_line s text rs r (sym is) ∙ ap₂ (λ p x. p ∷ x) (ap₂ (λ p x. piece p x) (sym same) (sym l)) (ap₂ (λ p x. lines_from p x) place (sym a))

-- the words of a text in which a word is open
word_then_rest : (blank : ℕ → Bool) (p : ℕ) (text begun : List ℕ) →
    words_by blank p text begun ≡ with_word_ending (p + length (before blank text)) (begun ++ before blank text)
    (words_by blank (p + length (before blank text)) (onward blank text) [])
word_then_rest blank p [] begun = ap₂ (λ x n. with_word_ending n x []) (sym (append-nil begun)) (omega arith)
word_then_rest blank p (b ∷ bs) begun =
    elim (cases_Bool (blank b)) [
      | inl h ↦
          let place : p + 0 ≡ p = omega arith in
          simp (h, append-nil begun, place)
      | inr h ↦
          let place : p + 1 + length (before blank bs) ≡ p + length (b ∷ before blank bs) = omega arith in
          simp (h, word_then_rest blank (p + 1) bs (begun ++ b ∷ []), append_assoc, place)
    ]

-- a word that begins the text
one_word_ending : (p : ℕ) (word : List ℕ) (words : List Piece) → 0 < length word → with_word_ending (p + length word) word words ≡ piece p word ∷ words
one_word_ending p [] words some = absurd (omega arith)
one_word_ending p (b ∷ bs) words some =
    let place : p + length (b ∷ bs) - length (b ∷ bs) ≡ p = omega arith in
    ap (λ n. piece n (b ∷ bs) ∷ words) place

word_has_byte : (blank : ℕ → Bool) (text : List ℕ) → 0 < length text → blank (slice_index text 0) ≡ false → 0 < length (before blank text)
word_has_byte blank [] some first = absurd (omega arith)
word_has_byte blank (b ∷ bs) some first = simp first (omega arith)

-- a text that begins with a word
first_word : (blank : ℕ → Bool) (p : ℕ) (text : List ℕ) → 0 < length text → blank (slice_index text 0) ≡ false →
    words_by blank p text [] ≡ piece p (before blank text)
    ∷ words_by blank (p + length (before blank text)) (onward blank text) []
first_word blank p text some first = word_then_rest blank p text []
    ∙ one_word_ending p (before blank text)
    (words_by blank (p + length (before blank text)) (onward blank text) []) (word_has_byte blank text some first)

-- a word that begins the text is cut off
pub word_cut : (blank : ℕ → Bool) (p t n : ℕ) (text word rest : List ℕ) → 0 < length text → blank (slice_index text 0) ≡ false →
    word ≡ before blank text → rest ≡ onward blank text → t ≡ p → n ≡ t + length word →
    words_by blank p text [] ≡ piece t word ∷ words_by blank n rest []
word_cut blank p t n text word rest some first w r same next =
    let place : p + length (before blank text) ≡ n = omega (arith, same, next, ap length w) in
    first_word blank p text some first ∙ ap₂ (λ x y. x ∷ y) (ap₂ (λ a b. piece a b) (sym same) (sym w)) (ap₂ (λ a b. words_by blank a b []) place (sym r))
