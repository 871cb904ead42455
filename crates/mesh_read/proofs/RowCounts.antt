-- How many rows and words there are
use Rattle.std.proofs.Common.{◌≡◌, ℕ, true, false, ◌<◌, ◌≤◌, ◌+◌, ◌^◌, List, [], ◌∷◌, ◌++◌, length, min, take, drop}
use Rattle.std.proofs.Common.{refl, ap, ap₂, arith, Option, None, Some, inl, inr}
use Rattle.std.specs.Prelude.{◌==◌, if◌then◌else◌, nat_le}
use Rattle.std.specs.Option.{option_map}
use Rattle.std.proofs.lemmas.Bool.{cases_Bool, leb-true, leb-false}
use Rattle.ember_obj.specs.Scan.{is_separator}
use Rattle.mesh_read.specs.Scan.Parts.{Piece, before_lines, lines_from, with_word_ending, words_from, uncommented, words_of}
use Rattle.mesh_read.specs.Off.Rows.{Words, with_row, rows_from}
use Rattle.mesh_read.specs.Off.Limits.{capped}
use Rattle.mesh_read.specs.Off.ReadOff.{Counts, points_of, facets_of, whole, counted, two_counts}

few_before : (s b : ℕ) (lines : List Piece) → length (before_lines s b lines) ≤ 1 + length lines
few_before s b [] = omega arith
few_before s b (line ∷ lines) = omega arith

few_lines : (s : ℕ) (text : List ℕ) → length (lines_from s text) ≤ length text
few_lines s [] = omega arith
few_lines s (b ∷ bs) =
    elim (b == 10) as (λ t. length (if t then record { start = s; text = [] }
    ∷ lines_from (s + 1) bs else before_lines s b (lines_from (s + 1) bs)) ≤ length (b ∷ bs)) [
      | true ↦ omega (arith, few_lines (s + 1) bs)
      | false ↦ omega (arith, few_lines (s + 1) bs, few_before s b (lines_from (s + 1) bs))
    ]

few_with : (number : ℕ) (words : List Piece) (rows : List Words) → length (with_row number words rows) ≤ 1 + length rows
few_with number [] rows = omega arith
few_with number (word ∷ words) rows = omega arith

few_rows_from : (number : ℕ) (lines : List Piece) → length (rows_from number lines) ≤ length lines
few_rows_from number [] = omega arith
few_rows_from number (line ∷ lines) = omega (
  arith,
  few_rows_from (number + 1) lines,
  few_with number (words_of (uncommented line)) (rows_from (number + 1) lines),
)

-- no more rows than bytes
pub few_rows : (number s : ℕ) (text : List ℕ) → length (rows_from number (lines_from s text)) ≤ length text
few_rows number s text = omega (arith, few_lines s text, few_rows_from number (lines_from s text))

few_with_word_ending : (p : ℕ) (word : List ℕ) (words : List Piece) → length (with_word_ending p word words) ≤ 1 + length words
few_with_word_ending p [] words = omega arith
few_with_word_ending p (b ∷ bs) words = omega arith

-- hardly more words than bytes
pub few_words_from : (p : ℕ) (text begun : List ℕ) → length (words_from p text begun) ≤ 1 + length text
few_words_from p [] begun = few_with_word_ending p begun []
few_words_from p (b ∷ bs) begun =
    elim (is_separator b) as (λ t. length (if t then with_word_ending p begun (words_from (p + 1) bs []) else words_from
    (p + 1) bs (begun ++ b ∷ [])) ≤ 1 + length (b ∷ bs)) [
      | true ↦ omega (arith, few_with_word_ending p begun (words_from (p + 1) bs []), few_words_from (p + 1) bs [])
      | false ↦ omega (arith, few_words_from (p + 1) bs (begun ++ b ∷ []))
    ]

-- ---- counts that are read with a limit
-- two counts, each at most the limit
pub counts_both : (limit x y : ℕ) (a b : Option ℕ) → Some x ≡ option_map (min limit) a →
    Some y ≡ option_map (min limit) b → Some (x, y) ≡ option_map (capped limit) (two_counts a b)
counts_both limit x y None b p q = cc
counts_both limit x y (Some m) None p q = cc
counts_both limit x y (Some m) (Some n) p q =
    let first : x ≡ min limit m = cc in
    let second : y ≡ min limit n = cc in
    ap₂ (λ s t. Some (s, t)) first second

-- without a first count there are no counts
pub counts_no_first : (limit : ℕ) (a b : Option ℕ) → None ≡ option_map (min limit) a → None ≡ option_map (capped limit) (two_counts a b)
counts_no_first limit None b p = refl
counts_no_first limit (Some m) b p = cc

-- without a second count there are no counts
pub counts_no_second : (limit : ℕ) (a b : Option ℕ) → None ≡ option_map (min limit) b → None ≡ option_map (capped limit) (two_counts a b)
counts_no_second limit None b p = refl
counts_no_second limit (Some m) None p = refl
counts_no_second limit (Some m) (Some n) p = cc

-- counts that were read with a limit: the rows are read by them
pub counts_read : (limit v f : ℕ) (counts : Option Counts) (rows : List Words) →
    Some (v, f) ≡ option_map (capped limit) counts → v + f ≤ length rows → length rows < limit →
    counted counts rows ≡ whole (points_of (take v rows)) (facets_of v (take f (drop v rows)))
counts_read limit v f None rows is enough few = cc
counts_read limit v f (Some c) rows is enough few =
    let both : (v, f) ≡ capped limit c = cc in
    let first : v ≡ min limit c.vertices = ap (λ (p : ℕ × ℕ). p.0) both in
    let second : f ≡ min limit c.faces = ap (λ (p : ℕ × ℕ). p.1) both in
    let vs : c.vertices ≡ v = omega (arith, first, enough, few) in
    let fs : c.faces ≡ f = omega (arith, second, enough, few) in
    elim (cases_Bool (nat_le (c.vertices + c.faces) (length rows))) [
      | inl h ↦ rw h (ap₂ (λ a b. whole (points_of (take a rows)) (facets_of a (take b (drop a rows)))) vs fs)
      | inr h ↦ absurd (omega (arith, vs, fs, leb-false (c.vertices + c.faces) (length rows) h))
    ]

-- as many vertices as there are rows have a number of 32 bits
pub rows_fit : (number s v f : ℕ) (text : List ℕ) → s + length text < 2 ^ 31 →
    nat_le (v + f) (length (rows_from number (lines_from s text))) ≡ true → v < 2 ^ 32
rows_fit number s v f text within enough = omega (
  arith,
  few_rows number s text,
  leb-true (v + f) (length (rows_from number (lines_from s text))) enough,
  within,
)
