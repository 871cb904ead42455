-- A text that is cut at the first byte of a kind.
use Rattle.std.proofs.Common.{◌≡◌, ℕ, true, false, ◌<◌, List, [], ◌∷◌, ◌++◌, length, refl, sym, ap, ◌∙◌, append_assoc, arith, slice_index, inl, inr}
use Rattle.std.specs.Prelude.{◌==◌, if◌then◌else◌, map}
use Rattle.std.proofs.lemmas.Bool.{cases_Bool}
use Rattle.std.proofs.lemmas.List.{append-nil}
use Rattle.ember_obj.specs.Scan.{before, onward, is_separator, with_field, fields_of, fields_from}
use Rattle.ember_obj.specs.Lines.{before_lines, ended_lines, without_return, physical_lines}

-- the last line, which no line feed ends
last_line : (text : List ℕ) → 0 < length text → onward (λ b. b == 10) text ≡ [] → ended_lines text ≡ before (λ b. b == 10) text ∷ []
last_line [] some none = absurd (omega arith)
last_line (b ∷ []) some none =
    elim (b == 10) as (λ t. (if t then b ∷ [] else []) ≡ [] → (if t then [] ∷ [] else (b ∷ []) ∷ []) ≡ (if t then [] else b ∷ []) ∷ []) [
      | true ↦ λ e. (cc)
      | false ↦ λ e. refl
    ] none
last_line (b ∷ c ∷ bs) some none =
    elim (b == 10) as (λ t. (if t then b ∷ c ∷ bs else onward (λ x. x == 10) (c ∷ bs)) ≡ [] →
    (if t then [] ∷ ended_lines (c ∷ bs) else before_lines b (ended_lines (c ∷ bs)))
    ≡ (if t then [] else b ∷ before (λ x. x == 10) (c ∷ bs)) ∷ []) [
      | true ↦ λ e. (cc)
      | false ↦ λ e. ap (λ l. before_lines b l) (last_line (c ∷ bs) (omega arith) e)
    ] none

-- a line that a line feed ends
first_line : (text after : List ℕ) (b : ℕ) → onward (λ x. x == 10) text ≡ b ∷ after → ended_lines text ≡ before (λ x. x == 10) text ∷ ended_lines after
first_line [] after b is = cc
first_line (x ∷ xs) after b is =
    elim (x == 10) as (λ t. (if t then x ∷ xs else onward (λ y. y == 10) xs) ≡ b ∷ after →
    (if t then [] ∷ ended_lines xs else before_lines x (ended_lines xs))
    ≡ (if t then [] else x ∷ before (λ y. y == 10) xs) ∷ ended_lines after) [
      | true ↦ λ e. let same : xs ≡ after = cc in ap (λ l. [] ∷ ended_lines l) same
      | false ↦ λ e. ap (λ l. before_lines x l) (first_line xs after b e)
    ] is

-- the fields of a text in which a field is open
field_then_rest : (text begun : List ℕ) → fields_from text begun ≡ with_field (begun ++ before is_separator text) (fields_of (onward is_separator text))
field_then_rest [] begun = ap (λ x. with_field x []) (sym (append-nil begun))
field_then_rest (b ∷ bs) begun =
    elim (cases_Bool (is_separator b)) [
      | inl h ↦ simp (h, append-nil begun)
      | inr h ↦ simp (h, field_then_rest bs (begun ++ b ∷ []), append_assoc)
    ]

-- a text that begins with a field
pub first_field : (text : List ℕ) → 0 < length text → is_separator (slice_index text 0) ≡ false →
    fields_of text ≡ before is_separator text ∷ fields_of (onward is_separator text)
first_field [] some first = absurd (omega arith)
first_field (b ∷ bs) some first = field_then_rest (b ∷ bs) [] ∙ simp first

-- a text that doesn't begin with a separator has a first field with a byte
pub field_has_byte : (text : List ℕ) → 0 < length text → is_separator (slice_index text 0) ≡ false → 0 < length (before is_separator text)
field_has_byte [] some first = absurd (omega arith)
field_has_byte (b ∷ bs) some first = simp first (omega arith)

-- the last physical line
pub last_physical : (text line rest : List ℕ) → 0 < length text → rest ≡ onward (λ b. b == 10) text → length rest ≡ 0 →
    line ≡ without_return (before (λ b. b == 10) text) → physical_lines text ≡ line ∷ physical_lines rest
last_physical text line [] some is none l = ap (λ ls. map without_return ls) (last_line text some (sym is)) ∙ ap (λ x. x ∷ []) (sym l)
last_physical text line (r ∷ rs) some is none l = absurd (omega arith)

-- a physical line that a line feed ends
pub first_physical : (text line rest after : List ℕ) (b : ℕ) → rest ≡ onward (λ x. x == 10) text → rest ≡ b ∷ after →
    line ≡ without_return (before (λ x. x == 10) text) → physical_lines text ≡ line ∷ physical_lines after
first_physical text line rest after b is more l =
    ap (λ ls. map without_return ls) (first_line text after b (sym is ∙ more))
    ∙ ap (λ x. x ∷ physical_lines after) (sym l)
