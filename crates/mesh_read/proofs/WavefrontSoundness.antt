-- Each corner that is read is a vertex
use Rattle.std.proofs.Common.{◌≡◌, ℕ, Bool, true, false, ◌<◌, ◌≤◌, ◌-◌, List, [], ◌∷◌, ◌++◌, length, length-append}
use Rattle.std.proofs.Common.{refl, sym, subst, arith, inl, inr, Option, None, Some, Result, Ok, Err, All}
use Rattle.std.specs.Prelude.{if◌then◌else◌, nat_lt, nat_le, IfOk, IfSome}
use Rattle.std.proofs.lemmas.Bool.{cases_Bool, ltb-true, leb-true}
use Rattle.std.proofs.lemmas.List.Elements.{All-nil, All-cons, All-append}
use Rattle.ember_dec.specs.Digits.{number_from}
use Rattle.ember_dec.specs.Decimal.{is_minus}
use Rattle.ember_obj.specs.References.{is_slash, is_number, size_digits}
use Rattle.ember_obj.specs.Scan.{before}
use Rattle.mesh_read.specs.Scan.Parts.{Piece}
use Rattle.mesh_read.specs.declared.surface.surface.Facet.{Facet}
use Rattle.mesh_read.specs.Surface.Surfaces.{Point, Content, IsWithin, fan}
use Rattle.mesh_read.proofs.Fans.{fan_within}
use Rattle.mesh_read.proofs.Flaws.{IsSound}
use Rattle.mesh_read.specs.declared.wavefront.reading.Keyword.{Keyword}
use Rattle.mesh_read.specs.declared.wavefront.reading.Keyword.TheVariants.{Vertex, Face, Other}
use Rattle.mesh_read.specs.Wavefront.Faults.{Fault, FewCorners}
use Rattle.mesh_read.specs.Wavefront.Rows.{Row}
use Rattle.mesh_read.specs.Wavefront.ReadWavefront.{point_in, counted, vertex_named, corner_or_fault, with_corner}
use Rattle.mesh_read.specs.Wavefront.ReadWavefront.{corners_of, fan_or_fault, facets_in, keyword_of, with_point}
use Rattle.mesh_read.specs.Wavefront.ReadWavefront.{with_facets, after_keyword, after_words, after_rows, content_in}

-- ---- faces
index_below : (v : ℕ) (back : Bool) (n : ℕ) → 0 < n → n ≤ v → (if back then v - n else n - 1) < v
index_below v true n some few = omega arith
index_below v false n some few = omega arith

counted_below : (v : ℕ) (back : Bool) (n : ℕ) → IfSome (counted v back n) (λ c. c < v)
counted_below v back n =
    elim (cases_Bool (nat_lt 0 n)) [
      | inl p ↦
          elim (cases_Bool (nat_le n v)) [
            | inl q ↦ let e : counted v back n ≡ Some (if back then v - n else n - 1) = rw (p, q) refl in
                subst (λ (r : Option ℕ). IfSome r (λ c. c < v)) (sym e)
                (index_below v back n (ltb-true 0 n p) (leb-true n v q))
            | inr q ↦ let e : counted v back n ≡ None = rw (p, q) refl in subst (λ (r : Option ℕ). IfSome r (λ c. c < v)) (sym e) tt
          ]
      | inr p ↦ let e : counted v back n ≡ None = rw p refl in subst (λ (r : Option ℕ). IfSome r (λ c. c < v)) (sym e) tt
    ]

named_below : (v : ℕ) (reference : Piece) → IfSome (vertex_named v reference) (λ c. c < v)
named_below v reference =
    let number : List ℕ = before is_slash reference.text in
    let vertex : Option ℕ = counted v (is_minus number) (number_from 0 (size_digits number)) in
    elim (is_number (size_digits number)) as (λ t. IfSome (if t then vertex else None) (λ c. c < v)) [
      | true ↦ counted_below v (is_minus number) (number_from 0 (size_digits number))
      | false ↦ tt
    ]

corner_below : (v line : ℕ) (reference : Piece) (corner : Option ℕ) → IfSome corner (λ c. c < v) → IfOk (corner_or_fault line reference corner) (λ c. c < v)
corner_below v line reference None h = tt
corner_below v line reference (Some corner) h = h

with_below : (v : ℕ) (corner : Result ℕ Fault) (more : Result (List ℕ) Fault) → IfOk corner (λ c. c < v) →
    IfOk more (All (λ c. c < v)) → IfOk (with_corner corner more) (All (λ c. c < v))
with_below v (Err fault) more h hs = tt
with_below v (Ok corner) (Err fault) h hs = tt
with_below v (Ok corner) (Ok corners) h hs = All-cons (λ c. c < v) corner corners h hs

corners_below : (line v : ℕ) (references : List Piece) → IfOk (corners_of line v references) (All (λ c. c < v))
corners_below line v [] = All-nil (λ c. c < v)
corners_below line v (reference ∷ references) =
    with_below v (corner_or_fault line reference (vertex_named v reference)) (corners_of line v references)
    (corner_below v line reference (vertex_named v reference) (named_below v reference))
    (corners_below line v references)

face_below : (v line : ℕ) (corners : Result (List ℕ) Fault) → IfOk corners (All (λ c. c < v)) → IfOk (fan_or_fault line corners) (All (IsWithin v))
face_below v line (Err fault) h = tt
face_below v line (Ok corners) h =
    elim (nat_lt (length corners) 3) as (λ few. IfOk (if few then Err (FewCorners line) else Ok (fan line corners)) (All (IsWithin v))) [
      | true ↦ tt
      | false ↦ fan_within v line corners h
    ]

-- ---- rows
-- more vertices don't harm
pub below_more : (v w : ℕ) (facets : List Facet) → v ≤ w → All (IsWithin v) facets → All (IsWithin w) facets
below_more v w facets more h = λ k d l. λ i e m. omega (arith, h k d l i e m, more)

point_sound : (content : Content) (p : Result Point Fault) → IsSound content → IfOk (with_point content p) IsSound
point_sound content (Err fault) h = tt
point_sound content (Ok p) h = below_more (length content.points) (length (content.points ++ p ∷ [])) content.facets
    (omega (arith, length-append content.points (p ∷ []))) h

facets_sound : (content : Content) (facets : Result (List Facet) Fault) → IsSound content →
    IfOk facets (All (IsWithin (length content.points))) → IfOk (with_facets content facets) IsSound
facets_sound content (Err fault) h hs = tt
facets_sound content (Ok facets) h hs = All-append (IsWithin (length content.points)) content.facets facets h hs

keyword_sound : (line : ℕ) (content : Content) (keyword : Keyword) (words : List Piece) → IsSound content →
    IfOk (after_keyword line content keyword words) IsSound
keyword_sound line content Vertex words h = point_sound content (point_in line words) h
keyword_sound line content Face words h =
    facets_sound content (facets_in line (length content.points) words) h
    (face_below (length content.points) line (corners_of line (length content.points) words)
    (corners_below line (length content.points) words))
keyword_sound line content Other words h = h

words_sound : (line : ℕ) (content : Content) (words : List Piece) → IsSound content → IfOk (after_words line content words) IsSound
words_sound line content [] h = h
words_sound line content (word ∷ words) h = keyword_sound line content (keyword_of word.text) words h

rows_sound : (so_far : Result Content Fault) (rows : List Row) → IfOk so_far IsSound → IfOk (after_rows so_far rows) IsSound
rows_sound so_far [] h = h
rows_sound (Err fault) (row ∷ rows) h = tt
rows_sound (Ok content) (row ∷ rows) h = rows_sound (after_words row.line content row.words) rows (words_sound row.line content row.words h)

-- each corner of what is read is a vertex
pub content_sound : (rows : List Row) → IfOk (content_in rows) IsSound
content_sound rows = rows_sound (Ok (record { points = []; facets = [] })) rows (All-nil (IsWithin 0))
