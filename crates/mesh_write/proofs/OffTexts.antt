-- An OFF text, read again
use Rattle.std.proofs.Common.{◌≡◌, ℕ, zero, suc, ◌+◌, ◌<◌, ◌^◌, true, leb, List, [], ◌∷◌, ◌++◌, length, take, drop}
use Rattle.std.proofs.Common.{length-append, Option, Some, Result, Ok, Err, refl, ap, ap₂, ◌∙◌, arith, decimal}
use Rattle.std.specs.Prelude.{All, flat_map, if◌then◌else◌}
use Rattle.std.proofs.lemmas.Bool.Decides.{nat_tests}
use Rattle.std.proofs.lemmas.List.{take_all}
use Rattle.std.proofs.lemmas.List.Elements.{All-nil}
use Rattle.mesh_write.specs.Text.Lines.{point_line, listed_face}
use Rattle.mesh_write.specs.Text.Texts.{off_header, off_text}
use Rattle.mesh_number.specs.Number.Naturals.{number_of}
use Rattle.mesh_read.specs.declared.off.fault.OffFault.{OffFault}
use Rattle.mesh_read.specs.declared.off.fault.OffFault.TheVariants.{NoOff, MoreCoordinates, FewLines}
use Rattle.mesh_read.specs.Off.ReadOff.{Counts, points_of, facets_of, two_counts, counts_of, whole, counted, behind_keyword}
use Rattle.mesh_read.specs.Off.Keywords.{is_keyword, is_homogeneous, is_count}
use Rattle.mesh_read.specs.Off.ReadOff.{with_first, content_in, of_flaw, read_off_of}
use Rattle.mesh_read.specs.Off.Rows.{Words, rows_from, rows_of}
use Rattle.mesh_read.specs.Scan.Parts.{Piece, lines_from}
use Rattle.mesh_read.specs.declared.surface.surface.Facet.{Facet}
use Rattle.mesh_read.specs.Surface.Flaws.{as_mesh}
use Rattle.mesh_read.specs.Surface.Surfaces.{Point, Content}
use Rattle.mesh_write.specs.declared.vertices.point.DecimalPoint.{DecimalPoint}
use Rattle.mesh_write.specs.declared.vertices.point.IndexedTriangle.{IndexedTriangle}
use Rattle.mesh_write.specs.Reading.Readings.{IsPointBelow, AreReadable, IsReadAs}
use Rattle.mesh_write.proofs.Digits.{number_of_decimal}
use Rattle.mesh_write.proofs.Contents.{content_from, content_is_read, mesh_ok}
use Rattle.mesh_write.proofs.Lines.{IsWord, literal_word, two_words, spaced, texts, joined_words}
use Rattle.mesh_write.proofs.WordTexts.{number_word}
use Rattle.mesh_write.proofs.OffRows.{row_at, row_of_words}
use Rattle.mesh_write.proofs.OffPoints.{vertices}
use Rattle.mesh_write.proofs.OffFacets.{faces}

-- ---- the header
abbrev off_word : List ℕ
off_word = 79 ∷ 70 ∷ 70 ∷ []

off_is_word : IsWord off_word
off_is_word = literal_word off_word refl (omega arith)

zero_is_word : IsWord (48 ∷ [])
zero_is_word = literal_word (48 ∷ []) refl (omega arith)

-- the words behind the number of vertices
abbrev others : ℕ → List (List ℕ)
others f = decimal f ∷ (48 ∷ []) ∷ []

others_words : (f : ℕ) → f < 2 ^ 64 → All IsWord (others f)
others_words f small = two_words (decimal f) (48 ∷ []) (number_word f small) zero_is_word

abbrev keyword_row : Words
keyword_row = row_at 1 0 off_word []

abbrev counts_row : ℕ → ℕ → Words
counts_row v f = row_at 2 4 (decimal v) (others f)

-- what is read if the first word is this one, and stands alone
abbrev by_first : ℕ → List ℕ → Piece → Words → List Words → Result Content OffFault
by_first line text w row rows =
    if is_keyword text then behind_keyword [] (row ∷ rows)
    else (if is_homogeneous text then Err (MoreCoordinates line)
    else (if is_count text then counted (counts_of (w ∷ [])) (row ∷ rows) else Err NoOff))

keyword_found : (line : ℕ) (words : List Piece) (row : Words) (rows : List Words) → texts words ≡ off_word ∷ [] →
    with_first line words (row ∷ rows) ≡ counted (counts_of row.words) rows
keyword_found line [] row rows e = absurd (cc)
keyword_found line (w ∷ []) row rows e =
    let is : w.text ≡ off_word = cc in
    ap (λ (l : List ℕ). by_first line l w row rows) is
keyword_found line (w ∷ x ∷ more) row rows e = absurd (cc)

counts_found : (words : List Piece) (v f : ℕ) → v < 2 ^ 64 → f < 2 ^ 64 → texts words ≡ decimal v ∷ others f →
    counts_of words ≡ Some (record { vertices = v; faces = f })
counts_found [] v f few small e = absurd (cc)
counts_found (w ∷ []) v f few small e = absurd (cc)
counts_found (w ∷ x ∷ more) v f few small e =
    let first : w.text ≡ decimal v = cc in
    let second : x.text ≡ decimal f = cc in
    ap₂ two_counts (ap number_of first ∙ number_of_decimal v few) (ap number_of second ∙ number_of_decimal f small)

header_rows : (v f : ℕ) (body : List ℕ) → v < 2 ^ 64 → f < 2 ^ 64
    → (next : ℕ) × (rows_of (off_header v f ++ body) ≡ keyword_row ∷ counts_row v f ∷ rows_from 3 (lines_from next body))
unfolding off_header
header_rows v f body few small = (
  _,
  row_of_words 1 0 off_word [] ((decimal v ++ spaced (others f) (10 ∷ [])) ++ body) off_is_word (All-nil IsWord)
      ∙ ap (λ (l : List Words). keyword_row ∷ l) (row_of_words 2 4 (decimal v) (others f) body (number_word v few) (others_words f small)),
)

-- ---- the rows behind the counts
take_front : {A : Type 0} (n : ℕ) (xs ys : List A) → length xs ≡ n → take n (xs ++ ys) ≡ xs
take_front zero [] ys e = refl
take_front zero (x ∷ xs) ys e = absurd (omega (arith, e))
take_front (suc n) [] ys e = absurd (omega (arith, e))
take_front (suc n) (x ∷ xs) ys e = ap (λ l. x ∷ l) (take_front n xs ys (omega (arith, e)))

drop_front : {A : Type 0} (n : ℕ) (xs ys : List A) → length xs ≡ n → drop n (xs ++ ys) ≡ ys
drop_front zero [] ys e = refl
drop_front zero (x ∷ xs) ys e = absurd (omega (arith, e))
drop_front (suc n) [] ys e = absurd (omega (arith, e))
drop_front (suc n) (x ∷ xs) ys e = drop_front n xs ys (omega (arith, e))

enough : (v f : ℕ) (vs fs : List Words) → length vs ≡ v → length fs ≡ f → leb (v + f) (length (vs ++ fs)) ≡ true
enough v f vs fs a b = let both = length-append vs fs in grind (arith, nat_tests)

counted_rows : (v f : ℕ) (vs fs : List Words) (points : List Point) (facets : List Facet) → length vs ≡ v →
    length fs ≡ f → points_of vs ≡ Ok points → facets_of v fs ≡ Ok facets
    → counted (Some (record { vertices = v; faces = f })) (vs ++ fs) ≡ Ok (record { points = points; facets = facets })
counted_rows v f vs fs points facets a b p q =
    let front = take_front v vs fs a in
    let back : take f (drop v (vs ++ fs)) ≡ fs = ap (take f) (drop_front v vs fs a) ∙ take_all f fs (omega (arith, b)) in
    ap (λ b. if b then whole (points_of (take v (vs ++ fs))) (facets_of v (take f (drop v (vs ++ fs)))) else Err FewLines) (enough v f vs fs a b)
    ∙ ap₂ whole (ap points_of front ∙ p) (ap (facets_of v) back ∙ q)

-- ---- the mesh
off_content : (places : ℕ) (ps : List DecimalPoint) (ts : List IndexedTriangle) → AreReadable places ps ts →
    content_in (rows_of (off_text places ps ts)) ≡ Ok (content_from (3 + length ps) places ps ts)
off_content places ps ts h =
    let v = length ps in
    let f = length ts in
    let body = flat_map (point_line places) ps ++ flat_map listed_face ts in
    let header = header_rows v f body h.few_points h.few_triangles in
    let front = vertices places 3 header.0 ps (flat_map listed_face ts) h.below in
    let back = faces v (3 + v) front.next ts (omega (arith, h.few_points)) h.within in
    let rows = front.is ∙ ap (λ (l : List Words). front.rows ++ l) back.is in
    ap content_in (header.1 ∙ ap (λ (l : List Words). keyword_row ∷ counts_row v f ∷ l) rows)
    ∙ keyword_found keyword_row.line keyword_row.words (counts_row v f) (front.rows ++ back.rows) (joined_words 0 off_word [] off_is_word (All-nil IsWord))
    ∙ ap (λ (c : Option Counts). counted c (front.rows ++ back.rows))
    (counts_found (counts_row v f).words v f h.few_points h.few_triangles
    (joined_words 4 (decimal v) (others f) (number_word v h.few_points) (others_words f h.few_triangles)))
    ∙ counted_rows v f front.rows back.rows _ _ front.count back.count front.points back.facets

pub off_is_read : (places : ℕ) (ps : List DecimalPoint) (ts : List IndexedTriangle) → AreReadable places ps ts
    → (content : Content) × (read_off_of (off_text places ps ts) ≡ Ok content) × IsReadAs places ps ts content
off_is_read places ps ts h = (
  content_from (3 + length ps) places ps ts,
  ap (as_mesh of_flaw) (off_content places ps ts h)
      ∙ mesh_ok of_flaw (3 + length ps) places ps ts h.triangles h.below,
  content_is_read (3 + length ps) places ps ts h.below,
)
