-- Each corner that is read is a vertex
use Rattle.std.proofs.Common.{◌≡◌, ℕ, zero, suc, Bool, true, false, ◌<◌, ◌≤◌, ◌+◌, List, [], ◌∷◌, length, take, drop}
use Rattle.std.proofs.Common.{refl, sym, ap, subst, arith, inl, inr, Option, None, Some, Result, Ok, Err, All}
use Rattle.std.specs.Prelude.{if◌then◌else◌, nat_lt, nat_le, IfOk, IfSome}
use Rattle.std.proofs.lemmas.Bool.{cases_Bool, ltb-true, leb-true}
use Rattle.std.proofs.lemmas.List.{length-take-le}
use Rattle.std.proofs.lemmas.List.Elements.{All-nil, All-cons, All-append}
use Rattle.mesh_read.specs.Scan.Parts.{Piece}
use Rattle.mesh_read.specs.declared.surface.surface.Facet.{Facet}
use Rattle.mesh_read.specs.Surface.Surfaces.{Point, Content, IsWithin}
use Rattle.mesh_read.proofs.Fans.{fan_within}
use Rattle.mesh_read.proofs.Flaws.{IsSound}
use Rattle.mesh_read.specs.declared.off.fault.OffFault.{OffFault}
use Rattle.mesh_read.specs.declared.off.fault.OffFault.TheVariants.{NoOff, MoreCoordinates, FewLines}
use Rattle.mesh_read.specs.Off.Rows.{Words}
use Rattle.mesh_number.specs.Number.Naturals.{number_of, below}
use Rattle.mesh_read.specs.Off.ReadOff.{joined, point_in, one, points_of, with_corner, indices, corners_of_size, corners_of}
use Rattle.mesh_read.specs.Off.ReadOff.{fan_or_fault, facets_in, facets_of, Counts, counts_of, whole, counted}
use Rattle.mesh_read.specs.Off.Keywords.{is_keyword, is_homogeneous, is_count}
use Rattle.mesh_read.specs.Off.ReadOff.{behind_keyword, with_first, content_in}

-- a number below a limit
pub limited : (v : ℕ) (n : Option ℕ) → IfSome (below v n) (λ c. c < v)
limited v None = tt
limited v (Some n) =
    elim (cases_Bool (nat_lt n v)) [
      | inl h ↦ let e : below v (Some n) ≡ Some n = rw h refl in subst (λ (r : Option ℕ). IfSome r (λ c. c < v)) (sym e) (ltb-true n v h)
      | inr h ↦ let e : below v (Some n) ≡ None = rw h refl in subst (λ (r : Option ℕ). IfSome r (λ c. c < v)) (sym e) tt
    ]

with_sound : (v : ℕ) (corner : Option ℕ) (corners : Option (List ℕ)) → IfSome corner (λ c. c < v) →
    IfSome corners (All (λ c. c < v)) → IfSome (with_corner corner corners) (All (λ c. c < v))
with_sound v None corners h hs = tt
with_sound v (Some c) None h hs = tt
with_sound v (Some c) (Some cs) h hs = All-cons (λ c. c < v) c cs h hs

indices_sound : (v left : ℕ) (words : List Piece) → IfSome (indices v left words) (All (λ c. c < v))
indices_sound v zero words = All-nil (λ c. c < v)
indices_sound v (suc left) [] = tt
indices_sound v (suc left) (word ∷ words) = with_sound v (below v (number_of word.text)) (indices v left words)
    (limited v (number_of word.text)) (indices_sound v left words)

size_sound : (v : ℕ) (size : Option ℕ) (words : List Piece) → IfSome (corners_of_size v size words) (All (λ c. c < v))
size_sound v None words = tt
size_sound v (Some n) words = elim (nat_lt n 3) as
    (λ (t : Bool). IfSome (if t then None else indices v n words) (All (λ c. c < v)))
    [ true ↦ tt | false ↦ indices_sound v n words ]

corners_sound : (v : ℕ) (words : List Piece) → IfSome (corners_of v words) (All (λ c. c < v))
corners_sound v [] = tt
corners_sound v (word ∷ words) = size_sound v (number_of word.text) words

face_sound : (v line : ℕ) (corners : Option (List ℕ)) → IfSome corners (All (λ c. c < v)) → IfOk (fan_or_fault line corners) (All (IsWithin v))
face_sound v line None h = tt
face_sound v line (Some corners) h = fan_within v line corners h

joined_sound : (v : ℕ) (r rest : Result (List Facet) OffFault) → IfOk r (All (IsWithin v)) →
    IfOk rest (All (IsWithin v)) → IfOk (joined r rest) (All (IsWithin v))
joined_sound v (Err fault) rest h hs = tt
joined_sound v (Ok xs) (Err fault) h hs = tt
joined_sound v (Ok xs) (Ok ys) h hs = All-append (IsWithin v) xs ys h hs

facets_sound : (v : ℕ) (rows : List Words) → IfOk (facets_of v rows) (All (IsWithin v))
facets_sound v [] = All-nil (IsWithin v)
facets_sound v (row ∷ rows) = joined_sound v (facets_in v row) (facets_of v rows)
    (face_sound v row.line (corners_of v row.words) (corners_sound v row.words)) (facets_sound v rows)

joined_count : (n : ℕ) (p : Result Point OffFault) (rest : Result (List Point) OffFault) →
    IfOk rest (λ ps. length ps ≡ n) → IfOk (joined (one p) rest) (λ ps. length ps ≡ suc n)
joined_count n (Err fault) rest h = tt
joined_count n (Ok p) (Err fault) h = tt
joined_count n (Ok p) (Ok ps) h = ap suc h

-- each row of a vertex gives one point
points_count : (rows : List Words) → IfOk (points_of rows) (λ ps. length ps ≡ length rows)
points_count [] = refl
points_count (row ∷ rows) = joined_count (length rows) (point_in row) (points_of rows) (points_count rows)

whole_sound : (v : ℕ) (points : Result (List Point) OffFault) (facets : Result (List Facet) OffFault) →
    IfOk points (λ ps. length ps ≡ v) → IfOk facets (All (IsWithin v)) → IfOk (whole points facets) IsSound
whole_sound v (Err fault) facets h hs = tt
whole_sound v (Ok points) (Err fault) h hs = tt
whole_sound v (Ok points) (Ok facets) h hs = subst (λ n. All (IsWithin n) facets) (sym h) hs

counted_sound : (counts : Option Counts) (rows : List Words) → IfOk (counted counts rows) IsSound
counted_sound None rows = tt
counted_sound (Some c) rows =
    elim (cases_Bool (nat_le (c.vertices + c.faces) (length rows))) [
      | inl h ↦
          let points : Result (List Point) OffFault = points_of (take c.vertices rows) in
          let facets : Result (List Facet) OffFault = facets_of c.vertices (take c.faces (drop c.vertices rows)) in
          let enough : c.vertices ≤ length rows = omega (arith, leb-true (c.vertices + c.faces) (length rows) h) in
          let count : IfOk points (λ ps. length ps ≡ c.vertices) =
          subst (λ n. IfOk points (λ ps. length ps ≡ n)) (length-take-le c.vertices rows enough)
          (points_count (take c.vertices rows)) in
          let e : counted (Some c) rows ≡ whole points facets = rw h refl in
          subst (λ (r : Result Content OffFault). IfOk r IsSound) (sym e)
          (whole_sound c.vertices points facets count (facets_sound c.vertices (take c.faces (drop c.vertices rows))))
      | inr h ↦ let e : counted (Some c) rows ≡ Err FewLines = rw h refl in subst (λ (r : Result Content OffFault). IfOk r IsSound) (sym e) tt
    ]

behind_sound : (words : List Piece) (rows : List Words) → IfOk (behind_keyword words rows) IsSound
behind_sound [] [] = tt
behind_sound [] (row ∷ rows) = counted_sound (counts_of row.words) rows
behind_sound (word ∷ words) rows = counted_sound (counts_of (word ∷ words)) rows

choice_sound : (keyword four count : Bool) (fault : OffFault) (behind counted : Result Content OffFault) → IfOk behind IsSound →
    IfOk counted IsSound → IfOk (if keyword then behind else (if four then Err fault else (if count then counted else Err NoOff))) IsSound
choice_sound true four count fault behind counted h hs = h
choice_sound false true count fault behind counted h hs = tt
choice_sound false false true fault behind counted h hs = hs
choice_sound false false false fault behind counted h hs = tt

first_sound : (line : ℕ) (words : List Piece) (rows : List Words) → IfOk (with_first line words rows) IsSound
first_sound line [] rows = tt
first_sound line (word ∷ words) rows =
    choice_sound (is_keyword word.text) (is_homogeneous word.text) (is_count word.text) (MoreCoordinates line)
    (behind_keyword words rows) (counted (counts_of (word ∷ words)) rows) (behind_sound words rows)
    (counted_sound (counts_of (word ∷ words)) rows)

-- each corner of what is read is a vertex
pub content_sound : (rows : List Words) → IfOk (content_in rows) IsSound
content_sound [] = tt
content_sound (row ∷ rows) = first_sound row.line row.words rows
