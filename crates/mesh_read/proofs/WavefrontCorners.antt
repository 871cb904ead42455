-- The corners of a face, one after another
use Rattle.std.proofs.Common.{◌≡◌, ℕ, zero, suc, ◌+◌, ◌≤◌, List, [], ◌∷◌, ◌++◌, length, drop, map, refl, sym, ap, ◌∙◌}
use Rattle.std.proofs.Common.{append_assoc, arith, Some, Result, Ok, Err}
use Rattle.std.specs.Prelude.{slice_get}
use Rattle.std.proofs.lemmas.List.{append-nil}
use Rattle.mesh_read.specs.declared.scan.part.Part.{Part}
use Rattle.mesh_read.specs.Scan.Parts.{piece_of}
use Rattle.mesh_read.specs.Wavefront.Faults.{Fault}
use Rattle.mesh_read.specs.Wavefront.ReadWavefront.{in_front, with_corner, corner_in, corners_of}

front_twice : (xs ys : List ℕ) (more : Result (List ℕ) Fault) → in_front xs (in_front ys more) ≡ in_front (xs ++ ys) more
front_twice xs ys (Err fault) = refl
front_twice xs ys (Ok more) = ap (λ zs. Ok zs) (sym (append_assoc xs ys more))

-- the words from one on
drop_got : (words : List Part) (i : ℕ) (word : Part) → slice_get words i ≡ Some word → drop i words ≡ word ∷ drop (i + 1) words
drop_got [] i word got = cc
drop_got (w ∷ ws) zero word got = let same : w ≡ word = cc in ap (λ x. x ∷ ws) same
drop_got (w ∷ ws) (suc i) word got =
    let next : suc i + 1 ≡ suc (i + 1) = omega arith in
    drop_got ws i word got ∙ ap (λ n. word ∷ drop n (w ∷ ws)) (sym next)

-- a reference more is read
pub corners_more : (all : Result (List ℕ) Fault) (line v : ℕ) (items new : List ℕ) (corner i : ℕ)
    (references : List Part) (reference : Part) → slice_get references i ≡ Some reference →
    all ≡ in_front items (corners_of line v (map piece_of (drop i references))) →
    corner_in line v (piece_of reference) ≡ Ok corner → new ≡ items ++ corner ∷ [] →
    all ≡ in_front new (corners_of line v (map piece_of (drop (i + 1) references)))
corners_more all line v items new corner i references reference got so_far read n =
    let more : Result (List ℕ) Fault = corners_of line v (map piece_of (drop (i + 1) references)) in
    so_far
    ∙ ap (λ ws. in_front items (corners_of line v (map piece_of ws))) (drop_got references i reference got)
    ∙ ap (λ c. in_front items (with_corner c more)) read
    ∙ front_twice items (corner ∷ []) more
    ∙ ap (λ xs. in_front xs more) (sym n)

-- a reference names no vertex
pub corners_fault : (all : Result (List ℕ) Fault) (line v : ℕ) (items : List ℕ) (fault : Fault) (i : ℕ)
    (references : List Part) (reference : Part) → slice_get references i ≡ Some reference →
    all ≡ in_front items (corners_of line v (map piece_of (drop i references))) →
    corner_in line v (piece_of reference) ≡ Err fault → all ≡ Err fault
corners_fault all line v items fault i references reference got so_far read =
    so_far
    ∙ ap (λ ws. in_front items (corners_of line v (map piece_of ws))) (drop_got references i reference got)
    ∙ ap (λ c. in_front items (with_corner c (corners_of line v (map piece_of (drop (i + 1) references))))) read

drop_all : (words : List Part) (i : ℕ) → length words ≤ i → drop i words ≡ []
drop_all [] zero past = refl
drop_all [] (suc i) past = refl
drop_all (w ∷ ws) zero past = absurd (omega arith)
drop_all (w ∷ ws) (suc i) past = drop_all ws i (omega arith)

-- no reference is left
pub corners_end : (all : Result (List ℕ) Fault) (line v : ℕ) (items : List ℕ) (i : ℕ) (references : List Part) →
    length references ≤ i → all ≡ in_front items (corners_of line v (map piece_of (drop i references))) → all ≡ Ok items
corners_end all line v items i references past so_far =
    so_far
    ∙ ap (λ ws. in_front items (corners_of line v (map piece_of ws))) (drop_all references i past)
    ∙ ap (λ xs. Ok xs) (append-nil items)
