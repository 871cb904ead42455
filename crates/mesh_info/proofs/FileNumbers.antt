-- The numbers of triangles' files, one file more at a time.
use Rattle.std.proofs.Common.{◌≡◌, ℕ, suc, ◌+◌, ◌<◌, List, [], ◌∷◌, ◌++◌, map, length, take, get_or, append_assoc, append-nil, sym, ap, ◌∙◌, arith}
use Rattle.std.proofs.lemmas.List.{length-take-le, map-append, take_more}
use Rattle.mesh_read.specs.declared.surface.surface.Facet.{Facet}
use Rattle.mesh_read.specs.declared.surface.surface.Surface.{Surface}
use Rattle.mesh_info.specs.View.Views.{files_from, of_file}

abbrev numbers_of : ℕ → Surface → List ℕ
numbers_of n s = map (of_file n) s.facets.items

-- the number of one triangle more of the same file
same_number_again : (n i : ℕ) (fs : List Facet) → i < length fs → map (of_file n) (take (i + 1) fs) ≡ map (of_file n) (take i fs) ++ n ∷ []
same_number_again n i [] l = absurd (omega (arith, l))
same_number_again n i (f ∷ fs) l =
    ap (map (of_file n)) (take_more (f ∷ fs) i f l) ∙ map-append (of_file n) (take i (f ∷ fs)) (get_or (f ∷ fs) i f ∷ [])

pub one_number_more : (n i : ℕ) (fs : List Facet) (start before after : List ℕ) → i < length fs →
    before ≡ start ++ map (of_file n) (take i fs) → after ≡ before ++ n ∷ [] → after ≡ start ++ map (of_file n) (take (i + 1) fs)
one_number_more n i fs start before after l is e =
    e
    ∙ ap (λ (xs : List ℕ). xs ++ n ∷ []) is
    ∙ append_assoc start (map (of_file n) (take i fs)) (n ∷ [])
    ∙ ap (λ (xs : List ℕ). start ++ xs) (sym (same_number_again n i fs l))

-- those of one surface more
files_behind : (n m : ℕ) (ss : List Surface) (s : Surface) → n + length ss ≡ m →
    files_from n (ss ++ s ∷ []) ≡ files_from n ss ++ numbers_of m s
files_behind n m [] s is =
    let none : n + 0 ≡ m = is in
    let at : n ≡ m = omega (arith, none) in
    append-nil (numbers_of n s) ∙ ap (λ (k : ℕ). numbers_of k s) at
files_behind n m (r ∷ ss) s is =
    let one : n + suc (length ss) ≡ m = is in
    let next : (n + 1) + length ss ≡ m = omega (arith, one) in
    ap (λ (xs : List ℕ). numbers_of n r ++ xs) (files_behind (n + 1) m ss s next)
    ∙ sym (append_assoc (numbers_of n r) (files_from (n + 1) ss) (numbers_of m s))

pub one_file_more : (ss : List Surface) (i : ℕ) (d : Surface) (facets : List Facet) (before after : List ℕ) →
    i < length ss → before ≡ files_from 1 (take i ss) → after ≡ before ++ map (of_file (i + 1)) facets →
    facets ≡ (get_or ss i d).facets.items → after ≡ files_from 1 (take (i + 1) ss)
one_file_more ss i d facets before after l is e from =
    let many = length-take-le i ss (omega (arith, l)) in
    e
    ∙ (λ k. is k ++ map (of_file (i + 1)) (from k))
    ∙ sym (files_behind 1 (i + 1) (take i ss) (get_or ss i d) (omega (arith, many)))
    ∙ ap (files_from 1) (sym (take_more ss i d l))
