-- Two lists that rise, side by side: the first number that the first has more often
use Rattle.std.proofs.Common.{◌≡◌, ℕ, suc, ◌+◌, ◌<◌, ◌≤◌, Bool, true, false, cond, Option, Some, None, List, [], ◌∷◌}
use Rattle.std.proofs.Common.{length, get_or, take, drop, refl, sym, ap, ◌∙◌, arith, eqb, ltb, subst}
use Rattle.std.specs.Option.{MatchOption}
use Rattle.std.specs.List.{AllByRecursion}
use Rattle.std.specs.List.Sorted.{IsPermutation, IsNonDecreasing}
use Rattle.std.proofs.lemmas.List.{drop_all, drop_more, take_more}
use Rattle.std.proofs.lemmas.Bool.{lt-ltb, ltb-true, ltb-false, eqb-true, eqb-false, ne_eqb, eq-eqb, cond-false}
use Rattle.std.proofs.lemmas.List.Elements.{recursion_from_All}
use Rattle.std.proofs.lemmas.List.Sorted.{sum_by-IsPermutation}
use Rattle.ember_algebra.proofs.Sums.{occurrences-count_by, occurrences-append}
use Rattle.ember_balance.specs.Counts.{count, HasNoSurplus, IsFirstSurplus}

count_more : (n : ℕ) (xs : List ℕ) (i : ℕ) → i < length xs → count n (take (i + 1) xs) ≡ count n (take i xs) + cond (eqb n (get_or xs i 0)) 1 0
count_more n xs i l =
    let a = occurrences-append eqb n (take i xs) (get_or xs i 0 ∷ []) in
    ap (count n) (take_more xs i 0 l) ∙ omega (arith, a)

-- one member more that is n is counted
pub count_yes : (n : ℕ) (xs : List ℕ) (i : ℕ) → i < length xs → n ≡ get_or xs i 0 → count n (take (i + 1) xs) ≡ count n (take i xs) + 1
count_yes n xs i l e = count_more n xs i l ∙ rw (eq-eqb n (get_or xs i 0) e) refl

-- one member more that isn't n isn't counted
pub count_no : (n : ℕ) (xs : List ℕ) (i : ℕ) → i < length xs → (n ≡ get_or xs i 0 → ⊥) → count n (take (i + 1) xs) ≡ count n (take i xs)
count_no n xs i l e =
    let m = count_more n xs i l in let f = ne_eqb n (get_or xs i 0) e in let g = cond-false {A = ℕ} (eqb n (get_or xs i 0)) 1 0 f in omega (arith, m, g)

-- a permutation has each number as often as the list
pub count_permutation : (n : ℕ) (xs ys : List ℕ) → IsPermutation xs ys → count n ys ≡ count n xs
count_permutation n xs ys p =
    occurrences-count_by eqb n ys ∙ sum_by-IsPermutation (λ y. cond (eqb n y) 1 0) xs ys p ∙ sym (occurrences-count_by eqb n xs)

-- ---- the walk over the second list, with what is left of the first
abbrev pub walk : List ℕ → List ℕ → Option ℕ
walk [] [] = None
walk [] (x ∷ xs) = Some x
walk (y ∷ ys) [] = None
walk (y ∷ ys) (x ∷ xs) = cond (ltb x y) (Some x) (walk ys (cond (eqb x y) xs (x ∷ xs)))

-- each number is at most the ones after it
abbrev pub Rises : List ℕ → Type 0
Rises [] = Unit {0}
Rises (x ∷ xs) = AllByRecursion (λ y. x ≤ y) xs × Rises xs

-- a list in order, by recursion
pub rises : (xs : List ℕ) → IsNonDecreasing xs → Rises xs
rises [] h = tt
rises (x ∷ xs) h = (
  recursion_from_All (λ y. x ≤ y) xs (λ k d l. h 0 (suc k) d (omega arith) (omega (arith, l))),
  rises xs (λ i j d p l. h (suc i) (suc j) d (omega (arith, p)) (omega (arith, l))),
)

-- a number below all of a list isn't in it
absent : (n m : ℕ) (xs : List ℕ) → n < m → AllByRecursion (λ y. m ≤ y) xs → count n xs ≡ 0
absent n m [] l h = refl
absent n m (x ∷ xs) l h =
    let e : eqb n x ≡ false = ne_eqb n x (λ p. omega (arith, l, h.0, p)) in
    let r = absent n m xs l h.1 in rw e (omega (arith, r))

-- a number below the first of a list that rises isn't in it
pub absent_below : (n x : ℕ) (xs : List ℕ) → n < x → Rises (x ∷ xs) → count n (x ∷ xs) ≡ 0
absent_below n x xs l r = absent n x (x ∷ xs) l (omega arith, r.0)

-- the first number of a list is in it
pub head_is_counted : (x : ℕ) (xs : List ℕ) → 0 < count x (x ∷ xs)
head_is_counted x xs = rw (eq-eqb x x refl) (omega arith)

abbrev Outcome : Option ℕ → List ℕ → List ℕ → Type 0
Outcome o xs ys = MatchOption o (HasNoSurplus xs ys) (λ k. IsFirstSurplus k xs ys)

-- the same number at the front of both lists
both : (x : ℕ) (xs ys : List ℕ) (o : Option ℕ) → Outcome o xs ys → Outcome o (x ∷ xs) (x ∷ ys)
both x xs ys None h = record { none = λ n. omega (arith, h.none n) }
both x xs ys (Some k) h = record { more = omega (arith, h.more); first = λ n l. omega (arith, h.first n l) }

-- a lesser number at the front of the second list
skip : (x y : ℕ) (xs ys : List ℕ) → y < x → Rises (x ∷ xs) → (o : Option ℕ) → Outcome o (x ∷ xs) ys → Outcome o (x ∷ xs) (y ∷ ys)
skip x y xs ys l r None h = record { none = λ n. omega (arith, h.none n) }
skip x y xs ys l r (Some k) h = record { more = more; first = λ n p. omega (arith, h.first n p) }
  where
    apart : k ≡ y → ⊥
    apart e = let z = absent_below k x xs (omega (arith, e, l)) r in omega (arith, z, h.more)

    more : count k (y ∷ ys) < count k (x ∷ xs)
    more = rw (ne_eqb k y apart) (omega (arith, h.more))

walk_has_outcome : (ys xs : List ℕ) → Rises xs → Rises ys → Outcome (walk ys xs) xs ys
walk_has_outcome [] [] p q = record { none = λ n. omega arith }
walk_has_outcome [] (x ∷ xs) p q =
    record { more = head_is_counted x xs; first = λ n l. omega (arith, absent_below n x xs l p) }
walk_has_outcome (y ∷ ys) [] p q = record { none = λ n. omega arith }
walk_has_outcome (y ∷ ys) (x ∷ xs) p q =
    by (walk_has_outcome ys xs p.1 q.1) (walk_has_outcome ys (x ∷ xs) p q.1) (ltb x y) refl (eqb x y) refl
  where
    by : Outcome (walk ys xs) xs ys → Outcome (walk ys (x ∷ xs)) (x ∷ xs) ys → (b : Bool) → ltb x y ≡ b → (e : Bool) →
        eqb x y ≡ e → Outcome (cond b (Some x) (walk ys (cond e xs (x ∷ xs)))) (x ∷ xs) (y ∷ ys)
    by both_on one_on true l e h =
        let l' = ltb-true x y l in
        record { more = rw (absent_below x y ys l' q) (head_is_counted x xs); first = λ n m. omega (arith, absent_below n x xs m p) }
    by both_on one_on false l true h =
        subst (λ (z : ℕ). Outcome (walk ys xs) (x ∷ xs) (z ∷ ys)) (eqb-true x y h) (both x xs ys (walk ys xs) both_on)
    by both_on one_on false l false h =
        skip x y xs ys (let a = ltb-false x y l in let b = eqb-false x y h in omega (arith, a, b)) p (walk ys (x ∷ xs)) one_on

-- what a walk over two sorted lists finds: a number that they have differently often, or that there is none
pub answered : (xs ys : List ℕ) → IsNonDecreasing xs → IsNonDecreasing ys → (o : Option ℕ) → walk ys xs ≡ o → Outcome o xs ys
answered xs ys p q o e =
    subst (λ (r : Option ℕ). Outcome r xs ys) e (walk_has_outcome ys xs (rises xs p) (rises ys q))

-- ---- the steps of the walk, as the code makes them: i numbers of xs and j of ys are done
walk_nothing : (ys : List ℕ) → walk ys [] ≡ None
walk_nothing [] = refl
walk_nothing (y ∷ ys) = refl

module _ (xs ys : List ℕ) (i j : ℕ) where
  -- behind the end of the first list the walk finds nothing
  pub walk_no_first : length xs ≤ i → walk (drop j ys) (drop i xs) ≡ None
  walk_no_first l = rw (drop_all i xs l) (walk_nothing (drop j ys))

  at_fronts : i < length xs → j < length ys → walk (drop j ys) (drop i xs) ≡ walk (get_or ys j 0 ∷ drop (j + 1) ys) (get_or xs i 0 ∷ drop (i + 1) xs)
  at_fronts l m =
      let a = drop_more xs i 0 l in let b = drop_more ys j 0 m in λ k. walk (b k) (a k)

  pub walk_stops : i < length xs → j < length ys → get_or xs i 0 < get_or ys j 0 → walk (drop j ys) (drop i xs) ≡ Some (get_or xs i 0)
  walk_stops l m p = at_fronts l m ∙ rw (lt-ltb _ _ p) refl

  pub walk_no_second : length ys ≤ j → i < length xs → walk (drop j ys) (drop i xs) ≡ Some (get_or xs i 0)
  walk_no_second l m = let a = drop_all j ys l in let b = drop_more xs i 0 m in λ k. walk (a k) (b k)
