-- The least number of a list, and the list begun with it.
use Rattle.std.proofs.Common.{◌≡◌, sym, subst, ℕ, ◌<◌, ◌≤◌, ◌+◌, length, take, drop, List, [], ◌∷◌, ◌++◌, arith}
use lib.ListN.{get_or}
use Rattle.std.proofs.lemmas.List.{take_more, drop_more, take_all, take-append-drop, get_or_default}
use Rattle.std.specs.List.{AllByRecursion}
use Rattle.ember_poly.specs.Boundaries.{LeastFirst}
use Rattle.ember_poly.proofs.Chains.{each_map, each-push}
use Rattle.ember_poly.proofs.Rotations.{each-turned}

-- the number at k is the least of the first m
pub record LeastOf (ns : List ℕ) (m k : ℕ) : Type 0 where
  pub within : k < length ns
  pub least : (d : ℕ) → AllByRecursion (λ b. get_or ns k d ≤ b) (take m ns)

-- a number that isn't less than the least so far leaves it the least
pub least_keep : (ns : List ℕ) (i k d : ℕ) → i < length ns → LeastOf ns i k → get_or ns k d ≤ get_or ns i d → LeastOf ns (i + 1) k
least_keep ns i k d l h b =
    record {
      within = h.within;
      least = λ e. subst (λ ys. AllByRecursion (λ c. get_or ns k e ≤ c) ys)
          (sym (take_more ns i e l)) (each-push (λ c. get_or ns k e ≤ c) (take i ns) (get_or ns i e) (h.least e) (at e));
    }
  where
    at : (e : ℕ) → get_or ns k e ≤ get_or ns i e
    at e =
        subst (λ n. n ≤ get_or ns i e) (get_or_default ns k d e h.within) (subst (λ n. get_or ns k d ≤ n) (get_or_default ns i d e l) b)

-- a number that is less than the least so far is the least
pub least_new : (ns : List ℕ) (i k d : ℕ) → i < length ns → LeastOf ns i k → get_or ns i d < get_or ns k d → LeastOf ns (i + 1) i
least_new ns i k d l h b =
    least_keep ns i i d l (record {
      within = l;
      least =
          λ e. each_map (λ c. get_or ns k e ≤ c) (λ c. get_or ns i e ≤ c) (take i ns) (λ c q. less (at e) q) (h.least e);
    })
    (same (get_or ns i d))
  where
    at : (e : ℕ) → get_or ns i e < get_or ns k e
    at e =
        subst (λ n. get_or ns i e < n) (get_or_default ns k d e h.within) (subst (λ n. n < get_or ns k d) (get_or_default ns i d e l) b)

    less : {a b c : ℕ} → a < b → b ≤ c → a ≤ c
    less p q = omega (arith, p, q)

    same : (a : ℕ) → a ≤ a
    same a = omega arith

-- a list begun at its least number begins with the least
pub least_first : (ns : List ℕ) (m k : ℕ) → length ns ≤ m → LeastOf ns m k → LeastFirst (drop k ns ++ take k ns)
least_first [] m k l h = absurd (omega (arith, h.within))
least_first (n ∷ ns) m k l h = subst (λ ys. LeastFirst (ys ++ take k all)) (sym e) others.1
  where
    all : List ℕ
    all = n ∷ ns

    c : ℕ
    c = get_or all k n

    e : drop k all ≡ c ∷ drop (k + 1) all
    e = drop_more all k n h.within

    every : AllByRecursion (λ b. c ≤ b) all
    every = subst (λ ys. AllByRecursion (λ b. c ≤ b) ys) (take_all m all l) (h.least n)

    others : AllByRecursion (λ b. c ≤ b) (c ∷ drop (k + 1) all ++ take k all)
    others =
        subst (λ ys. AllByRecursion (λ b. c ≤ b) (ys ++ take k all)) e
        (each-turned (λ b. c ≤ b) (take k all) (drop k all)
        (subst (λ ys. AllByRecursion (λ b. c ≤ b) ys) (sym (take-append-drop k all)) every))
