-- Two-way numbers: where each edge has one direction as often as the other, the triangles are balanced
use Rattle.std.proofs.Common.{◌≡◌, ◌⊎◌, inl, inr, ℕ, ◌+◌, ◌-◌, ◌*◌, ◌/◌, ◌%◌, ◌<◌, ◌≤◌, Bool, true, false, cond, ◌||◌}
use Rattle.std.proofs.Common.{List, [], ◌∷◌, ◌++◌, map, refl, sym, ap, subst, ◌∙◌, arith, eqb}
use Rattle.std.specs.List.{All}
use Rattle.std.specs.List.Sorted.{IsPermutation}
use Rattle.std.proofs.lemmas.Bool.{cases_lt, or_cases, lt-ltb, le-ltb, eqb-true, eqb-false, ne_eqb, eq-eqb}
use Rattle.ember_algebra.proofs.Sums.{occurrences-append}
use Rattle.ember_model.specs.declared.tri.Tri.{Tri}
use Rattle.ember_model.specs.Limits.{broad_limit}
use Rattle.ember_model.specs.Meshes.{Edge, reversed, edges_in, edge_count, IsBalanced}
use Rattle.ember_model.specs.Within.{IsTriWithin}
use Rattle.ember_model.proofs.SignTests.{clash}
use Rattle.ember_balance.specs.declared.two_way.Tally.{Tally}
use Rattle.ember_balance.specs.Counts.{count}
use Rattle.ember_balance.specs.Numbers.{corner_number, edge_number, two_way_number, has_one_end, AreTwoWay, IsBroadEdge}
use Rattle.ember_balance.specs.Tallies.{IsTallied}
use Rattle.ember_balance.proofs.EdgeNumbers.{same_corners, same_edges, ends_from}
use Rattle.ember_balance.proofs.Edges.{times_is_count, broad_edges}
use Rattle.ember_balance.proofs.Sorted.{by_standing}
use Rattle.ember_balance.proofs.SortedSurplus.{count_permutation}

-- ---- one more number
count_push : (n : ℕ) (ks : List ℕ) (k : ℕ) → count n (ks ++ k ∷ []) ≡ count n ks + cond (eqb n k) 1 0
count_push n ks k = let a = occurrences-append eqb n ks (k ∷ []) in omega (arith, a)

one_more : (n k : ℕ) → cond (eqb (2 * n) k) 1 0 + cond (eqb n (k / 2)) (k % 2) 0 ≡ cond (eqb (2 * n + 1) k) 1 0 + cond (eqb n (k / 2)) (1 - k % 2) 0
one_more n k = by (eqb n (k / 2)) (eqb (k % 2) 0) refl refl
  where
    by : (b r : Bool) → eqb n (k / 2) ≡ b → eqb (k % 2) 0 ≡ r →
        cond (eqb (2 * n) k) 1 0 + cond b (k % 2) 0 ≡ cond (eqb (2 * n + 1) k) 1 0 + cond b (1 - k % 2) 0
    by true true p q =
        let a = eqb-true n (k / 2) p in let z = eqb-true (k % 2) 0 q in
        rw (eq-eqb (2 * n) k (omega (arith, a, z)), ne_eqb (2 * n + 1) k (λ e. omega (arith, a, z, e))) (omega (arith, z))
    by true false p q =
        let a = eqb-true n (k / 2) p in let z = eqb-false (k % 2) 0 q in
        rw (ne_eqb (2 * n) k (λ e. omega (arith, a, z, e)), eq-eqb (2 * n + 1) k (omega (arith, a, z))) (omega (arith, z))
    by false r p q =
        let a = eqb-false n (k / 2) p in
        rw (ne_eqb (2 * n) k (λ e. omega (arith, a, e)), ne_eqb (2 * n + 1) k (λ e. omega (arith, a, e))) refl

module _ (ks : List ℕ) (t : Tally) (k : ℕ) (h : IsTallied ks t) where
  -- where the edge is that of the tally
  pub tallied_same : {there back : ℕ} → k / 2 ≡ t.number → there ≡ t.there + (1 - k % 2) → back ≡ t.back + k % 2 →
      IsTallied (ks ++ k ∷ []) (record { number = k / 2; there = there; back = back })
  tallied_same {there} {back} e p q =
      record {
        each = λ n two. by n (eqb n (k / 2))
            (subst (λ (m : ℕ). count (2 * n) ks + cond (eqb n m) t.back 0 ≡ count (2 * n + 1) ks + cond (eqb n m) t.there 0)
            (sym e) (h.each n two)) (one_more n k);
      }
    where
      by : (n : ℕ) (b : Bool) → count (2 * n) ks + cond b t.back 0 ≡ count (2 * n + 1) ks + cond b t.there 0 →
          cond (eqb (2 * n) k) 1 0 + cond b (k % 2) 0 ≡ cond (eqb (2 * n + 1) k) 1 0 + cond b (1 - k % 2) 0 →
          count (2 * n) (ks ++ k ∷ []) + cond b back 0 ≡ count (2 * n + 1) (ks ++ k ∷ []) + cond b there 0
      by n true r s =
          let a = count_push (2 * n) ks k in let d = count_push (2 * n + 1) ks k in omega (arith, a, d, r, s, p, q)
      by n false r s =
          let a = count_push (2 * n) ks k in let d = count_push (2 * n + 1) ks k in omega (arith, a, d, r, s)

  -- an even tally has nothing to keep
  even_counts : eqb t.there t.back || has_one_end t.number ≡ true → (n : ℕ) → has_one_end n ≡ false → count (2 * n) ks ≡ count (2 * n + 1) ks
  even_counts e n two = by (eqb n t.number) refl (h.each n two)
    where
      same : n ≡ t.number → (eqb t.there t.back ≡ true) ⊎ (has_one_end t.number ≡ true) → t.there ≡ t.back
      same q (inl r) = eqb-true t.there t.back r
      same q (inr r) = absurd (clash r (subst (λ (m : ℕ). has_one_end m ≡ false) q two))

      by : (b : Bool) → eqb n t.number ≡ b → count (2 * n) ks + cond b t.back 0 ≡ count (2 * n + 1) ks
          + cond b t.there 0 → count (2 * n) ks ≡ count (2 * n + 1) ks
      by true q r =
          let s = same (eqb-true n t.number q) (or_cases (eqb t.there t.back) (has_one_end t.number) e) in omega (arith, r, s)
      by false q r = omega (arith, r)

  -- where it is another one
  pub tallied_other : {there back : ℕ} → eqb t.there t.back || has_one_end t.number ≡ true → there ≡ 1 - k % 2 →
      back ≡ k % 2 → IsTallied (ks ++ k ∷ []) (record { number = k / 2; there = there; back = back })
  tallied_other {there} {back} e p q =
      record { each = λ n two. by n (eqb n (k / 2)) (even_counts e n two) (one_more n k) }
    where
      by : (n : ℕ) (b : Bool) → count (2 * n) ks ≡ count (2 * n + 1) ks →
          cond (eqb (2 * n) k) 1 0 + cond b (k % 2) 0 ≡ cond (eqb (2 * n + 1) k) 1 0 + cond b (1 - k % 2) 0 →
          count (2 * n) (ks ++ k ∷ []) + cond b back 0 ≡ count (2 * n + 1) (ks ++ k ∷ []) + cond b there 0
      by n true r s =
          let a = count_push (2 * n) ks k in let d = count_push (2 * n + 1) ks k in omega (arith, a, d, r, s, p, q)
      by n false r s =
          let a = count_push (2 * n) ks k in let d = count_push (2 * n + 1) ks k in omega (arith, a, d, r, s)

-- if the last tallied edge is balanced too, all are
pub two_way_from : (ks : List ℕ) (t : Tally) → IsTallied ks t → eqb t.there t.back || has_one_end t.number ≡ true → AreTwoWay ks
two_way_from ks t h e = record { each = even_counts ks t 0 h e }

-- ---- numbers of edges
rising_number : (e : Edge) → corner_number e.from ≤ corner_number e.to → two_way_number e ≡ 2 * edge_number e
rising_number e l = rw (le-ltb (corner_number e.to) (corner_number e.from) l) refl

falling_number : (e : Edge) → corner_number e.to < corner_number e.from → two_way_number e ≡ 2 * edge_number (reversed e) + 1
falling_number e l = rw (lt-ltb (corner_number e.to) (corner_number e.from) l) refl

broad_turned : {e : Edge} → IsBroadEdge e → IsBroadEdge (reversed e)
broad_turned v = record { from = v.to; to = v.from }

one_two_way : (e f : Edge) → IsBroadEdge e → IsBroadEdge f → two_way_number e ≡ two_way_number f → e ≡ f
one_two_way e f v w h =
    by (cases_lt (corner_number e.to) (corner_number e.from)) (cases_lt (corner_number f.to) (corner_number f.from))
  where
    by : (corner_number e.to < corner_number e.from) ⊎ (corner_number e.from ≤ corner_number e.to) →
        (corner_number f.to < corner_number f.from) ⊎ (corner_number f.from ≤ corner_number f.to) → e ≡ f
    by (inl l) (inl m) =
        let a = falling_number e l in let b = falling_number f m in
        ap reversed (same_edges (broad_turned v) (broad_turned w) (omega (arith, a, b, h)))
    by (inl l) (inr m) = let a = falling_number e l in let b = rising_number f m in absurd (omega (arith, a, b, h))
    by (inr l) (inl m) = let a = rising_number e l in let b = falling_number f m in absurd (omega (arith, a, b, h))
    by (inr l) (inr m) =
        let a = rising_number e l in let b = rising_number f m in same_edges v w (omega (arith, a, b, h))

-- ---- the triangles
module _ (ts : List Tri) (within : All (IsTriWithin broad_limit) ts) (ks : List ℕ) (p : IsPermutation (map two_way_number (edges_in ts)) ks) (h : AreTwoWay ks) where
  standing : (e : Edge) → IsBroadEdge e → count (two_way_number e) ks ≡ edge_count e (edges_in ts)
  standing e v =
      count_permutation _ _ _ p ∙ sym (times_is_count two_way_number one_two_way e v (edges_in ts) (broad_edges ts within))

  rising : (e : Edge) → IsBroadEdge e → corner_number e.from < corner_number e.to → edge_count e (edges_in ts) ≡ edge_count (reversed e) (edges_in ts)
  rising e v l =
      let n = ends_from e v (edge_number e) refl in
      let two : has_one_end (edge_number e) ≡ false = ne_eqb _ _ (λ q. omega (arith, n.0, n.1, q, l)) in
      let a = standing e v in let b = standing (reversed e) (broad_turned v) in
      let d = rising_number e (omega (arith, l)) in let f = falling_number (reversed e) l in
      let g = h.each (edge_number e) two in
      sym a ∙ ap (λ (k : ℕ). count k ks) d ∙ g ∙ sym (ap (λ (k : ℕ). count k ks) f) ∙ b

  even : (e : Edge) → IsBroadEdge e → edge_count e (edges_in ts) ≡ edge_count (reversed e) (edges_in ts)
  even e v = by (cases_lt (corner_number e.from) (corner_number e.to)) (cases_lt (corner_number e.to) (corner_number e.from))
    where
      by : (corner_number e.from < corner_number e.to) ⊎ (corner_number e.to ≤ corner_number e.from) →
          (corner_number e.to < corner_number e.from) ⊎ (corner_number e.from ≤ corner_number e.to) →
          edge_count e (edges_in ts) ≡ edge_count (reversed e) (edges_in ts)
      by (inl l) m = rising e v l
      by (inr l) (inl m) = sym (rising (reversed e) (broad_turned v) m)
      by (inr l) (inr m) =
          let q = same_corners v.from v.to (omega (arith, l, m)) in
          λ i. edge_count (record { from = q i; to = sym q i }) (edges_in ts)

  at_most : (e : Edge) → edge_count e (edges_in ts) ≤ edge_count (reversed e) (edges_in ts)
  at_most e = by_standing ts within e (λ v. let q = even e v in omega (arith, q))

  pub balanced_by_two_way : IsBalanced ts
  balanced_by_two_way e =
      let a = at_most e in
      let b : edge_count (reversed e) (edges_in ts) ≤ edge_count e (edges_in ts) = at_most (reversed e) in
      omega (arith, a, b)
