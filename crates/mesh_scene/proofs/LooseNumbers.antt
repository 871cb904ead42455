-- The excess of the edges' numbers over those of their reverses is the number of loose edges
use Rattle.std.proofs.Common.{◌≡◌, ℕ, zero, suc, ◌-◌, cond, List, [], ◌∷◌, map, refl, sym, ◌∙◌, arith, eqb, sum_by}
use Rattle.std.specs.List.{All, AllByRecursion}
use Rattle.std.proofs.lemmas.Bool.{ne_eqb}
use Rattle.std.proofs.lemmas.List.Sums.{sum_by-cons}
use Rattle.ember_model.specs.declared.tri.Tri.{Tri}
use Rattle.ember_model.specs.Limits.{broad_limit}
use Rattle.ember_model.specs.Meshes.{Edge, reversed, edges_in, same_edge, edge_count}
use Rattle.ember_model.specs.Within.{IsTriWithin}
use Rattle.ember_balance.specs.Counts.{count}
use Rattle.ember_balance.specs.Numbers.{edge_number, IsBroadEdge}
use Rattle.ember_balance.proofs.EdgeNumbers.{same_edges}
use Rattle.ember_balance.proofs.Edges.{times_is_count, times_reversed, broad_edges, broad_reversed}
use Rattle.ember_balance.proofs.SortedSurplus.{count_permutation}
use Rattle.mesh_scene.specs.Scene.LooseEdges.{each_once, excess, loose_count, number_excess, AreSorted}
use Rattle.mesh_scene.proofs.Excesses.{excess_permuted}

by_number : (e : Edge) → IsBroadEdge e → (es : List Edge) → AllByRecursion IsBroadEdge es → edge_count e es ≡ count (edge_number e) (map edge_number es)
by_number = times_is_count edge_number (λ e f v w. same_edges v w)

-- a sum over edges on the broad grid, each once, is that over their numbers
once_by_number : (f : Edge → ℕ) (g : ℕ → ℕ) → ((e : Edge) → IsBroadEdge e → f e ≡ g (edge_number e)) →
    (es : List Edge) → AllByRecursion IsBroadEdge es →
    sum_by f (each_once same_edge es) ≡ sum_by g (each_once eqb (map edge_number es))
once_by_number f g h [] a = refl
once_by_number f g h (e ∷ es) a =
    by (edge_count e es) (count (edge_number e) (map edge_number es)) (by_number e a.0 es a.1) (once_by_number f g h es a.1)
  where
    by : (k m : ℕ) → k ≡ m → sum_by f (each_once same_edge es) ≡ sum_by g (each_once eqb (map edge_number es)) →
        sum_by f (cond (eqb k 0) (e ∷ each_once same_edge es) (each_once same_edge es)) ≡ sum_by g
        (cond (eqb m 0) (edge_number e ∷ each_once eqb (map edge_number es)) (each_once eqb (map edge_number es)))
    by zero zero p r =
        let s = sum_by-cons f e (each_once same_edge es) in
        let t = sum_by-cons g (edge_number e) (each_once eqb (map edge_number es)) in
        let q = h e a.0 in omega (arith, s, t, q, r)
    by zero (suc m) p r = absurd (omega (arith, p))
    by (suc k) zero p r = absurd (omega (arith, p))
    by (suc k) (suc m) p r =
        rw (ne_eqb (suc k) 0 (λ q. omega (arith, q)), ne_eqb (suc m) 0 (λ q. omega (arith, q))) r

module _ (ts : List Tri) (within : All (IsTriWithin broad_limit) ts) where
  abbrev es : List Edge
  es = edges_in ts

  abbrev numbers : List ℕ
  numbers = map edge_number es

  abbrev reverses : List ℕ
  reverses = map edge_number (map reversed es)

  same_excess : (e : Edge) → IsBroadEdge e → excess es e ≡ count (edge_number e) numbers - count (edge_number e) reverses
  same_excess e v =
      let a = by_number e v es (broad_edges ts within) in
      let b = sym (times_reversed e es) ∙ by_number e v (map reversed es) (broad_reversed es (broad_edges ts within)) in
      λ i. a i - b i

  -- the excess of sorted numbers is the number of loose edges
  pub excess_is_loose_count : (there back : List ℕ) → AreSorted numbers there → AreSorted reverses back → number_excess there back ≡ loose_count ts
  unfolding loose_count number_excess
  excess_is_loose_count there back s r =
      excess_permuted there numbers back reverses (λ n. count_permutation n numbers there s.permutation)
      (λ n. count_permutation n reverses back r.permutation)
      ∙ sym (once_by_number (excess es) (λ n. count n numbers - count n reverses) same_excess es
      (broad_edges ts within))
