-- What the sorted numbers of edges and of their reverses say of the triangles
use Rattle.std.proofs.Common.{◌≡◌, ◌⊎◌, inl, inr, ℕ, ◌*◌, ◌^◌, ◌<◌, ◌≤◌, List, map, length, true, refl, sym, ap, subst, ◌∙◌, arith}
use Rattle.std.specs.List.{All}
use Rattle.std.proofs.lemmas.Bool.{cases_lt}
use Rattle.std.proofs.lemmas.List.{length-map}
use Rattle.std.proofs.lemmas.List.Sorted.{length_permutation}
use Rattle.ember_model.specs.declared.tri.Tri.{Tri}
use Rattle.ember_model.specs.Limits.{broad_limit}
use Rattle.ember_model.specs.Meshes.{Edge, reversed, edges_in, edge_count, IsBalanced}
use Rattle.ember_model.specs.Within.{IsTriWithin}
use Rattle.ember_balance.specs.declared.loose.Loose.{Loose}
use Rattle.ember_balance.specs.Counts.{count, HasNoSurplus, IsFirstSurplus}
use Rattle.ember_balance.specs.Loose.{comes_before, with_counts, edge_of, IsLeastLoose}
use Rattle.ember_balance.specs.Numbers.{edge_number, IsBroadEdge, AreNumbers}
use Rattle.ember_balance.proofs.EdgeNumbers.{edges_rise, edge_small, same_edges}
use Rattle.ember_balance.proofs.SortedSurplus.{count_permutation}
use Rattle.ember_balance.proofs.Edges.{times_is_count, times_reversed, broad_edges, broad_reversed, length-edges_in}
use Rattle.ember_balance.proofs.Edges.{member_from_times, broad_member, Numbered, member_from_count}

-- there are three numbers of edges for each triangle
pub few_there : (ts : List Tri) (there back : List ℕ) → AreNumbers ts there back → length there ≡ 3 * length ts
few_there ts there back s =
    length_permutation _ _ s.there ∙ length-map (edges_in ts) edge_number ∙ length-edges_in ts

-- there are three numbers of reversed edges for each triangle
pub few_back : (ts : List Tri) (there back : List ℕ) → AreNumbers ts there back → length back ≡ 3 * length ts
few_back ts there back s =
    length_permutation _ _ s.back ∙ length-map (map reversed (edges_in ts)) edge_number ∙ length-map (edges_in ts) reversed ∙ length-edges_in ts

-- an edge that occurs is on the broad grid
pub by_standing : (ts : List Tri) (within : All (IsTriWithin broad_limit) ts) (e : Edge) →
    (IsBroadEdge e → edge_count e (edges_in ts) ≤ edge_count (reversed e) (edges_in ts)) →
    edge_count e (edges_in ts) ≤ edge_count (reversed e) (edges_in ts)
by_standing ts within e k = by (cases_lt 0 (edge_count e (edges_in ts)))
  where
    by : (0 < edge_count e (edges_in ts)) ⊎ (edge_count e (edges_in ts) ≤ 0) → edge_count e (edges_in ts) ≤ edge_count (reversed e) (edges_in ts)
    by (inl l) = k (broad_member e (edges_in ts) (member_from_times e (edges_in ts) l) (broad_edges ts within))
    by (inr z) = omega (arith, z)

module _ (ts : List Tri) (within : All (IsTriWithin broad_limit) ts) (there back : List ℕ) (s : AreNumbers ts there back) where
  count_there : (e : Edge) → IsBroadEdge e → count (edge_number e) there ≡ edge_count e (edges_in ts)
  count_there e v =
      count_permutation _ _ _ s.there ∙ sym (times_is_count edge_number (λ e f v w. same_edges v w) e v (edges_in ts) (broad_edges ts within))

  count_back : (e : Edge) → IsBroadEdge e → count (edge_number e) back ≡ edge_count (reversed e) (edges_in ts)
  count_back e v =
      count_permutation _ _ _ s.back ∙ sym (times_is_count edge_number (λ e f v w. same_edges v w) e v
      (map reversed (edges_in ts)) (broad_reversed (edges_in ts) (broad_edges ts within)))
      ∙ times_reversed e (edges_in ts)

  at_most : HasNoSurplus there back → (e : Edge) → edge_count e (edges_in ts) ≤ edge_count (reversed e) (edges_in ts)
  at_most h e =
      by_standing ts within e (λ v. let a = count_there e v in let b = count_back e v in let c = h.none (edge_number e) in omega (arith, a, b, c))

  -- triangles whose edges have no surplus over their reverses are balanced
  pub balanced_from : HasNoSurplus there back → IsBalanced ts
  balanced_from h e =
      let a = at_most h e in
      let b : edge_count (reversed e) (edges_in ts) ≤ edge_count e (edges_in ts) = at_most h (reversed e) in
      omega (arith, a, b)

  found_from : (k : ℕ) → IsFirstSurplus k there back → Numbered k (edges_in ts)
  found_from k h =
      let e = count_permutation k _ _ s.there in
      member_from_count k (edges_in ts) (omega (arith, e, h.more))

  broad_found : {k : ℕ} (n : Numbered k (edges_in ts)) → IsBroadEdge n.edge
  broad_found n = broad_member n.edge (edges_in ts) n.member (broad_edges ts within)

  least_from_first : (e : Edge) → IsBroadEdge e → IsFirstSurplus (edge_number e) there back → IsLeastLoose ts (with_counts (edges_in ts) e)
  least_from_first e v h =
      record { there = refl; back = refl; more = more; least = least }
    where
      more : edge_count (reversed e) (edges_in ts) < edge_count e (edges_in ts)
      more = let a = count_there e v in let b = count_back e v in omega (arith, a, b, h.more)

      least : (f : Edge) → comes_before f e ≡ true → edge_count f (edges_in ts) ≤ edge_count (reversed f) (edges_in ts)
      least f l =
          by_standing ts within f (λ w. let a = count_there f w in let b = count_back f w in let c =
          h.first (edge_number f) (edges_rise f e w v l) in omega (arith, a, b, c))

  -- the first surplus is the least loose edge
  pub least_loose_from : (l : Loose) (k : ℕ) → IsFirstSurplus k there back →
      ((e : Edge) → IsBroadEdge e → edge_number e ≡ k → edge_of l ≡ e) → l.there ≡ count k there → l.back ≡ count k back →
      IsLeastLoose ts l
  least_loose_from l k h edge a b =
      let n = found_from k h in let v = broad_found n in let q = edge n.edge v n.number in
      let first = subst (λ (m : ℕ). IsFirstSurplus m there back) (sym n.number) h in
      let standing = a ∙ ap (λ (m : ℕ). count m there) (sym n.number) ∙ count_there n.edge v in
      let reverse = b ∙ ap (λ (m : ℕ). count m back) (sym n.number) ∙ count_back n.edge v in
      let same : with_counts (edges_in ts) n.edge ≡ l =
      λ i. record { from = (sym q i).from; to = (sym q i).to; there = sym standing i; back = sym reverse i } in
      subst (λ (m : Loose). IsLeastLoose ts m) same (least_from_first n.edge v first)

  pub found_small : (k : ℕ) → IsFirstSurplus k there back → k < 2 ^ 120
  found_small k h =
      let n = found_from k h in let l = edge_small (broad_found n) in omega (arith, l, n.number)

-- equal lists have no surplus alike
pub none_at : {ns rs xs ys : List ℕ} → xs ≡ ns → ys ≡ rs → HasNoSurplus xs ys → HasNoSurplus ns rs
none_at {ns} {rs} {xs} {ys} p q h =
    subst (λ (us : List ℕ). HasNoSurplus us rs) p (subst (λ (us : List ℕ). HasNoSurplus xs us) q h)

-- the first surplus of equal lists
pub first_at : {ns rs xs ys : List ℕ} (k : ℕ) → xs ≡ ns → ys ≡ rs → IsFirstSurplus k xs ys → IsFirstSurplus k ns rs
first_at {ns} {rs} {xs} {ys} k p q h =
    subst (λ (us : List ℕ). IsFirstSurplus k us rs) p (subst (λ (us : List ℕ). IsFirstSurplus k xs us) q h)
