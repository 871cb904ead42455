-- A dropped edge is negative at all corners of the part but one.
use Rattle.std.proofs.Common.{◌⊎◌, ⊎_elim, inl, inr, ℕ, List, [], ◌∷◌, ◌++◌, pos, ◌<ℤ◌, ◌≤ℤ◌}
use Rattle.std.specs.List.{AllByRecursion}
use Rattle.ember_algebra.proofs.Numbers.{negative_at_most}
use Rattle.ember_model.specs.declared.plane.Plane.{Plane}
use Rattle.ember_model.specs.declared.point.Spot.{Spot}
use Rattle.ember_model.specs.Planes.{value_at}
use Rattle.ember_poly.specs.Rings.{with_start, closing_side, Side, IsBelow, IsNotAbove, IsInClosedRing, IsSideChain}
use Rattle.ember_poly.specs.Rings.{IsConvexRing, EndsAt, IsBelowAllButOne, IsNotEmpty}
use Rattle.ember_poly.proofs.Planar.{Crossing, under_past, under_first}
use Rattle.ember_poly.proofs.Chains.{each_map, each_both, each-back, each-push, chain_ends}
use Rattle.ember_poly.proofs.InsideBelow.{ring-closed}
use Rattle.ember_poly.proofs.OnePoint.{lone-join}
use Rattle.ember_poly.proofs.RingBelow.{head_or}

-- each later plane at each earlier corner
chain_across : (n g : Plane) (xs ys : List Side) → IsSideChain n g (xs ++ ys) → AllByRecursion (λ t. AllByRecursion (λ s. IsBelow t.plane s.corner) xs) ys
chain_across n g [] ys c = every ys
  where
    every : (ys : List Side) → AllByRecursion (λ t. Unit {0}) ys
    every [] = tt
    every (y ∷ ys) = (tt, every ys)
chain_across n g (x ∷ xs) ys c =
    each_both (λ t. IsBelow t.plane x.corner) (λ t. AllByRecursion (λ s. IsBelow t.plane s.corner) xs)
    (λ t. IsBelow t.plane x.corner × AllByRecursion (λ s. IsBelow t.plane s.corner) xs) ys (λ t a b. (a, b))
    (each-back (λ t. IsBelow t.plane x.corner) xs ys c.2) (chain_across n x.plane xs ys c.3)

-- negative at one of the two new corners is enough
lone_new : (h : Plane) (f : Side) (ks : List Side) (p : Plane) (y z : Spot) (b : ℕ) →
    AllByRecursion (λ s. IsBelow h s.corner) ks → (IsBelow h z ⊎ IsBelow h y) →
    IsBelowAllButOne h (with_start f z ∷ ks ++ closing_side p y b ∷ [])
lone_new h f ks p y z b u (inl a) = inl (a, lone-join h ks (closing_side p y b ∷ []) u (inr tt))
lone_new h f ks p y z b u (inr a) = inr (each-push (λ s. IsBelow h s.corner) ks (closing_side p y b) u a)

module _ (n p : Plane) (f l : Side) (ks : List Side) (y z : Spot) (b : ℕ) where
  -- one of the two corners, for each dropped side

  across : (ds : List Side) → IsConvexRing n (f ∷ (ks ++ l ∷ []) ++ ds) → AllByRecursion (λ t. AllByRecursion (λ s. IsBelow t.plane s.corner) (ks ++ l ∷ [])) ds
  across ds h = by ks h
    where
      by : (ks' : List Side) → IsConvexRing n (f ∷ (ks' ++ l ∷ []) ++ ds) →
          AllByRecursion (λ t. AllByRecursion (λ s. IsBelow t.plane s.corner) (ks' ++ l ∷ [])) ds
      by [] h = chain_across n f.plane (l ∷ []) ds h.1
      by (k ∷ ks') h = chain_across n f.plane (k ∷ (ks' ++ l ∷ [])) ds h.1

ends_drop : (n g : Plane) (xs : List Side) (l : Side) (ys : List Side) (f : Side) → EndsAt n g ((xs ++ l ∷ []) ++ ys) f → EndsAt n l.plane ys f
ends_drop n g [] l ys f e = e.1
ends_drop n g (x ∷ xs) l ys f e = ends_drop n x.plane xs l ys f e.1

chain_drop : (n g : Plane) (xs : List Side) (l : Side) (ys : List Side) → IsSideChain n g ((xs ++ l ∷ []) ++ ys) → IsSideChain n l.plane ys
chain_drop n g [] l ys c = c.3
chain_drop n g (x ∷ xs) l ys c = chain_drop n x.plane xs l ys c.3

-- behind l
rest_chain : (n : Plane) (f l : Side) (ks ds : List Side) → IsConvexRing n (f ∷ (ks ++ l ∷ []) ++ ds) → IsSideChain n l.plane ds
rest_chain n f l [] ds h = h.1.3
rest_chain n f l (k ∷ ks) ds h = chain_drop n f.plane (k ∷ ks) l ds h.1

rest_ends : (n : Plane) (f l : Side) (ks ds : List Side) → IsConvexRing n (f ∷ (ks ++ l ∷ []) ++ ds) → EndsAt n l.plane ds f
rest_ends n f l [] ds h = chain_ends n l.plane ds f [] h.2
rest_ends n f l (k ∷ ks) ds h =
    ends_drop n k.plane ks l ds f (chain_ends n k.plane ((ks ++ l ∷ []) ++ ds) f [] h.2)

module _ (n p : Plane) (f l d : Side) (ks ds : List Side) (y z : Spot) (b : ℕ)
    (h : IsConvexRing n (f ∷ (ks ++ l ∷ []) ++ d ∷ ds)) (exit : Crossing p l.corner d.corner y)
    (entry : Crossing p (head_or l ks).corner f.corner z) where
  all_across : AllByRecursion (λ t. AllByRecursion (λ s. IsBelow t.plane s.corner) (ks ++ l ∷ [])) (d ∷ ds)
  all_across = across n p f l ks y z b (d ∷ ds) h

  at_last : AllByRecursion (λ t. IsBelow t.plane l.corner) (d ∷ ds)
  at_last =
      each_map (λ t. AllByRecursion (λ s. IsBelow t.plane s.corner) (ks ++ l ∷ [])) (λ t. IsBelow t.plane l.corner)
      (d ∷ ds) (λ t a. (each-back (λ s. IsBelow t.plane s.corner) ks (l ∷ []) a).0) all_across

  at_head : AllByRecursion (λ t. IsBelow t.plane (head_or l ks).corner) (d ∷ ds)
  at_head =
      each_map (λ t. AllByRecursion (λ s. IsBelow t.plane s.corner) (ks ++ l ∷ []))
      (λ t. IsBelow t.plane (head_or l ks).corner) (d ∷ ds) (λ t a. first t ks a) all_across
    where
      first : (t : Side) (ks' : List Side) → AllByRecursion (λ s. IsBelow t.plane s.corner) (ks' ++ l ∷ []) → IsBelow t.plane (head_or l ks').corner
      first t [] a = a.0
      first t (k ∷ ks') a = a.0

  closed_at : (c : Spot) → IsInClosedRing n (f ∷ (ks ++ l ∷ []) ++ d ∷ ds) c → AllByRecursion (λ t. IsNotAbove t.plane c) (d ∷ ds)
  closed_at c k = each-back (λ t. IsNotAbove t.plane c) (ks ++ l ∷ []) (d ∷ ds) k.within.1

  corners : AllByRecursion (λ s. IsInClosedRing n (f ∷ (ks ++ l ∷ []) ++ d ∷ ds) s.corner) (f ∷ (ks ++ l ∷ []) ++ d ∷ ds)
  corners = ring-closed n (f ∷ (ks ++ l ∷ []) ++ d ∷ ds) h

  at_entry : pos 0 <ℤ value_at p f.corner → AllByRecursion (λ t. IsBelow t.plane z ⊎ IsBelow t.plane y) (d ∷ ds)
  at_entry q =
      each_both (λ t. IsBelow t.plane (head_or l ks).corner) (λ t. IsNotAbove t.plane f.corner)
      (λ t. IsBelow t.plane z ⊎ IsBelow t.plane y) (d ∷ ds) (λ t u v. inl (under_first entry t.plane q u v.at_most))
      at_head (closed_at f.corner corners.0)

  at_exit : pos 0 <ℤ value_at p d.corner → AllByRecursion (λ t. IsBelow t.plane z ⊎ IsBelow t.plane y) (d ∷ ds)
  at_exit q =
      let here = (each-back (λ s. IsInClosedRing n (f ∷ (ks ++ l ∷ []) ++ d ∷ ds) s.corner) (ks ++ l ∷ []) (d ∷ ds) corners.1).0 in
      each_both (λ t. IsBelow t.plane l.corner) (λ t. IsNotAbove t.plane d.corner)
      (λ t. IsBelow t.plane z ⊎ IsBelow t.plane y) (d ∷ ds) (λ t u v. inr (under_first exit t.plane q u v.at_most))
      at_last (closed_at d.corner here)

-- at least two are dropped
two : (n p : Plane) (f l d e : Side) (ks es : List Side) (y z : Spot) (b : ℕ) →
    IsConvexRing n (f ∷ (ks ++ l ∷ []) ++ d ∷ e ∷ es) → Crossing p l.corner d.corner y →
    Crossing p (head_or l ks).corner f.corner z → AllByRecursion (λ t. IsBelow t.plane z ⊎ IsBelow t.plane y) (d ∷ e ∷ es)
two n p f l d e ks es y z b h exit entry =
    let first = (at_head n p f l d ks (e ∷ es) y z b h exit entry).0 in
    let others = (at_last n p f l d ks (e ∷ es) y z b h exit entry).1 in (
      inl (under_past entry d.plane (weak' first) (rest_ends n f l ks (d ∷ e ∷ es) h).1.0),
      each_both (λ t. IsBelow t.plane l.corner) (λ t. IsBelow t.plane d.corner)
          (λ t. IsBelow t.plane z ⊎ IsBelow t.plane y) (e ∷ es) (λ t u v. inr (under_past exit t.plane (weak' u) v)) others
          (rest_chain n f l ks (d ∷ e ∷ es) h).2,
    )
  where
    weak' : {p : Plane} {v : Spot} → IsBelow p v → value_at p v ≤ℤ pos 0
    weak' u = negative_at_most u.under

-- a dropped edge is negative at one of the two ends of the chord
pub dropped_side_is_above_one_corner : (n p : Plane) (f l d : Side) (ks ds : List Side) (y z : Spot) (b : ℕ) →
    IsConvexRing n (f ∷ (ks ++ l ∷ []) ++ d ∷ ds) → Crossing p l.corner d.corner y →
    Crossing p (head_or l ks).corner f.corner z → ((pos 0 <ℤ value_at p f.corner) ⊎
    ((pos 0 <ℤ value_at p d.corner) ⊎ IsNotEmpty ds)) →
    AllByRecursion (λ t. IsBelow t.plane z ⊎ IsBelow t.plane y) (d ∷ ds)
dropped_side_is_above_one_corner n p f l d ks ds y z b h exit entry q =
    ⊎_elim (λ a. at_entry n p f l d ks ds y z b h exit entry a) (λ r. ⊎_elim (λ a. at_exit n p f l d ks ds y z b h exit entry a) (λ a. some ds a h) r) q
  where
    some : (ds' : List Side) → IsNotEmpty ds' → IsConvexRing n (f ∷ (ks ++ l ∷ []) ++ d ∷ ds') →
        AllByRecursion (λ t. IsBelow t.plane z ⊎ IsBelow t.plane y) (d ∷ ds')
    some [] a h = absurd a
    some (e ∷ es) a h = two n p f l d e ks es y z b h exit entry

-- a dropped edge is negative at all corners of the part but one at most
pub dropped_lone : (n p : Plane) (f l d : Side) (ks ds : List Side) (y z : Spot) (b : ℕ) →
    IsConvexRing n (f ∷ (ks ++ l ∷ []) ++ d ∷ ds) → Crossing p l.corner d.corner y →
    Crossing p (head_or l ks).corner f.corner z → ((pos 0 <ℤ value_at p f.corner) ⊎
    ((pos 0 <ℤ value_at p d.corner) ⊎ IsNotEmpty ds)) →
    AllByRecursion (λ t. IsBelowAllButOne t.plane (with_start f z ∷ (ks ++ l ∷ []) ++ closing_side p y b ∷ [])) (d ∷ ds)
dropped_lone n p f l d ks ds y z b h exit entry q =
    each_both (λ t. AllByRecursion (λ s. IsBelow t.plane s.corner) (ks ++ l ∷ []))
    (λ t. IsBelow t.plane z ⊎ IsBelow t.plane y)
    (λ t. IsBelowAllButOne t.plane (with_start f z ∷ (ks ++ l ∷ []) ++ closing_side p y b ∷ [])) (d ∷ ds)
    (λ t u v. lone_new t.plane f (ks ++ l ∷ []) p y z b u v) (all_across n p f l d ks ds y z b h exit entry)
    (dropped_side_is_above_one_corner n p f l d ks ds y z b h exit entry q)
