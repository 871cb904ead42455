-- The inside of the part below is the ring's inside with the plane negative: dropped edges follow from the kept ones.
use Rattle.std.proofs.Common.{◌≡◌, sym, subst, ℕ, List, [], ◌∷◌, ◌++◌}
use Rattle.std.proofs.lemmas.List.{append_assoc}
use Rattle.std.specs.List.{AllByRecursion}
use Rattle.ember_model.specs.declared.plane.Plane.{Plane}
use Rattle.ember_model.specs.declared.point.Spot.{Spot}
use Rattle.ember_poly.specs.Rings.{with_start, closing_side, Side, IsBelow, IsNotAbove, IsInsideRing, IsInClosedRing, IsSideChain, IsConvexRing}
use Rattle.ember_poly.proofs.Planar.{most_at}
use Rattle.ember_poly.proofs.Chains.{each_map, each_both, each-back, each-front}
use Rattle.ember_poly.proofs.Rotations.{each-join}
use Rattle.ember_poly.proofs.RingBelow.{Rooted, Outcome, head_or}
use Rattle.ember_poly.proofs.Hull.{ring-rooted, corners_at_most}
use Rattle.ember_poly.proofs.InsideSigns.{corners_under}
use Rattle.ember_poly.proofs.InsidePoints.{corner_closed}

-- a relation of all members of two lists holds in either order
pub each_swap : {X Y : Type 0} (R : X → Y → Type 0) (xs : List X) (ys : List Y) →
    AllByRecursion (λ x. AllByRecursion (λ y. R x y) ys) xs → AllByRecursion (λ y. AllByRecursion (λ x. R x y) xs) ys
each_swap R [] ys h = every (λ y. tt) ys
  where
    every : {Y : Type 0} {Q : Y → Type 0} → ((y : Y) → Q y) → (ys : List Y) → AllByRecursion Q ys
    every f [] = tt
    every f (y ∷ ys) = (f y, every f ys)
each_swap R (x ∷ xs) ys h =
    each_both (λ y. R x y) (λ y. AllByRecursion (λ z. R z y) xs) (λ y. R x y × AllByRecursion (λ z. R z y) xs) ys (λ y a b. (a, b)) h.0 (each_swap R xs ys h.1)

-- the planes behind l are negative at l's corner
chain_after : (n g : Plane) (xs : List Side) (t : Side) (ys : List Side) → IsSideChain n g ((xs ++ t ∷ []) ++ ys) →
    AllByRecursion (λ r. IsBelow r.plane t.corner) ys
chain_after n g [] t ys c = c.2
chain_after n g (x ∷ xs) t ys c = chain_after n x.plane xs t ys c.3

-- each corner is closed
all_closed : (n : Plane) (xs ys : List Side) → IsConvexRing n (xs ++ ys) → AllByRecursion (λ s. IsInClosedRing n (xs ++ ys) s.corner) ys
all_closed n xs [] h = tt
all_closed n xs (y ∷ ys) h =
    let e : xs ++ y ∷ ys ≡ (xs ++ y ∷ []) ++ ys = sym (append_assoc xs (y ∷ []) ys) in (
      corner_closed n xs y ys h,
      subst (λ zs. AllByRecursion (λ s. IsInClosedRing n zs s.corner) ys) (sym e)
          (all_closed n (xs ++ y ∷ []) ys (subst (λ zs. IsConvexRing n zs) e h)),
    )

-- the corners of a convex ring are in the closed ring
pub ring-closed : (n : Plane) (xs : List Side) → IsConvexRing n xs → AllByRecursion (λ s. IsInClosedRing n xs s.corner) xs
ring-closed n xs h = all_closed n [] xs h

-- ---- the part's points
pub record Part (n p : Plane) (old new : List Side) : Type 0 where
  pub into : (x : Spot) → IsInsideRing n old x → IsBelow p x → IsInsideRing n new x
  pub out : (x : Spot) → IsInsideRing n new x → IsInsideRing n old x × IsBelow p x
  pub into_closed : (x : Spot) → IsInClosedRing n old x → IsNotAbove p x → IsInClosedRing n new x
  pub out_closed : (x : Spot) → IsInClosedRing n new x → IsInClosedRing n old x × IsNotAbove p x

module _ (n p : Plane) (f l : Side) (ks ds : List Side) (y z : Spot) (b : ℕ) (at : Spot) where
  abbrev old : List Side
  old = f ∷ (ks ++ l ∷ []) ++ ds

  abbrev new : List Side
  new = with_start f z ∷ (ks ++ l ∷ []) ++ closing_side p y b ∷ []

  -- the dropped planes at a closed point
  dropped : (v : Spot) → IsInClosedRing n old v → AllByRecursion (λ d. IsNotAbove d.plane v) ds
  dropped v c = each-back (λ d. IsNotAbove d.plane v) (ks ++ l ∷ []) ds c.within.1

  head-closed-of : AllByRecursion (λ s. IsInClosedRing n old s.corner) (ks ++ l ∷ []) → IsInClosedRing n old (head_or l ks).corner
  head-closed-of h = by ks h
    where
      by : (ks' : List Side) → AllByRecursion (λ s. IsInClosedRing n old s.corner) (ks' ++ l ∷ []) → IsInClosedRing n old (head_or l ks').corner
      by [] h = h.0
      by (k ∷ ks') h = h.0

  dropped_at : IsConvexRing n old → IsInClosedRing n old at →
      Outcome n p new l.corner at y (head_or l ks).corner f.corner z →
      AllByRecursion (λ d. AllByRecursion (λ s. IsNotAbove d.plane s.corner) new) ds
  dropped_at h c o =
      let all = ring-closed n old h in let kept = each-front (λ s. IsInClosedRing n old s.corner) (ks ++ l ∷ []) ds all.1 in
      let last = (each-back (λ s. IsInClosedRing n old s.corner) ks (l ∷ []) kept).0 in let first = head-closed-of kept in
      let at_z = each_both (λ d. IsNotAbove d.plane (head_or l ks).corner) (λ d. IsNotAbove d.plane f.corner)
      (λ d. IsNotAbove d.plane z) ds (λ d u v. most_at o.entry d.plane u v) (dropped (head_or l ks).corner first)
      (dropped f.corner all.0) in
      let at_y = each_both (λ d. IsNotAbove d.plane l.corner) (λ d. IsNotAbove d.plane at) (λ d. IsNotAbove d.plane y)
      ds (λ d u v. most_at o.exit d.plane u v) (dropped l.corner last) (dropped at c) in
      let at_kept = each_map (λ s. IsInClosedRing n old s.corner)
      (λ s. AllByRecursion (λ d. IsNotAbove d.plane s.corner) ds) (ks ++ l ∷ []) (λ s k. dropped s.corner k) kept in
      each_swap (λ s d. IsNotAbove d.plane s.corner) new ds (
        at_z,
        each-join (λ s. AllByRecursion (λ d. IsNotAbove d.plane s.corner) ds) (ks ++ l ∷ []) (closing_side p y b ∷ [])
            at_kept (at_y, tt),
      )

  -- each is negative at the last kept corner
  strict : IsConvexRing n old → AllByRecursion (λ d. IsBelow d.plane l.corner) ds
  strict h = by ks h
    where
      by : (ks' : List Side) → IsConvexRing n (f ∷ (ks' ++ l ∷ []) ++ ds) → AllByRecursion (λ d. IsBelow d.plane l.corner) ds
      by [] h = after ds h
        where
          after : (ds' : List Side) → IsConvexRing n (f ∷ l ∷ ds') → AllByRecursion (λ d. IsBelow d.plane l.corner) ds'
          after ds' h = h.1.2
      by (k ∷ ks') h = chain_after n f.plane (k ∷ ks') l ds h.1

  -- what a cut leaves of a ring is its part below the plane
  pub part_of : IsConvexRing n old → IsInClosedRing n old at → Outcome n p new l.corner at y (head_or l ks).corner f.corner z → Part n p old new
  part_of h c o =
      let low = dropped_at h c o in let sharp = strict h in
      let root = (each-back (λ s. Rooted n s) ks (l ∷ []) (each-front (λ s. Rooted n s) (ks ++ l ∷ []) ds (ring-rooted n old h).1)).0 in
      record {
        into = λ x i u. record {
          flat = i.flat;
          weight = i.weight;
          within = (
            i.within.0,
            each-join (λ s. IsBelow s.plane x) (ks ++ l ∷ []) (closing_side p y b ∷ [])
                (each-front (λ s. IsBelow s.plane x) (ks ++ l ∷ []) ds i.within.1) (u, tt),
          );
        };
        out = λ x i. (
          record {
            flat = i.flat;
            weight = i.weight;
            within = (
              i.within.0,
              each-join (λ s. IsBelow s.plane x) (ks ++ l ∷ []) ds
                  (each-front (λ s. IsBelow s.plane x) (ks ++ l ∷ []) (closing_side p y b ∷ []) i.within.1)
                  (each_both (λ d. AllByRecursion (λ s. IsNotAbove d.plane s.corner) new) (λ d. IsBelow d.plane l.corner)
                  (λ d. IsBelow d.plane x) ds (λ d a e. corners_under n d.plane x l.corner new o.sound a root.flat e i) low
                  sharp),
            );
          },
          (each-back (λ s. IsBelow s.plane x) (ks ++ l ∷ []) (closing_side p y b ∷ []) i.within.1).0,
        );
        into_closed = λ x i u. record {
          flat = i.flat;
          weight = i.weight;
          within = (
            i.within.0,
            each-join (λ s. IsNotAbove s.plane x) (ks ++ l ∷ []) (closing_side p y b ∷ [])
                (each-front (λ s. IsNotAbove s.plane x) (ks ++ l ∷ []) ds i.within.1) (u, tt),
          );
        };
        out_closed = λ x i. (
          record {
            flat = i.flat;
            weight = i.weight;
            within = (
              i.within.0,
              each-join (λ s. IsNotAbove s.plane x) (ks ++ l ∷ []) ds
                  (each-front (λ s. IsNotAbove s.plane x) (ks ++ l ∷ []) (closing_side p y b ∷ []) i.within.1)
                  (each_map (λ d. AllByRecursion (λ s. IsNotAbove d.plane s.corner) new) (λ d. IsNotAbove d.plane x) ds
                  (λ d a. corners_at_most n d.plane x new o.sound a i) low),
            );
          },
          (each-back (λ s. IsNotAbove s.plane x) (ks ++ l ∷ []) (closing_side p y b ∷ []) i.within.1).0,
        );
      }
