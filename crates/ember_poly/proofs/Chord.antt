-- The two new corners of a cut are closed points of the ring, and their sum is negative for each side.
use Rattle.std.proofs.Common.{◌⊎◌, ⊎_elim, ℕ, List, [], ◌∷◌, ◌++◌, arith, pos, ◌<ℤ◌, ◌≤ℤ◌}
use Rattle.std.specs.List.{AllByRecursion}
use Rattle.ember_model.specs.declared.plane.Plane.{Plane}
use Rattle.ember_model.specs.declared.point.Spot.{Spot}
use Rattle.ember_algebra.proofs.Laws.{linear}
use Rattle.ember_poly.specs.Rings.{with_start, closing_side, Side, IsBelow, IsNotAbove, IsInClosedRing, IsConvexRing}
use Rattle.ember_poly.proofs.Planar.{most_at}
use Rattle.ember_poly.proofs.Chains.{each_both, each-back, each-front, chain_ends, ends_under}
use Rattle.ember_poly.proofs.Rotations.{each-join}
use Rattle.ember_poly.proofs.RingBelow.{Outcome}
use Rattle.ember_poly.specs.Chords.{combination}
use Rattle.ember_poly.proofs.InsidePoints.{scaled_under, scaled_first}
use Rattle.ember_poly.proofs.InsideBelow.{ring-closed}
use Rattle.ember_poly.proofs.RingBelow.{head_or}

-- the kept sides' planes: f at y, the others at z
pub front_y : (n : Plane) (f l p : Side) (ks : List Side) → IsConvexRing n (f ∷ (ks ++ l ∷ []) ++ p ∷ []) → IsBelow f.plane p.corner
front_y n f l p [] s = s.1.1.0
front_y n f l p (k ∷ ks) s = (each-back (λ r. IsBelow f.plane r.corner) (ks ++ l ∷ []) (p ∷ []) s.1.1).0

-- the corner at which a ring's first edge starts is below all other kept edges but the closing one
pub kept_z : (n : Plane) (f l p : Side) (ks : List Side) → IsConvexRing n (f ∷ (ks ++ l ∷ []) ++ p ∷ []) →
    AllByRecursion (λ r. IsBelow r.plane f.corner) (ks ++ l ∷ [])
kept_z n f l p [] s = ((ends_under n l.plane [] p f (chain_ends n l.plane (p ∷ []) f [] s.2)).0, tt)
kept_z n f l p (k ∷ ks) s =
    let e = ends_under n k.plane (ks ++ l ∷ []) p f (chain_ends n k.plane ((ks ++ l ∷ []) ++ p ∷ []) f [] s.2) in
    (e.0, e.1)

module _ (n p : Plane) (f l : Side) (ks ds : List Side) (y z : Spot) (b : ℕ) (c : Spot)
    (h : IsConvexRing n (f ∷ (ks ++ l ∷ []) ++ ds)) (at : IsInClosedRing n (f ∷ (ks ++ l ∷ []) ++ ds) c)
    (o : Outcome n p (with_start f z ∷ (ks ++ l ∷ []) ++ closing_side p y b ∷ []) l.corner c y (head_or l ks).corner
    f.corner z) where
  abbrev whole : List Side
  whole = f ∷ (ks ++ l ∷ []) ++ ds

  corners : AllByRecursion (λ s. IsInClosedRing n whole s.corner) whole
  corners = ring-closed n whole h

  kept_closed : AllByRecursion (λ s. IsInClosedRing n whole s.corner) (ks ++ l ∷ [])
  kept_closed = each-front (λ s. IsInClosedRing n whole s.corner) (ks ++ l ∷ []) ds corners.1

  pub at_y : AllByRecursion (λ s. IsNotAbove s.plane y) whole
  at_y =
      each_both (λ s. IsNotAbove s.plane l.corner) (λ s. IsNotAbove s.plane c) (λ s. IsNotAbove s.plane y) whole
      (λ s u v. most_at o.exit s.plane u v) (each-back (λ s. IsInClosedRing n whole s.corner) ks (l ∷ [])
      kept_closed).0.within at.within

  pub at_z : AllByRecursion (λ s. IsNotAbove s.plane z) whole
  at_z =
      each_both (λ s. IsNotAbove s.plane (head_or l ks).corner) (λ s. IsNotAbove s.plane f.corner)
      (λ s. IsNotAbove s.plane z) whole (λ s u v. most_at o.entry s.plane u v) (first ks kept_closed).within
      corners.0.within
    where
      first : (ks' : List Side) → AllByRecursion (λ s. IsInClosedRing n whole s.corner) (ks' ++ l ∷ []) → IsInClosedRing n whole (head_or l ks').corner
      first [] a = a.0
      first (k ∷ ks') a = a.0

  abbrev middle : Spot
  middle = combination (pos 1) (pos 1) y z

  -- each plane is negative in the middle
  pub middle_under : AllByRecursion (λ s. IsBelow s.plane z ⊎ IsBelow s.plane y) ds → AllByRecursion (λ s. IsBelow s.plane middle) whole
  middle_under some =
      let one : pos 0 <ℤ pos 1 = omega (arith, linear) in let one0 : pos 0 ≤ℤ pos 1 = omega (arith, linear) in
      let kept = each_both (λ s. IsNotAbove s.plane y) (λ s. IsBelow s.plane z) (λ s. IsBelow s.plane middle)
      (ks ++ l ∷ []) (λ s u v. scaled_under (pos 1) (pos 1) y z s.plane one0 one u v)
      (each-front (λ s. IsNotAbove s.plane y) (ks ++ l ∷ []) ds at_y.1)
      (kept_z n (with_start f z) l (closing_side p y b) ks o.sound) in
      let gone = each_both (λ s. IsNotAbove s.plane y × IsNotAbove s.plane z)
      (λ s. IsBelow s.plane z ⊎ IsBelow s.plane y) (λ s. IsBelow s.plane middle) ds
      (λ s u v. ⊎_elim (λ a. scaled_under (pos 1) (pos 1) y z s.plane one0 one u.0 a)
      (λ a. scaled_first (pos 1) (pos 1) y z s.plane one one0 a u.1) v)
      (each_both (λ s. IsNotAbove s.plane y) (λ s. IsNotAbove s.plane z)
      (λ s. IsNotAbove s.plane y × IsNotAbove s.plane z) ds (λ s u v. (u, v))
      (each-back (λ s. IsNotAbove s.plane y) (ks ++ l ∷ []) ds at_y.1)
      (each-back (λ s. IsNotAbove s.plane z) (ks ++ l ∷ []) ds at_z.1)) some in (
        scaled_first (pos 1) (pos 1) y z f.plane one one0 (front_y n (with_start f z) l (closing_side p y b) ks o.sound)
            at_z.0,
        each-join (λ s. IsBelow s.plane middle) (ks ++ l ∷ []) ds kept gone,
      )
