-- The part of a ring below a plane is a ring.
use Rattle.std.proofs.Common.{◌≡◌, ◌≢◌, ℕ, List, [], ◌∷◌, ◌++◌, arith, ℤ, pos, neg_ℤ, ◌<ℤ◌, ◌≤ℤ◌}
use Rattle.std.specs.List.{AllByRecursion}
use Rattle.ember_model.specs.declared.plane.Plane.{Plane}
use Rattle.ember_model.specs.declared.point.Spot.{Spot}
use Rattle.ember_model.specs.Planes.{value_at}
use Rattle.ember_algebra.proofs.Laws.{linear}
use Rattle.ember_algebra.proofs.Numbers.{negative_at_most, zero_at_most}
use Rattle.ember_model.proofs.SignTests.{positive_nonzero}
use Rattle.ember_poly.specs.Rings.{IsMeet, with_start, closing_side, Side, IsBelow, IsCornerOf, IsSideChain, IsConvexRing, EndsAt, orientation}
use Rattle.ember_poly.proofs.Planar.{Crossing, crossing_is_meet, under_past, under_first}
use Rattle.ember_poly.proofs.Chains.{each_both, each-push, each-front, each-back, chain_ends, chain-front, ends_under, chain_is_closed}
use Rattle.ember_poly.proofs.CutOrientation.{swap_last, turn_exit, turn_entry}

-- a corner of the ring
pub record Rooted (n : Plane) (s : Side) : Type 0 where
  pub flat : value_at n s.corner ≡ pos 0
  pub weight : pos 0 <ℤ s.corner.w
  pub after : value_at s.plane s.corner ≡ pos 0

pub corner_of_is_rooted : {n g : Plane} {s : Side} → IsCornerOf n g s → Rooted n s
corner_of_is_rooted j = record { flat = j.flat; weight = j.weight; after = j.after }

pub ends_rooted : (n g : Plane) (xs : List Side) (s : Side) → EndsAt n g xs s → Rooted n s
ends_rooted n g [] s e = corner_of_is_rooted e
ends_rooted n g (x ∷ xs) s e = ends_rooted n x.plane xs s e.1

ends_front : (n g : Plane) (xs : List Side) (t : Side) (ys : List Side) (s : Side) → EndsAt n g (xs ++ t ∷ ys) s →
    IsBelow g s.corner × AllByRecursion (λ r. IsBelow r.plane s.corner) xs
ends_front n g [] t ys s e = (e.0, tt)
ends_front n g (x ∷ xs) t ys s e = let h = ends_front n x.plane xs t ys s e.1 in (e.0, (h.0, h.1))

-- ---- the exit: the last kept edge is that of l, and the ring goes on to the corner b
exit_under : (n g : Plane) (xs : List Side) (l : Side) (p : Plane) (b y : Spot) → EndsAt n g xs l → IsBelow g b →
    AllByRecursion (λ r. IsBelow r.plane b) xs → Crossing p l.corner b y →
    IsBelow g y × AllByRecursion (λ r. IsBelow r.plane y) xs
exit_under n g [] l p b y e u h c = (under_past c g (zero_at_most e.before) u, tt)
exit_under n g (x ∷ xs) l p b y e u h c =
    let r = exit_under n x.plane xs l p b y e.1 h.0 h.1 c in
    (under_past c g (negative_at_most e.0.under) u, (r.0, r.1))

exit_turn : (n g : Plane) (xs : List Side) (l : Side) (p : Plane) (b : Spot) → EndsAt n g xs l → IsBelow g b →
    AllByRecursion (λ r. IsBelow r.plane b) xs → value_at n b ≡ pos 0 → value_at l.plane b ≡ pos 0 → pos 0 <ℤ b.w →
    value_at p l.corner <ℤ pos 0 → pos 0 ≤ℤ value_at p b → pos 0 <ℤ orientation n l.plane p
exit_turn n g [] l p b e u h nb lb wb pl pb =
    turn_exit n g l.plane p l.corner b e.flat nb e.after lb e.before u e.turns e.weight wb pl pb
exit_turn n g (x ∷ xs) l p b e u h nb lb wb pl pb = exit_turn n x.plane xs l p b e.1 h.0 h.1 nb lb wb pl pb

-- ---- the entry: on the edge of f, on the way to the corner of k
entry_turn : (n p : Plane) (f k : Side) → Rooted n f → IsCornerOf n f.plane k → IsBelow k.plane f.corner →
    pos 0 ≤ℤ value_at p f.corner → value_at p k.corner <ℤ pos 0 → pos 0 <ℤ orientation n p f.plane
entry_turn n p f k r j u pf pk =
    turn_entry n f.plane k.plane p f.corner k.corner r.flat j.flat r.after j.before j.after u j.turns r.weight j.weight pf pk

entry_crossing : (n p : Plane) (y : Spot) (f k : Side) → Rooted n f → IsCornerOf n f.plane k →
    IsBelow k.plane f.corner → pos 0 ≤ℤ value_at p f.corner → value_at p k.corner <ℤ pos 0 → IsMeet n f.plane p y →
    Crossing p k.corner f.corner y
entry_crossing n p y f k r j u pf pk m =
    crossing_is_meet n f.plane p k.corner f.corner y (turned (swap_last n f.plane p) (entry_turn n p f k r j u pf pk))
    j.flat r.flat j.before r.after j.weight r.weight pk pf m.first m.second m.third m.weight
  where
    turned : {a b : ℤ} → a ≡ neg_ℤ b → pos 0 <ℤ a → b ≢ pos 0
    turned e p z = absurd (omega (arith, linear, e, p, z))

entry_under : (p : Plane) (y : Spot) (f k : Side) (xs : List Side) → Crossing p k.corner f.corner y →
    AllByRecursion (λ r. IsBelow r.plane k.corner) xs → AllByRecursion (λ r. IsBelow r.plane f.corner) xs →
    AllByRecursion (λ r. IsBelow r.plane y) xs
entry_under p y f k xs c h u =
    each_both (λ r. IsBelow r.plane k.corner) (λ r. IsBelow r.plane f.corner) (λ r. IsBelow r.plane y) xs
    (λ x a b. under_past c x.plane (negative_at_most a.under) b) h u

-- the two joints at the new corners
exit_joint : (n p : Plane) (y : Spot) (l : Side) (b : ℕ) → IsMeet n l.plane p y → pos 0 <ℤ orientation n l.plane p → IsCornerOf n l.plane (closing_side p y b)
exit_joint n p y l b m t =
    record { flat = m.first; weight = m.weight; before = m.second; after = m.third; turns = t }

entry_joint : (n p : Plane) (y : Spot) (f : Side) → IsMeet n f.plane p y → pos 0 <ℤ orientation n p f.plane → IsCornerOf n p (with_start f y)
entry_joint n p y f m t =
    record { flat = m.first; weight = m.weight; before = m.third; after = m.second; turns = t }

-- the outcome: a ring, and each new corner between two old ones
pub record Outcome (n p : Plane) (new : List Side) (l b y k f z : Spot) : Type 0 where
  pub sound : IsConvexRing n new
  pub exit : Crossing p l b y
  pub entry : Crossing p k f z

-- the first side of a list, or the one that is given
abbrev pub head_or : Side → List Side → Side
head_or c [] = c
head_or c (s ∷ xs) = s

-- ---- some sides are dropped: d is the first of them
module _ (n p : Plane) (f l d : Side) (ds : List Side) (y z : Spot) (b : ℕ) (pf : pos 0 ≤ℤ value_at p f.corner)
    (pd : pos 0 ≤ℤ value_at p d.corner) (my : IsMeet n l.plane p y) (mz : IsMeet n f.plane p z) where
  -- what the exit needs: the chain up to d
  exit_facts : (ks : List Side) → IsSideChain n f.plane ((ks ++ l ∷ []) ++ d ∷ ds) → value_at p l.corner <ℤ pos 0 →
      IsBelow f.plane y × AllByRecursion (λ r. IsBelow r.plane y) ks × (pos 0 <ℤ orientation n l.plane p) × Crossing p
      l.corner d.corner y
  exit_facts ks c pl =
      let own = chain_ends n f.plane ks l [] (chain-front n f.plane (ks ++ l ∷ []) (d ∷ ds) c) in
      let past = ends_under n f.plane ks l d (chain_ends n f.plane (ks ++ l ∷ []) d ds c) in
      let j : IsCornerOf n l.plane d = past.2 in
      let t = exit_turn n f.plane ks l p d.corner own past.0 past.1 j.flat j.before j.weight pl pd in
      let root = ends_rooted n f.plane ks l own in
      let k = crossing_is_meet n l.plane p l.corner d.corner y (positive_nonzero t) root.flat j.flat root.after j.before
      root.weight j.weight pl pd my.first my.second my.third my.weight in
      let u = exit_under n f.plane ks l p d.corner y own past.0 past.1 k in
      (u.0, u.1, t, k)

  -- the part below a plane, if sides were dropped
  pub below_some : (ks : List Side) → IsConvexRing n (f ∷ (ks ++ l ∷ []) ++ d ∷ ds) →
      AllByRecursion (λ r. IsBelow p r.corner) (ks ++ l ∷ []) →
      Outcome n p (with_start f z ∷ (ks ++ l ∷ []) ++ closing_side p y b ∷ []) l.corner d.corner y (head_or l ks).corner
      f.corner z
  below_some [] h q =
      let x = exit_facts [] h.1 q.0.under in
      let e = chain_ends n l.plane (d ∷ ds) f [] h.2 in
      let root = ends_rooted n l.plane (d ∷ ds) f e in
      let t = entry_turn n p f l root h.1.0 e.0 pf q.0.under in
      let k = entry_crossing n p z f l root h.1.0 e.0 pf q.0.under mz in
      record {
        sound = chain_is_closed n (with_start f z) [] l (closing_side p y b) (h.1.0, tt, tt, tt) x.0 tt
            (exit_joint n p y l b my x.2) (under_past k l.plane (zero_at_most h.1.0.after) e.0, tt) (entry_joint n p z f mz t)
            q;
        exit = x.3;
        entry = k;
      }
  below_some (m ∷ ks) h q =
      let x = exit_facts (m ∷ ks) h.1 (each-back (λ r. IsBelow p r.corner) (m ∷ ks) (l ∷ []) q).0.under in
      let e = chain_ends n m.plane ((ks ++ l ∷ []) ++ d ∷ ds) f [] h.2 in
      let back = ends_front n m.plane (ks ++ l ∷ []) d ds f e in
      let root = ends_rooted n m.plane ((ks ++ l ∷ []) ++ d ∷ ds) f e in
      let t = entry_turn n p f m root h.1.0 back.0 pf q.0.under in
      let k = entry_crossing n p z f m root h.1.0 back.0 pf q.0.under mz in
      let ahead = each-front (λ r. IsBelow r.plane m.corner) (ks ++ l ∷ []) (d ∷ ds) h.1.2 in
      record {
        sound = chain_is_closed n (with_start f z) (m ∷ ks) l (closing_side p y b)
            (chain-front n f.plane (m ∷ (ks ++ l ∷ [])) (d ∷ ds) h.1) x.0 x.1 (exit_joint n p y l b my x.2)
            (under_past k m.plane (zero_at_most h.1.0.after) back.0, entry_under p z f m (ks ++ l ∷ []) k ahead back.1)
            (entry_joint n p z f mz t) q;
        exit = x.3;
        entry = k;
      }

-- ---- none is dropped: only the corner of f isn't negative
module _ (n p : Plane) (f l : Side) (y z : Spot) (b : ℕ) (pf : pos 0 <ℤ value_at p f.corner) (my : IsMeet n l.plane p y) (mz : IsMeet n f.plane p z) where
  -- the part below a plane, if no side was dropped
  pub below_all : (ks : List Side) → IsConvexRing n (f ∷ (ks ++ l ∷ [])) →
      AllByRecursion (λ r. IsBelow p r.corner) (ks ++ l ∷ []) →
      Outcome n p (with_start f z ∷ (ks ++ l ∷ []) ++ closing_side p y b ∷ []) l.corner f.corner y (head_or l ks).corner
      f.corner z
  below_all [] h q = absurd h.0
  below_all (m ∷ ks) h q =
      let not_below : pos 0 ≤ℤ value_at p f.corner = omega (arith, linear, pf) in
      let pl : value_at p l.corner <ℤ pos 0 = (each-back (λ r. IsBelow p r.corner) (m ∷ ks) (l ∷ []) q).0.under in
      let own = chain_ends n m.plane ks l [] h.1.3 in
      let past = ends_under n m.plane ks l f (chain_ends n m.plane (ks ++ l ∷ []) f [] h.2) in
      let j : IsCornerOf n l.plane f = past.2 in
      let root = corner_of_is_rooted j in
      let here = ends_rooted n m.plane ks l own in
      let s = exit_turn n m.plane ks l p f.corner own past.0 past.1 j.flat j.before j.weight pl not_below in
      let c = crossing_is_meet n l.plane p l.corner f.corner y (positive_nonzero s) here.flat j.flat here.after j.before
      here.weight j.weight pl not_below my.first my.second my.third my.weight in
      let u = exit_under n m.plane ks l p f.corner y own past.0 past.1 c in
      let front : IsBelow f.plane y = under_first c f.plane pf (each-back (λ r. IsBelow f.plane r.corner) ks (l ∷ []) h.1.1).0 (zero_at_most j.after) in
      let t = entry_turn n p f m root h.1.0 past.0 not_below q.0.under in
      let k = entry_crossing n p z f m root h.1.0 past.0 not_below q.0.under mz in
      let ahead = each-front (λ r. IsBelow r.plane m.corner) ks (l ∷ []) h.1.2 in
      let last : IsBelow l.plane z = under_first k l.plane pf (each-back (λ r. IsBelow r.plane m.corner) ks (l ∷ []) h.1.2).0 (zero_at_most j.before) in
      record {
        sound = chain_is_closed n (with_start f z) (m ∷ ks) l (closing_side p y b) h.1 front (u.0, u.1)
            (exit_joint n p y l b my s) (
              under_past k m.plane (zero_at_most h.1.0.after) past.0,
              each-push (λ r. IsBelow r.plane z) ks l (entry_under p z f m ks k ahead past.1) last,
            )
            (entry_joint n p z f mz t) q;
        exit = c;
        entry = k;
      }

-- ---- the planes at the new corners meet: known before the corners are computed
-- the plane of a cut turns counter-clockwise from the last edge below it, and to the edge on which the boundary passes
-- below
pub turns_some : (n p : Plane) (f l d : Side) (ds ks : List Side) → pos 0 ≤ℤ value_at p f.corner →
    pos 0 ≤ℤ value_at p d.corner → IsConvexRing n (f ∷ (ks ++ l ∷ []) ++ d ∷ ds) →
    AllByRecursion (λ r. IsBelow p r.corner) (ks ++ l ∷ []) →
    (pos 0 <ℤ orientation n l.plane p) × (pos 0 <ℤ orientation n p f.plane)
turns_some n p f l d ds [] pf pd h q =
    let e = chain_ends n l.plane (d ∷ ds) f [] h.2 in
    let j : IsCornerOf n l.plane d = h.1.3.0 in (
      exit_turn n f.plane [] l p d.corner h.1.0 h.1.1.0 tt j.flat j.before j.weight q.0.under pd,
      entry_turn n p f l (ends_rooted n l.plane (d ∷ ds) f e) h.1.0 e.0 pf q.0.under,
    )
turns_some n p f l d ds (m ∷ ks) pf pd h q =
    let e = chain_ends n m.plane ((ks ++ l ∷ []) ++ d ∷ ds) f [] h.2 in
    let back = ends_front n m.plane (ks ++ l ∷ []) d ds f e in
    let own = chain_ends n f.plane (m ∷ ks) l [] (chain-front n f.plane (m ∷ (ks ++ l ∷ [])) (d ∷ ds) h.1) in
    let past = ends_under n f.plane (m ∷ ks) l d (chain_ends n f.plane (m ∷ (ks ++ l ∷ [])) d ds h.1) in
    let j : IsCornerOf n l.plane d = past.2 in (
      exit_turn n f.plane (m ∷ ks) l p d.corner own past.0 past.1 j.flat j.before j.weight
          (each-back (λ r. IsBelow p r.corner) (m ∷ ks) (l ∷ []) q).0.under pd,
      entry_turn n p f m (ends_rooted n m.plane ((ks ++ l ∷ []) ++ d ∷ ds) f e) h.1.0 back.0 pf q.0.under,
    )

-- the same if only one corner isn't below the plane
pub turns_all : (n p : Plane) (f l : Side) (ks : List Side) → pos 0 <ℤ value_at p f.corner →
    IsConvexRing n (f ∷ (ks ++ l ∷ [])) → AllByRecursion (λ r. IsBelow p r.corner) (ks ++ l ∷ []) →
    (pos 0 <ℤ orientation n l.plane p) × (pos 0 <ℤ orientation n p f.plane)
turns_all n p f l [] pf h q = absurd h.0
turns_all n p f l (m ∷ ks) pf h q =
    let not_below : pos 0 ≤ℤ value_at p f.corner = omega (arith, linear, pf) in
    let past = ends_under n m.plane ks l f (chain_ends n m.plane (ks ++ l ∷ []) f [] h.2) in
    let j : IsCornerOf n l.plane f = past.2 in (
      exit_turn n m.plane ks l p f.corner (chain_ends n m.plane ks l [] h.1.3) past.0 past.1 j.flat j.before j.weight
          (each-back (λ r. IsBelow p r.corner) (m ∷ ks) (l ∷ []) q).0.under not_below,
      entry_turn n p f m (corner_of_is_rooted j) h.1.0 past.0 not_below q.0.under,
    )
