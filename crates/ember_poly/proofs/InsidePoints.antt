-- Corners are closed points; three corners give an inside point; and the four answers of `reach`.
use Rattle.std.proofs.Common.{◌≡◌, List, [], ◌∷◌, ◌++◌, ◌∙◌, arith, ℤ, pos, ◌+ℤ◌, ◌*ℤ◌, neg_ℤ, ◌<ℤ◌, ◌≤ℤ◌}
use Rattle.std.specs.List.{AllByRecursion}
use Rattle.ember_model.specs.declared.plane.Plane.{Plane}
use Rattle.ember_model.specs.declared.point.Spot.{Spot}
use Rattle.ember_model.specs.Planes.{value_at}
use Rattle.ember_algebra.proofs.Laws.{linear}
use Rattle.ember_algebra.proofs.Ring.{◌⊕◌, ◌⊗◌, neg, num, ◌≈◌, solve, cancels}
use Rattle.ember_algebra.proofs.Order.{pos_mul, nonneg_mul, mul_pos_neg}
use Rattle.ember_algebra.proofs.Numbers.{negative_at_most, zero_at_most}
use Rattle.ember_poly.specs.Rings.{Side, IsBelow, IsNotAbove, IsInsideRing, IsInClosedRing, IsConvexRing, EndsAt}
use Rattle.ember_poly.proofs.Chains.{each_both, each-back, chain_ends}
use Rattle.ember_poly.proofs.Rotations.{turned_by}
use Rattle.ember_poly.proofs.RingBelow.{ends_rooted}
use Rattle.ember_poly.proofs.Hull.{closed_turned}
use Rattle.ember_poly.specs.Chords.{combination}
use Rattle.ember_poly.proofs.InsideSigns.{combination_value}

-- ---- corners are closed
-- a point below a plane isn't above it
pub below_is_not_above : {p : Plane} {v : Spot} → IsBelow p v → IsNotAbove p v
below_is_not_above u = record { at_most = negative_at_most u.under }

-- a point on a plane isn't above it
pub on_is_not_above : {p : Plane} {v : Spot} → value_at p v ≡ pos 0 → IsNotAbove p v
on_is_not_above e = record { at_most = zero_at_most e }

ends_closed : (n g : Plane) (xs : List Side) (t : Side) → EndsAt n g xs t → IsNotAbove g t.corner × AllByRecursion (λ r. IsNotAbove r.plane t.corner) xs
ends_closed n g [] t e = (on_is_not_above e.before, tt)
ends_closed n g (x ∷ xs) t e = let h = ends_closed n x.plane xs t e.1 in (below_is_not_above e.0, (h.0, h.1))

-- the first corner of a convex ring is in the closed ring
pub head_closed : (n : Plane) (s : Side) (xs : List Side) → IsConvexRing n (s ∷ xs) → IsInClosedRing n (s ∷ xs) s.corner
head_closed n s [] h = absurd h
head_closed n s (t ∷ xs) h =
    let e = chain_ends n t.plane xs s [] h.2 in let c = ends_closed n t.plane xs s e in
    let r = ends_rooted n t.plane xs s e in
    record { flat = r.flat; weight = r.weight; within = (on_is_not_above r.after, c) }

-- each corner of a convex ring is in the closed ring
pub corner_closed : (n : Plane) (xs : List Side) (s : Side) (ys : List Side) → IsConvexRing n (xs ++ s ∷ ys) → IsInClosedRing n (xs ++ s ∷ ys) s.corner
corner_closed n xs s ys h =
    closed_turned n s.corner (s ∷ ys) xs (head_closed n s (ys ++ xs) (turned_by n xs (s ∷ ys) h))

-- ---- i u + j v is inside, if u is closed and v is inside
-- a point between one that isn't above a plane and one below it is below, unless it is the first
pub scaled_under : (i j : ℤ) (u v : Spot) (e : Plane) → pos 0 ≤ℤ i → pos 0 <ℤ j → IsNotAbove e u → IsBelow e v → IsBelow e (combination i j u v)
scaled_under i j u v e p q a b =
    record { under = rw (combination_value i j u v e) (sum p q a.at_most b.under) }
  where
    sum : {i j a b : ℤ} → pos 0 ≤ℤ i → pos 0 <ℤ j → a ≤ℤ pos 0 → b <ℤ pos 0 → (i *ℤ a +ℤ j *ℤ b) <ℤ pos 0
    sum {i} {j} {a} {b} p q r s =
        let m : pos 0 ≤ℤ neg_ℤ a = omega (arith, linear) in
        omega (arith, linear, nonneg_mul p m, solve 2 (λ i a. i ⊗ neg a ≈ neg (i ⊗ a)) cancels i a, mul_pos_neg q s)

-- a point between one below a plane and one that isn't above it is below, unless it is the second
pub scaled_first : (i j : ℤ) (u v : Spot) (e : Plane) → pos 0 <ℤ i → pos 0 ≤ℤ j → IsBelow e u → IsNotAbove e v → IsBelow e (combination i j u v)
scaled_first i j u v e p q a b =
    record { under = rw (combination_value i j u v e) (sum p q a.under b.at_most) }
  where
    sum : {i j a b : ℤ} → pos 0 <ℤ i → pos 0 ≤ℤ j → a <ℤ pos 0 → b ≤ℤ pos 0 → (i *ℤ a +ℤ j *ℤ b) <ℤ pos 0
    sum {i} {j} {a} {b} p q r s =
        let m : pos 0 ≤ℤ neg_ℤ b = omega (arith, linear) in
        omega (arith, linear, nonneg_mul q m, solve 2 (λ j b. j ⊗ neg b ≈ neg (j ⊗ b)) cancels j b, mul_pos_neg p r)

-- a point between two that aren't above a plane isn't above it
pub scaled_both : (i j : ℤ) (u v : Spot) (e : Plane) → pos 0 ≤ℤ i → pos 0 ≤ℤ j → IsNotAbove e u → IsNotAbove e v → IsNotAbove e (combination i j u v)
scaled_both i j u v e p q a b =
    record { at_most = rw (combination_value i j u v e) (sum p q a.at_most b.at_most) }
  where
    sum : {i j a b : ℤ} → pos 0 ≤ℤ i → pos 0 ≤ℤ j → a ≤ℤ pos 0 → b ≤ℤ pos 0 → (i *ℤ a +ℤ j *ℤ b) ≤ℤ pos 0
    sum {i} {j} {a} {b} p q r s =
        let m : pos 0 ≤ℤ neg_ℤ a = omega (arith, linear) in let o : pos 0 ≤ℤ neg_ℤ b = omega (arith, linear) in
        omega (
          arith,
          linear,
          nonneg_mul p m,
          nonneg_mul q o,
          solve 2 (λ i a. i ⊗ neg a ≈ neg (i ⊗ a)) cancels i a,
          solve 2 (λ j b. j ⊗ neg b ≈ neg (j ⊗ b)) cancels j b,
        )

-- a combination of two points on a plane is on it
pub flat_sum : (i j : ℤ) (u v : Spot) (n : Plane) → value_at n u ≡ pos 0 → value_at n v ≡ pos 0 → value_at n (combination i j u v) ≡ pos 0
flat_sum i j u v n e f =
    combination_value i j u v n ∙ rw (e, f) (solve 2 (λ i j. i ⊗ num (pos 0) ⊕ j ⊗ num (pos 0) ≈ num (pos 0)) cancels i j)

-- a combination of two points has a positive weight
pub weight_sum : {i j a b : ℤ} → pos 0 ≤ℤ i → pos 0 <ℤ j → pos 0 <ℤ a → pos 0 <ℤ b → pos 0 <ℤ (i *ℤ a +ℤ j *ℤ b)
weight_sum {i} {j} {a} {b} p q r s =
    let m : pos 0 ≤ℤ a = omega (arith, linear) in omega (arith, linear, nonneg_mul p m, pos_mul q s)

-- between a point of the closed ring and an inside point, all are inside
pub inside_sum : (i j : ℤ) (n : Plane) (xs : List Side) (u v : Spot) → pos 0 ≤ℤ i → pos 0 <ℤ j → IsInClosedRing n xs u →
    IsInsideRing n xs v → IsInsideRing n xs (combination i j u v)
inside_sum i j n xs u v p q a b =
    record {
      flat = flat_sum i j u v n a.flat b.flat;
      weight = weight_sum p q a.weight b.weight;
      within =
          each_both (λ s. IsNotAbove s.plane u) (λ s. IsBelow s.plane v) (λ s. IsBelow s.plane (combination i j u v)) xs
          (λ s x y. scaled_under i j u v s.plane p q x y) a.within b.within;
    }

-- ---- i c0 + j c1 + k c2 is inside, for i, j, k > 0
-- a point strictly between three corners is inside the ring
pub corner_sum_is_inside : (i j k : ℤ) (n : Plane) (s t u : Side) (xs : List Side) → pos 0 <ℤ i → pos 0 <ℤ j →
    pos 0 <ℤ k → IsConvexRing n (s ∷ t ∷ u ∷ xs) →
    IsInsideRing n (s ∷ t ∷ u ∷ xs) (combination i (pos 1) s.corner (combination j k t.corner u.corner))
corner_sum_is_inside i j k n s t u xs pi pj pk h =
    let c0 = head_closed n s (t ∷ u ∷ xs) h in let c1 = corner_closed n (s ∷ []) t (u ∷ xs) h in
    let c2 = corner_closed n (s ∷ t ∷ []) u xs h in
    let i0 : pos 0 ≤ℤ i = omega (arith, linear, pi) in let j0 : pos 0 ≤ℤ j = omega (arith, linear, pj) in
    let k0 : pos 0 ≤ℤ k = omega (arith, linear, pk) in let one : pos 0 <ℤ pos 1 = omega (arith, linear) in
    let one0 : pos 0 ≤ℤ pos 1 = omega (arith, linear) in
    let tail = combination j k t.corner u.corner in
    let first : IsBelow s.plane tail = scaled_under j k t.corner u.corner s.plane j0 pk c1.within.0 h.1.1.0 in
    let second : IsNotAbove t.plane tail = scaled_both j k t.corner u.corner t.plane j0 k0 c1.within.1.0 c2.within.1.0 in
    let back : IsBelow t.plane s.corner = (each-back (λ r. IsBelow t.plane r.corner) xs (s ∷ []) h.2.1).0 in
    let third : IsBelow u.plane tail = scaled_first j k t.corner u.corner u.plane pj k0 h.1.2.0 c2.within.1.1.0 in
    let rest : AllByRecursion (λ r. IsBelow r.plane tail) xs =
    each_both (λ r. IsBelow r.plane t.corner) (λ r. IsNotAbove r.plane u.corner) (λ r. IsBelow r.plane tail) xs
    (λ r x y. scaled_first j k t.corner u.corner r.plane pj k0 x y) h.1.2.1 c2.within.1.1.1 in
    record {
      flat = flat_sum i (pos 1) s.corner tail n c0.flat (flat_sum j k t.corner u.corner n c1.flat c2.flat);
      weight = weight_sum i0 one c0.weight (weight_sum j0 pk c1.weight c2.weight);
      within = (
        scaled_under i (pos 1) s.corner tail s.plane i0 one c0.within.0 first,
        (
          scaled_first i (pos 1) s.corner tail t.plane pi one0 back second,
          (
            scaled_under i (pos 1) s.corner tail u.plane i0 one c0.within.1.1.0 third,
            each_both (λ r. IsNotAbove r.plane s.corner) (λ r. IsBelow r.plane tail)
                (λ r. IsBelow r.plane (combination i (pos 1) s.corner tail)) xs
                (λ r x y. scaled_under i (pos 1) s.corner tail r.plane i0 one x y) c0.within.1.1.1 rest,
          ),
        ),
      );
    }
