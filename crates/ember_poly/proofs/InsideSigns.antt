-- Inside points of a ring, and on which side of a plane they lie.
use Rattle.std.proofs.Common.{◌≡◌, ℕ, List, [], ◌∷◌, ◌∙◌, arith, ℤ, pos, ◌+ℤ◌, ◌-ℤ◌, ◌*ℤ◌, neg_ℤ, ◌<ℤ◌, ◌≤ℤ◌}
use Rattle.std.proofs.lemmas.Int.{by_lt_z}
use Rattle.std.specs.List.{AllByRecursion}
use Rattle.ember_model.specs.declared.plane.Plane.{Plane}
use Rattle.ember_model.specs.declared.point.Spot.{Spot}
use Rattle.ember_model.specs.Planes.{value_at}
use Rattle.ember_algebra.specs.Large.{Eventually}
use Rattle.ember_algebra.proofs.Large.{eventually_both, eventually_map, eventually_pos}
use Rattle.ember_algebra.proofs.Laws.{linear}
use Rattle.ember_algebra.proofs.Ring.{Expr, ◌⊕◌, ◌⊖◌, ◌⊗◌, neg, num, ◌≈◌, solve, cancels}
use Rattle.ember_algebra.proofs.Vectors.{scalar, tuple, identity, TupleE, valueE}
use Rattle.ember_algebra.proofs.Order.{nonneg_mul}
use Rattle.ember_model.proofs.Tuples.{plane_tuple, spot_tuple}
use Rattle.ember_poly.specs.Rings.{Side, IsBelow, IsNotAbove, IsInsideRing, IsInClosedRing, IsConvexRing}
use Rattle.ember_poly.specs.Chords.{combination}
use Rattle.ember_poly.proofs.Chains.{each_map}
use Rattle.ember_poly.proofs.Hull.{corners_at_most}

-- ---- i u + j v
abbrev combinationE : Expr → Expr → TupleE → TupleE → TupleE
combinationE i j u v =
    record { x = i ⊗ u.x ⊕ j ⊗ v.x; y = i ⊗ u.y ⊕ j ⊗ v.y; z = i ⊗ u.z ⊕ j ⊗ v.z; w = i ⊗ u.w ⊕ j ⊗ v.w }

-- a plane's value at a combination of two points is that combination of its values
pub combination_value : (i j : ℤ) (u v : Spot) (e : Plane) → value_at e (combination i j u v) ≡ i *ℤ value_at e u +ℤ j *ℤ value_at e v
combination_value i j u v e =
    identity (scalar ∷ scalar ∷ tuple ∷ tuple ∷ tuple ∷ [])
    (λ i j u v e. valueE e (combinationE i j u v) ≈ i ⊗ valueE e u ⊕ j ⊗ valueE e v) cancels i j (spot_tuple u)
    (spot_tuple v) (plane_tuple e)

-- ---- Eventually, over a list
-- what holds of each member from some number on holds of all from some number on
pub eventually_each : {X : Type 0} (P : X → ℕ → Type 0) (xs : List X) → AllByRecursion (λ x. Eventually (P x)) xs →
    Eventually (λ m. AllByRecursion (λ x. P x m) xs)
eventually_each P [] h = record { from = 0; holds = λ m l. tt }
eventually_each P (x ∷ xs) h =
    eventually_map (λ m p. (p.0, p.1)) (eventually_both h.0 (eventually_each P xs h.1))

-- ---- a plane that is at most 0 at the corners, and negative somewhere in the ring's plane, is negative inside
-- the opposite of a plane on expressions
abbrev pub oppositeE : TupleE → TupleE
oppositeE v = record { x = neg v.x; y = neg v.y; z = neg v.z; w = neg v.w }

abbrev negated : Spot → Spot
negated v = record { x = neg_ℤ v.x; y = neg_ℤ v.y; z = neg_ℤ v.z; w = neg_ℤ v.w }

negated_value : (e : Plane) (v : Spot) → value_at e (negated v) ≡ neg_ℤ (value_at e v)
negated_value e v = identity (tuple ∷ tuple ∷ []) (λ e v. valueE e (oppositeE v) ≈ neg (valueE e v)) cancels (plane_tuple e) (spot_tuple v)

abbrev beyond : Spot → Spot → ℕ → Spot
beyond x c m = combination (pos m) (pos 1) x (negated c)

beyond_value : (e : Plane) (x c : Spot) (m : ℕ) → value_at e (beyond x c m) ≡ value_at e x *ℤ pos m -ℤ value_at e c
beyond_value e x c m =
    combination_value (pos m) (pos 1) x (negated c) e
    ∙ rw (negated_value e c) (solve 3 (λ m a b. m ⊗ a ⊕ num (pos 1) ⊗ neg b ≈ a ⊗ m ⊖ b) cancels (pos m)
    (value_at e x) (value_at e c))

-- a negative value_at stays so
beyond_under : (x c : Spot) (e : Plane) → IsBelow e x → Eventually (λ m. IsNotAbove e (beyond x c m))
beyond_under x c e u =
    eventually_map (λ m p. record {
      at_most = rw (beyond_value e x c m) (flip (value_at e x) (pos m) (value_at e c) p);
    }) (eventually_pos {a = neg_ℤ (value_at e x)} (value_at e c) (positive u.under))
  where
    positive : {a : ℤ} → a <ℤ pos 0 → pos 0 <ℤ neg_ℤ a
    positive q = omega (arith, linear, q)

    flip : (a m b : ℤ) → pos 0 <ℤ (neg_ℤ a *ℤ m +ℤ b) → (a *ℤ m -ℤ b) ≤ℤ pos 0
    flip a m b p = omega (arith, linear, p, solve 2 (λ a m. neg a ⊗ m ≈ neg (a ⊗ m)) cancels a m)

beyond_closed : (n : Plane) (xs : List Side) (x c : Spot) → value_at n c ≡ pos 0 → IsInsideRing n xs x → Eventually (λ m. IsInClosedRing n xs (beyond x c m))
beyond_closed n xs x c nc k =
    eventually_map (λ m p. record { flat = beyond_value n x c m ∙ flat m; weight = weight m p.0; within = p.1 })
    (eventually_both (eventually_pos (neg_ℤ c.w) k.weight)
    (eventually_each (λ s m. IsNotAbove s.plane (beyond x c m)) xs
    (each_map (λ s. IsBelow s.plane x) (λ s. Eventually (λ m. IsNotAbove s.plane (beyond x c m))) xs
    (λ s u. beyond_under x c s.plane u) k.within)))
  where
    flat : (m : ℕ) → value_at n x *ℤ pos m -ℤ value_at n c ≡ pos 0
    flat m = rw (k.flat, nc) (solve 1 (λ m. num (pos 0) ⊗ m ⊖ num (pos 0) ≈ num (pos 0)) cancels (pos m))

    weight : (m : ℕ) → pos 0 <ℤ (x.w *ℤ pos m +ℤ neg_ℤ c.w) → pos 0 <ℤ (pos m *ℤ x.w +ℤ pos 1 *ℤ neg_ℤ c.w)
    weight m p =
        omega (arith, linear, p, solve 2 (λ m w. m ⊗ w ≈ w ⊗ m) cancels (pos m) x.w, solve 1 (λ w. num (pos 1) ⊗ neg w ≈ neg w) cancels c.w)

-- if no corner is above a plane and one point of the ring's plane is below, the inside is below
pub corners_under : (n p : Plane) (x c : Spot) (xs : List Side) → IsConvexRing n xs →
    AllByRecursion (λ r. IsNotAbove p r.corner) xs → value_at n c ≡ pos 0 → IsBelow p c → IsInsideRing n xs x →
    IsBelow p x
corners_under n p x c xs h a nc u k =
    by_lt_z (value_at p x) (pos 0) (λ l. record { under = l }) (λ l. absurd (never l (beyond_closed n xs x c nc k)))
  where
    never : pos 0 ≤ℤ value_at p x → Eventually (λ m. IsInClosedRing n xs (beyond x c m)) → ⊥
    never l e =
        let m = e.from in
        let q = (corners_at_most n p (beyond x c m) xs h a (e.holds m (omega arith))).at_most in
        let r : (value_at p x *ℤ pos m -ℤ value_at p c) ≤ℤ pos 0 = rw (← beyond_value p x c m) q in
        let z : pos 0 ≤ℤ pos m = omega (arith, linear) in
        omega (arith, linear, r, nonneg_mul l z, u.under)
