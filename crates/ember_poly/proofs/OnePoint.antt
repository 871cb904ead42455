-- A plane that is negative at all corners but one vanishes at one place of the closed ring at most.
use Rattle.std.proofs.Common.{◌≡◌, ◌⊎◌, ⊎_elim, inl, inr, subst, List, [], ◌∷◌, ◌++◌, ◌∙◌, arith, ℤ, pos, ◌+ℤ◌, ◌-ℤ◌, ◌*ℤ◌, neg_ℤ, ◌<ℤ◌, ◌≤ℤ◌}
use Rattle.std.specs.List.{AllByRecursion}
use Rattle.ember_model.specs.declared.plane.Plane.{Plane}
use Rattle.ember_model.specs.declared.point.Spot.{Spot}
use Rattle.ember_model.specs.Planes.{value_at}
use Rattle.ember_algebra.proofs.Laws.{linear}
use Rattle.ember_algebra.proofs.Ring.{◌⊕◌, ◌⊖◌, ◌⊗◌, neg, num, ◌≈◌, solve, cancels}
use Rattle.ember_algebra.proofs.Order.{by_sign, pos_mul, nonneg_mul, mul_pos_neg, mul_neg_pos, cancel_eq, zero_product}
use Rattle.ember_model.proofs.SignTests.{positive_nonzero}
use Rattle.ember_poly.specs.Rings.{Side, IsConvexRing, IsInClosedRing, IsBelow, IsNotAbove, IsBelowAllButOne}
use Rattle.ember_poly.proofs.Chains.{each-front, each-back}
use Rattle.ember_poly.proofs.Rotations.{turned_by, each-turned, each-join}
use Rattle.ember_poly.proofs.Planar.{same_place}
use Rattle.ember_poly.proofs.Hull.{ring-rooted, wedge_point_is_below, find_best, Best, best_above, last_of}

-- ---- at most one corner
each_lone : (h : Plane) (xs : List Side) → AllByRecursion (λ r. IsBelow h r.corner) xs → IsBelowAllButOne h xs
each_lone h [] e = tt
each_lone h (x ∷ xs) e = inl (e.0, each_lone h xs e.1)

-- a plane that is negative at all corners of the first sides, and at all but one at most of the others, is negative at
-- all but one at most of both together
pub lone-join : (h : Plane) (xs ys : List Side) → AllByRecursion (λ r. IsBelow h r.corner) xs → IsBelowAllButOne h ys → IsBelowAllButOne h (xs ++ ys)
lone-join h [] ys e l = l
lone-join h (x ∷ xs) ys e l = inl (e.0, lone-join h xs ys e.1 l)

lone-front : (h : Plane) (xs ys : List Side) → IsBelowAllButOne h xs → AllByRecursion (λ r. IsBelow h r.corner) ys → IsBelowAllButOne h (xs ++ ys)
lone-front h [] ys l e = each_lone h ys e
lone-front h (x ∷ xs) ys (inl p) e = inl (p.0, lone-front h xs ys p.1 e)
lone-front h (x ∷ xs) ys (inr p) e = inr (each-join (λ r. IsBelow h r.corner) xs ys p e)

lone-turned : (h : Plane) (xs ys : List Side) → IsBelowAllButOne h (xs ++ ys) → IsBelowAllButOne h (ys ++ xs)
lone-turned h xs ys l =
    ⊎_elim (λ p. lone-front h ys xs p.1 p.0) (λ p. lone-join h ys xs p.1 p.0) (split xs ys l)
  where
    split : (xs ys : List Side) → IsBelowAllButOne h (xs ++ ys) →
        (AllByRecursion (λ r. IsBelow h r.corner) xs × IsBelowAllButOne h ys) ⊎
        (IsBelowAllButOne h xs × AllByRecursion (λ r. IsBelow h r.corner) ys)
    split [] ys l = inl (tt, l)
    split (x ∷ xs) ys (inl p) =
        ⊎_elim (λ q. inl ((p.0, q.0), q.1)) (λ q. inr (inl (p.0, q.0), q.1)) (split xs ys p.1)
    split (x ∷ xs) ys (inr p) =
        inr (inr (each-front (λ r. IsBelow h r.corner) xs ys p), each-back (λ r. IsBelow h r.corner) xs ys p)

-- ---- the ring begun before a side
pub record Seat (n h : Plane) (xs : List Side) (c : Side) : Type 1 where
  pub before : Side
  pub behind : Side
  pub others : List Side
  pub sound : IsConvexRing n (before ∷ c ∷ behind ∷ others)
  pub lone : IsBelowAllButOne h (before ∷ c ∷ behind ∷ others)
  pub move : (P : Side → Type 0) → AllByRecursion P xs → AllByRecursion P (before ∷ c ∷ behind ∷ others)

side_has_neighbours : (n h : Plane) (us : List Side) (c : Side) (ws : List Side) → IsConvexRing n (us ++ c ∷ ws) →
    IsBelowAllButOne h (us ++ c ∷ ws) → Seat n h (us ++ c ∷ ws) c
side_has_neighbours n h us c ws s l =
    by (ws ++ us) (turned_by n us (c ∷ ws) s) (lone-turned h us (c ∷ ws) l) (λ P e. each-turned P us (c ∷ ws) e)
  where
    whole : List Side
    whole = us ++ c ∷ ws

    third : (q : Side) (rest : List Side) → IsConvexRing n (q ∷ c ∷ rest) → IsBelowAllButOne h (q ∷ c ∷ rest) →
        ((P : Side → Type 0) → AllByRecursion P whole → AllByRecursion P (q ∷ c ∷ rest)) → Seat n h whole c
    third q [] s l m = absurd s.0
    third q (y ∷ ys) s l m = record { before = q; behind = y; others = ys; sound = s; lone = l; move = m }

    by : (rest : List Side) → IsConvexRing n (c ∷ rest) → IsBelowAllButOne h (c ∷ rest) →
        ((P : Side → Type 0) → AllByRecursion P whole → AllByRecursion P (c ∷ rest)) → Seat n h whole c
    by [] s l m = absurd s
    by (y ∷ ys) s l m =
        let e = last_of y ys in
        third e.last e.front (turned_by n (c ∷ e.front) (e.last ∷ []) (subst (λ zs. IsConvexRing n (c ∷ zs)) e.split s))
        (lone-turned h (c ∷ e.front) (e.last ∷ []) (subst (λ zs. IsBelowAllButOne h (c ∷ zs)) e.split l))
        (λ P a. each-turned P (c ∷ e.front) (e.last ∷ []) (subst (λ zs. AllByRecursion P (c ∷ zs)) e.split (m P a)))

-- ---- a zero at one corner alone
zeros : (cw i j k hx hy hz hc r : ℤ) → pos 0 <ℤ cw → pos 0 ≤ℤ j → pos 0 ≤ℤ k → hy <ℤ pos 0 → hz <ℤ pos 0 → hx ≡ pos 0 →
    hc ≡ pos 0 → cw *ℤ (i *ℤ hx -ℤ j *ℤ hy -ℤ k *ℤ hz) ≡ r *ℤ hc → (j ≡ pos 0) × (k ≡ pos 0)
zeros cw i j k hx hy hz hc r pw pj pk py pz ex ec e = (
  by_sign j (λ p. absurd (clash (first p))) (λ z. z) (λ p. absurd (omega (arith, linear, p, pj))),
  by_sign k (λ p. absurd (clash (second p))) (λ z. z) (λ p. absurd (omega (arith, linear, p, pk))),
)
  where
    sum : ℤ
    sum = neg_ℤ (j *ℤ hy) +ℤ neg_ℤ (k *ℤ hz)

    nothing : cw *ℤ (neg_ℤ (j *ℤ hy) +ℤ neg_ℤ (k *ℤ hz)) ≡ pos 0
    nothing =
        solve 6 (λ cw i j k hy hz. cw ⊗ (neg (j ⊗ hy) ⊕ neg (k ⊗ hz)) ≈ cw ⊗ (i ⊗ num (pos 0) ⊖ j ⊗ hy ⊖ k ⊗ hz))
        cancels cw i j k hy hz ∙ (subst (λ x. cw *ℤ (i *ℤ x -ℤ j *ℤ hy -ℤ k *ℤ hz) ≡ pos 0) ex
        (e ∙ rw ec (solve 1 (λ r. r ⊗ num (pos 0) ≈ num (pos 0)) cancels r)))

    clash : pos 0 <ℤ (neg_ℤ (j *ℤ hy) +ℤ neg_ℤ (k *ℤ hz)) → ⊥
    clash p = absurd (omega (arith, linear, pos_mul pw p, nothing))

    lower : {a b : ℤ} → pos 0 ≤ℤ a → b <ℤ pos 0 → pos 0 ≤ℤ neg_ℤ (a *ℤ b)
    lower {a} {b} p q =
        let m : pos 0 ≤ℤ neg_ℤ b = omega (arith, linear) in
        omega (arith, linear, nonneg_mul p m, solve 2 (λ a b. a ⊗ neg b ≈ neg (a ⊗ b)) cancels a b)

    first : pos 0 <ℤ j → pos 0 <ℤ (neg_ℤ (j *ℤ hy) +ℤ neg_ℤ (k *ℤ hz))
    first p = omega (arith, linear, mul_pos_neg p py, lower pk pz)

    second : pos 0 <ℤ k → pos 0 <ℤ (neg_ℤ (j *ℤ hy) +ℤ neg_ℤ (k *ℤ hz))
    second p = omega (arith, linear, mul_pos_neg p pz, lower pj py)

lone_next : (h : Plane) (q c y : Side) (xs : List Side) → IsBelowAllButOne h (q ∷ c ∷ y ∷ xs) →
    value_at h c.corner ≡ pos 0 → IsBelow h q.corner × IsBelow h y.corner
lone_next h q c y xs (inl p) e = (p.0, next p.1)
  where
    next : IsBelowAllButOne h (c ∷ y ∷ xs) → IsBelow h y.corner
    next (inl r) = absurd (omega (arith, linear, r.0.under, e))
    next (inr r) = r.0
lone_next h q c y xs (inr p) e = absurd (omega (arith, linear, p.0.under, e))

-- a closed zero is the corner
at_corner : (n h : Plane) (q c y : Side) (xs : List Side) → IsConvexRing n (q ∷ c ∷ y ∷ xs) →
    IsBelowAllButOne h (q ∷ c ∷ y ∷ xs) → value_at h c.corner ≡ pos 0 → (x : Spot) → IsInClosedRing n (q ∷ c ∷ y ∷ xs) x →
    value_at h x ≡ pos 0 → (e : Plane) → c.corner.w *ℤ value_at e x ≡ x.w *ℤ value_at e c.corner
at_corner n h q c y xs s l z x k hx e =
    let root = ring-rooted n (q ∷ c ∷ y ∷ xs) s in let u = lone_next h q c y xs l z in
    let ay : value_at q.plane y.corner <ℤ pos 0 = s.1.1.0.under in
    let bz : value_at c.plane q.corner <ℤ pos 0 = (each-back (λ r. IsBelow c.plane r.corner) xs (q ∷ []) s.2.1).0.under in
    let w = wedge_point_is_below n q.plane c.plane h c.corner x y.corner q.corner (positive_nonzero s.1.0.turns) root.1.0.flat
    k.flat root.1.1.0.flat root.0.flat s.1.0.before root.1.0.after root.0.after s.2.0.before in
    let p = zeros c.corner.w (value_at q.plane y.corner *ℤ value_at c.plane q.corner)
    (value_at q.plane x *ℤ value_at c.plane q.corner) (value_at q.plane y.corner *ℤ value_at c.plane x) (value_at h x)
    (value_at h y.corner) (value_at h q.corner) (value_at h c.corner) _ root.1.0.weight
    (down k.within.0.at_most (most bz)) (down (most ay) k.within.1.0.at_most) u.1.under u.0.under hx z w in
    same_place n q.plane c.plane (positive_nonzero s.1.0.turns) e c.corner x root.1.0.flat s.1.0.before root.1.0.after k.flat
    (⊎_elim (λ a. a) (λ b. absurd (below bz b)) (zero_product p.0))
    (⊎_elim (λ a. absurd (below ay a)) (λ b. b) (zero_product p.1))
  where
    most : {a : ℤ} → a <ℤ pos 0 → a ≤ℤ pos 0
    most q = omega (arith, linear, q)

    below : {a : ℤ} → a <ℤ pos 0 → a ≡ pos 0 → ⊥
    below p e = absurd (omega (arith, linear, p, e))

    down : {a b : ℤ} → a ≤ℤ pos 0 → b ≤ℤ pos 0 → pos 0 ≤ℤ (a *ℤ b)
    down {a} {b} p q =
        let m : pos 0 ≤ℤ neg_ℤ a = omega (arith, linear) in let n : pos 0 ≤ℤ neg_ℤ b = omega (arith, linear) in
        omega (arith, linear, nonneg_mul m n, solve 2 (λ a b. neg a ⊗ neg b ≈ a ⊗ b) cancels a b)

-- such a plane is 0 at one place of the closed ring at most
pub one_place : (n h : Plane) (xs : List Side) → IsConvexRing n xs → AllByRecursion (λ r. IsNotAbove h r.corner) xs →
    IsBelowAllButOne h xs → (u v : Spot) (e : Plane) → IsInClosedRing n xs u → IsInClosedRing n xs v →
    value_at h u ≡ pos 0 → value_at h v ≡ pos 0 → u.w *ℤ value_at e v ≡ v.w *ℤ value_at e u
one_place n h [] s a l u v e ku kv hu hv = absurd s
one_place n h (x ∷ xs) s a l u v e ku kv hu hv = by (find_best n h x xs (ring-rooted n (x ∷ xs) s))
  where
    zero_at : (cw hc hu uw : ℤ) → pos 0 <ℤ uw → hc ≤ℤ pos 0 → hu ≡ pos 0 → (hu *ℤ cw) ≤ℤ (hc *ℤ uw) → hc ≡ pos 0
    zero_at cw hc hu uw p q z l =
        by_sign hc (λ r. absurd (omega (arith, linear, r, q))) (λ r. r) (λ r. absurd (omega (arith, linear, below r)))
      where
        below : hc <ℤ pos 0 → ⊥
        below r =
            let m : (pos 0 *ℤ cw) ≤ℤ (hc *ℤ uw) = subst (λ z. (z *ℤ cw) ≤ℤ (hc *ℤ uw)) z l in
            absurd (omega (arith, linear, m, mul_neg_pos r p, solve 1 (λ c. num (pos 0) ⊗ c ≈ num (pos 0)) cancels cw))

    join : (cw uw vw eu ev ec : ℤ) → pos 0 <ℤ cw → cw *ℤ eu ≡ uw *ℤ ec → cw *ℤ ev ≡ vw *ℤ ec → uw *ℤ ev ≡ vw *ℤ eu
    join cw uw vw eu ev ec p a b =
        cancel_eq (positive_nonzero p) (solve 3 (λ cw uw ev. cw ⊗ (uw ⊗ ev) ≈ uw ⊗ (cw ⊗ ev)) cancels cw uw ev
        ∙ rw b (solve 3 (λ uw vw ec. uw ⊗ (vw ⊗ ec) ≈ vw ⊗ (uw ⊗ ec)) cancels uw vw ec
        ∙ rw (← a) (solve 3 (λ vw cw eu. vw ⊗ (cw ⊗ eu) ≈ cw ⊗ (vw ⊗ eu)) cancels vw cw eu)))

    by : Best h (x ∷ xs) → u.w *ℤ value_at e v ≡ v.w *ℤ value_at e u
    by b =
        let g = best_above n h u (x ∷ xs) b s ku in
        let t = side_has_neighbours n h b.before b.at b.behind (subst (λ ys. IsConvexRing n ys) b.split s) (subst (λ ys. IsBelowAllButOne h ys) b.split l) in
        let here = (each-back (λ r. IsNotAbove h r.corner) b.before (b.at ∷ b.behind)
        (subst (λ ys. AllByRecursion (λ r. IsNotAbove h r.corner) ys) b.split a)).0 in
        let z = zero_at b.at.corner.w (value_at h b.at.corner) (value_at h u) u.w ku.weight here.at_most hu g.not_above in
        let moved : (w : Spot) → IsInClosedRing n (x ∷ xs) w →
        IsInClosedRing n (t.before ∷ b.at ∷ t.behind ∷ t.others) w =
        λ w k. record {
          flat = k.flat;
          weight = k.weight;
          within =
              t.move (λ r. IsNotAbove r.plane w) (subst (λ ys. AllByRecursion (λ r. IsNotAbove r.plane w) ys) b.split
              k.within);
        } in
        let root = ring-rooted n (t.before ∷ b.at ∷ t.behind ∷ t.others) t.sound in
        join b.at.corner.w u.w v.w (value_at e u) (value_at e v) (value_at e b.at.corner) root.1.0.weight
        (at_corner n h t.before b.at t.behind t.others t.sound t.lone z u (moved u ku) hu e)
        (at_corner n h t.before b.at t.behind t.others t.sound t.lone z v (moved v kv) hv e)
