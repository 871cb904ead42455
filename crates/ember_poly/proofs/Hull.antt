-- A plane is greatest at a corner of the ring; so the signs at the corners decide those at all points.
use Rattle.std.proofs.Common.{◌≡◌, ◌≢◌, refl, sym, ap, List, [], ◌∷◌, ◌++◌, ◌∙◌, arith, ℤ, pos, ◌-ℤ◌, ◌*ℤ◌, neg_ℤ, ◌<ℤ◌, ◌≤ℤ◌}
use Rattle.std.proofs.lemmas.Int.{by_lt_z}
use Rattle.std.specs.List.{AllByRecursion}
use Rattle.ember_model.specs.declared.plane.Plane.{Plane}
use Rattle.ember_model.specs.declared.point.Spot.{Spot}
use Rattle.ember_model.specs.Planes.{value_at}
use Rattle.ember_algebra.proofs.Laws.{linear}
use Rattle.ember_algebra.proofs.Ring.{Expr, ◌⊕◌, ◌⊖◌, ◌⊗◌, neg, num, ◌≈◌, solve, cancels}
use Rattle.ember_algebra.proofs.Vectors.{scalar, tuple, identity, TupleE, valueE}
use Rattle.ember_algebra.proofs.Order.{nonneg_mul, mul_le, cancel_le, mul_neg_neg}
use Rattle.ember_model.proofs.Tuples.{plane_tuple, spot_tuple}
use Rattle.ember_model.proofs.SignTests.{positive_nonzero}
use Rattle.ember_poly.specs.Rings.{Side, IsBelow, IsNotAbove, IsInClosedRing, IsNotHigher, IsSideChain, IsConvexRing, orientation}
use Rattle.ember_poly.proofs.Planar.{same_place}
use Rattle.ember_poly.proofs.Chains.{each_both, each-back}
use Rattle.ember_poly.proofs.Rotations.{turned_by, each-turned}
use Rattle.ember_poly.proofs.RingBelow.{Rooted, corner_of_is_rooted}

-- ---- all corners are corners
chain-rooted : (n g : Plane) (xs : List Side) → IsSideChain n g xs → AllByRecursion (λ s. Rooted n s) xs
chain-rooted n g [] c = tt
chain-rooted n g (s ∷ xs) c = (corner_of_is_rooted c.0, chain-rooted n s.plane xs c.3)

-- the corner of each side of a convex ring lies on its plane and on the ring's
pub ring-rooted : (n : Plane) (xs : List Side) → IsConvexRing n xs → AllByRecursion (λ s. Rooted n s) xs
ring-rooted n [] h = absurd h
ring-rooted n (s ∷ []) h = absurd h
ring-rooted n (s ∷ t ∷ xs) h =
    ((each-back (λ s. Rooted n s) xs (s ∷ []) (chain-rooted n t.plane (xs ++ s ∷ []) h.2)).0, chain-rooted n s.plane (t ∷ xs) h.1)

-- ---- where a plane is greatest
pub record Best (p : Plane) (xs : List Side) : Type 0 where
  pub before : List Side
  pub at : Side
  pub behind : List Side
  pub split : xs ≡ before ++ at ∷ behind
  pub best : AllByRecursion (λ r. IsNotHigher p r.corner at.corner) xs

above_trans : (p : Plane) (u v w : Spot) → pos 0 <ℤ u.w → pos 0 <ℤ v.w → pos 0 <ℤ w.w → IsNotHigher p u v → IsNotHigher p v w → IsNotHigher p u w
above_trans p u v w a b c h k =
    record { not_above = chain (value_at p u) (value_at p v) (value_at p w) u.w v.w w.w a b c h.not_above k.not_above }
  where
    chain : (x y z a b c : ℤ) → pos 0 <ℤ a → pos 0 <ℤ b → pos 0 <ℤ c → (x *ℤ b) ≤ℤ (y *ℤ a) → (y *ℤ c) ≤ℤ (z *ℤ b) → (x *ℤ c) ≤ℤ (z *ℤ a)
    chain x y z a b c p q r h k =
        let pa : pos 0 ≤ℤ a = omega (arith, linear, p) in let pc : pos 0 ≤ℤ c = omega (arith, linear, r) in
        cancel_le q (omega (
          arith,
          linear,
          mul_le pc h,
          mul_le pa k,
          solve 3 (λ x b c. c ⊗ (x ⊗ b) ≈ b ⊗ (x ⊗ c)) cancels x b c,
          solve 3 (λ y a c. c ⊗ (y ⊗ a) ≈ a ⊗ (y ⊗ c)) cancels y a c,
          solve 3 (λ z a b. a ⊗ (z ⊗ b) ≈ b ⊗ (z ⊗ a)) cancels z a b,
        ))

above_self : (p : Plane) (v : Spot) → IsNotHigher p v v
above_self p v = record { not_above = le (value_at p v *ℤ v.w) }
  where
    le : (x : ℤ) → x ≤ℤ x
    le x = omega (arith, linear)

-- of the corners of a ring, one is such that none is higher over a plane
pub find_best : (n p : Plane) (s : Side) (xs : List Side) → AllByRecursion (λ r. Rooted n r) (s ∷ xs) → Best p (s ∷ xs)
find_best n p s [] h =
    record { before = []; at = s; behind = []; split = refl; best = (above_self p s.corner, tt) }
find_best n p s (t ∷ xs) h = choose (find_best n p t xs h.1)
  where
    choose : Best p (t ∷ xs) → Best p (s ∷ t ∷ xs)
    choose b =
        by_lt_z (value_at p b.at.corner *ℤ s.corner.w) (value_at p s.corner *ℤ b.at.corner.w)
        (λ l. record {
          before = [];
          at = s;
          behind = t ∷ xs;
          split = refl;
          best = (
            above_self p s.corner,
            each_both (λ r. Rooted n r) (λ r. IsNotHigher p r.corner b.at.corner)
                (λ r. IsNotHigher p r.corner s.corner) (t ∷ xs)
                (λ r w a. above_trans p r.corner b.at.corner s.corner w.weight (weight b) h.0.weight a
                (record { not_above = weaken l })) h.1 b.best,
          );
        })
        (λ l. record { before = s ∷ b.before; at = b.at; behind = b.behind; split = ap (λ ys. s ∷ ys) b.split; best = (record { not_above = l }, b.best) })
      where
        weaken : {x y : ℤ} → x <ℤ y → x ≤ℤ y
        weaken q = omega (arith, linear, q)

        weight : (b : Best p (t ∷ xs)) → pos 0 <ℤ b.at.corner.w
        weight b =
            let r : AllByRecursion (λ r. Rooted n r) (b.before ++ b.at ∷ b.behind) = rw (← b.split) h.1 in
            (each-back (λ r. Rooted n r) b.before (b.at ∷ b.behind) r).0.weight

-- ---- the corner c, between the edges of a and c, where p is greatest
abbrev pub blend : ℤ → ℤ → ℤ → Spot → Spot → Spot → Spot
blend i j k x y z =
    record {
      x = i *ℤ x.x -ℤ j *ℤ y.x -ℤ k *ℤ z.x;
      y = i *ℤ x.y -ℤ j *ℤ y.y -ℤ k *ℤ z.y;
      z =
          i *ℤ x.z -ℤ j *ℤ y.z -ℤ k *ℤ z.z;
      w = i *ℤ x.w -ℤ j *ℤ y.w -ℤ k *ℤ z.w;
    }

abbrev blendE : Expr → Expr → Expr → TupleE → TupleE → TupleE → TupleE
blendE i j k x y z =
    record { x = i ⊗ x.x ⊖ j ⊗ y.x ⊖ k ⊗ z.x; y = i ⊗ x.y ⊖ j ⊗ y.y ⊖ k ⊗ z.y; z = i ⊗ x.z ⊖ j ⊗ y.z ⊖ k ⊗ z.z; w = i ⊗ x.w ⊖ j ⊗ y.w ⊖ k ⊗ z.w }

-- a plane's value at a combination of three points is that combination of its values
pub blend_value : (i j k : ℤ) (x y z : Spot) (e : Plane) → value_at e (blend i j k x y z) ≡ i *ℤ value_at e x -ℤ j *ℤ value_at e y -ℤ k *ℤ value_at e z
blend_value i j k x y z e =
    identity (scalar ∷ scalar ∷ scalar ∷ tuple ∷ tuple ∷ tuple ∷ tuple ∷ [])
    (λ i j k x y z e. valueE e (blendE i j k x y z) ≈ i ⊗ valueE e x ⊖ j ⊗ valueE e y ⊖ k ⊗ valueE e z) cancels i j k
    (spot_tuple x) (spot_tuple y) (spot_tuple z) (plane_tuple e)

-- x is in the corner's wedge_point_is_below: a and b are the edges, z the corner before, y the one behind
pub wedge_point_is_below : (n a b p : Plane) (c x y z : Spot) → orientation n a b ≢ pos 0 → value_at n c ≡ pos 0 →
    value_at n x ≡ pos 0 → value_at n y ≡ pos 0 → value_at n z ≡ pos 0 → value_at a c ≡ pos 0 → value_at b c ≡ pos 0 →
    value_at a z ≡ pos 0 → value_at b y ≡ pos 0 → c.w *ℤ
    ((value_at a y *ℤ value_at b z) *ℤ value_at p x -ℤ (value_at a x *ℤ value_at b z) *ℤ value_at p y -ℤ
    (value_at a y *ℤ value_at b x) *ℤ value_at p z)
    ≡ ((value_at a y *ℤ value_at b z) *ℤ x.w -ℤ (value_at a x *ℤ value_at b z) *ℤ y.w -ℤ (value_at a y *ℤ value_at b x) *ℤ
    z.w) *ℤ value_at p c
wedge_point_is_below n a b p c x y z t nc nx ny nz ac bc az by =
    let i = value_at a y *ℤ value_at b z in let j = value_at a x *ℤ value_at b z in let k = value_at a y *ℤ value_at b x in
    let r = blend i j k x y z in
    let nr : value_at n r ≡ pos 0 = blend_value i j k x y z n ∙ flat i j k nx ny nz in
    let ar : value_at a r ≡ pos 0 = blend_value i j k x y z a ∙ first (value_at a x) (value_at a y) (value_at b x) (value_at b z) az in
    let br : value_at b r ≡ pos 0 = blend_value i j k x y z b ∙ second (value_at a x) (value_at a y) (value_at b x) (value_at b z) by in
    ap (λ (v : ℤ). c.w *ℤ v) (sym (blend_value i j k x y z p)) ∙ same_place n a b t p c r nc ac bc nr ar br
  where
    flat : (i j k : ℤ) {u v w : ℤ} → u ≡ pos 0 → v ≡ pos 0 → w ≡ pos 0 → i *ℤ u -ℤ j *ℤ v -ℤ k *ℤ w ≡ pos 0
    flat i j k e f g =
        rw (e, f, g) (solve 3 (λ i j k. i ⊗ num (pos 0) ⊖ j ⊗ num (pos 0) ⊖ k ⊗ num (pos 0) ≈ num (pos 0)) cancels i j k)

    first : (ax ay bx bz : ℤ) {az : ℤ} → az ≡ pos 0 → (ay *ℤ bz) *ℤ ax -ℤ (ax *ℤ bz) *ℤ ay -ℤ (ay *ℤ bx) *ℤ az ≡ pos 0
    first ax ay bx bz e =
        rw e (solve 4 (λ ax ay bx bz. (ay ⊗ bz) ⊗ ax ⊖ (ax ⊗ bz) ⊗ ay ⊖ (ay ⊗ bx) ⊗ num (pos 0) ≈ num (pos 0)) cancels ax ay bx bz)

    second : (ax ay bx bz : ℤ) {by : ℤ} → by ≡ pos 0 → (ay *ℤ bz) *ℤ bx -ℤ (ax *ℤ bz) *ℤ by -ℤ (ay *ℤ bx) *ℤ bz ≡ pos 0
    second ax ay bx bz e =
        rw e (solve 4 (λ ax ay bx bz. (ay ⊗ bz) ⊗ bx ⊖ (ax ⊗ bz) ⊗ num (pos 0) ⊖ (ay ⊗ bx) ⊗ bz ≈ num (pos 0)) cancels ax ay bx bz)

greatest : (i j k cw pc px xw py yw pz zw : ℤ) → pos 0 <ℤ i → pos 0 ≤ℤ j → pos 0 ≤ℤ k → (py *ℤ cw) ≤ℤ (pc *ℤ yw) →
    (pz *ℤ cw) ≤ℤ (pc *ℤ zw) → cw *ℤ (i *ℤ px -ℤ j *ℤ py -ℤ k *ℤ pz) ≡ (i *ℤ xw -ℤ j *ℤ yw -ℤ k *ℤ zw) *ℤ pc →
    (px *ℤ cw) ≤ℤ (pc *ℤ xw)
greatest i j k cw pc px xw py yw pz zw pi pj pk hy hz e =
    let l = solve 11 (λ i j k cw pc px xw py yw pz zw. i ⊗ (px ⊗ cw) ⊖ i ⊗ (pc ⊗ xw) ≈ cw ⊗ (i ⊗ px ⊖ j ⊗ py ⊖ k ⊗ pz) ⊖
    (i ⊗ xw ⊖ j ⊗ yw ⊖ k ⊗ zw) ⊗ pc ⊕ j ⊗ (py ⊗ cw) ⊖ j ⊗ (pc ⊗ yw) ⊕ k ⊗ (pz ⊗ cw) ⊖ k ⊗ (pc ⊗ zw)) cancels i j k cw
    pc px xw py yw pz zw in
    cancel_le pi (omega (arith, linear, l, e, mul_le pj hy, mul_le pk hz))

corner_greatest : (n p : Plane) (q c y : Side) (xs : List Side) (x : Spot) → IsConvexRing n (q ∷ c ∷ y ∷ xs) →
    IsNotHigher p q.corner c.corner → IsNotHigher p y.corner c.corner → IsInClosedRing n (q ∷ c ∷ y ∷ xs) x →
    IsNotHigher p x c.corner
corner_greatest n p q c y xs x h bq by k =
    let root = ring-rooted n (q ∷ c ∷ y ∷ xs) h in
    let ay : value_at q.plane y.corner <ℤ pos 0 = h.1.1.0.under in
    let bz : value_at c.plane q.corner <ℤ pos 0 = (each-back (λ r. IsBelow c.plane r.corner) xs (q ∷ []) h.2.1).0.under in
    let ax : value_at q.plane x ≤ℤ pos 0 = k.within.0.at_most in
    let bx : value_at c.plane x ≤ℤ pos 0 = k.within.1.0.at_most in
    let e = wedge_point_is_below n q.plane c.plane p c.corner x y.corner q.corner (positive_nonzero h.1.0.turns) root.1.0.flat
    k.flat root.1.1.0.flat root.0.flat h.1.0.before root.1.0.after root.0.after h.2.0.before in
    record {
      not_above = greatest (value_at q.plane y.corner *ℤ value_at c.plane q.corner)
          (value_at q.plane x *ℤ value_at c.plane q.corner) (value_at q.plane y.corner *ℤ value_at c.plane x) c.corner.w
          (value_at p c.corner) (value_at p x) x.w (value_at p y.corner) y.corner.w (value_at p q.corner) q.corner.w
          (mul_neg_neg ay bz) (down ax (most bz)) (down (most ay) bx) by.not_above bq.not_above e;
    }
  where
    most : {a : ℤ} → a <ℤ pos 0 → a ≤ℤ pos 0
    most q = omega (arith, linear, q)

    down : {a b : ℤ} → a ≤ℤ pos 0 → b ≤ℤ pos 0 → pos 0 ≤ℤ (a *ℤ b)
    down {a} {b} p q =
        let m : pos 0 ≤ℤ neg_ℤ a = omega (arith, linear) in let n : pos 0 ≤ℤ neg_ℤ b = omega (arith, linear) in
        omega (arith, linear, nonneg_mul m n, solve 2 (λ a b. neg a ⊗ neg b ≈ a ⊗ b) cancels a b)

-- ---- the whole ring
pub record LastOf (xs : List Side) : Type 0 where
  pub front : List Side
  pub last : Side
  pub split : xs ≡ front ++ last ∷ []

-- a list that isn't empty has a last member
pub last_of : (x : Side) (xs : List Side) → LastOf (x ∷ xs)
last_of x [] = record { front = []; last = x; split = refl }
last_of x (y ∷ xs) =
    let l = last_of y xs in
    record { front = x ∷ l.front; last = l.last; split = ap (λ ys. x ∷ ys) l.split }

-- begun at the side before c
at_second : (n p : Plane) (x : Spot) (q c : Side) (rest : List Side) → IsConvexRing n (q ∷ c ∷ rest) →
    AllByRecursion (λ r. IsNotHigher p r.corner c.corner) (q ∷ c ∷ rest) → IsInClosedRing n (q ∷ c ∷ rest) x →
    IsNotHigher p x c.corner
at_second n p x q c [] h b k = absurd h.0
at_second n p x q c (y ∷ xs) h b k = corner_greatest n p q c y xs x h b.0 b.1.1.0 k

-- the closed ring is the same from another first side
pub closed_turned : (n : Plane) (x : Spot) (xs ys : List Side) → IsInClosedRing n (xs ++ ys) x → IsInClosedRing n (ys ++ xs) x
closed_turned n x xs ys k =
    record { flat = k.flat; weight = k.weight; within = each-turned (λ s. IsNotAbove s.plane x) xs ys k.within }

at_first : (n p : Plane) (x : Spot) (c : Side) (rest : List Side) → IsConvexRing n (c ∷ rest) →
    AllByRecursion (λ r. IsNotHigher p r.corner c.corner) (c ∷ rest) → IsInClosedRing n (c ∷ rest) x →
    IsNotHigher p x c.corner
at_first n p x c [] h b k = absurd h
at_first n p x c (y ∷ ys) h b k =
    let l = last_of y ys in
    let h' : IsConvexRing n ((c ∷ l.front) ++ l.last ∷ []) = rw (← l.split) h in
    let b' : AllByRecursion (λ r. IsNotHigher p r.corner c.corner) ((c ∷ l.front) ++ l.last ∷ []) = rw (← l.split) b in
    let k' : IsInClosedRing n ((c ∷ l.front) ++ l.last ∷ []) x = rw (← l.split) k in
    at_second n p x l.last c l.front (turned_by n (c ∷ l.front) (l.last ∷ []) h')
    (each-turned (λ r. IsNotHigher p r.corner c.corner) (c ∷ l.front) (l.last ∷ []) b')
    (closed_turned n x (c ∷ l.front) (l.last ∷ []) k')

-- the best side's corner is not below x
pub best_above : (n p : Plane) (x : Spot) (xs : List Side) (b : Best p xs) → IsConvexRing n xs → IsInClosedRing n xs x → IsNotHigher p x b.at.corner
best_above n p x xs b h k =
    let h' : IsConvexRing n (b.before ++ b.at ∷ b.behind) = rw (← b.split) h in
    let e' : AllByRecursion (λ r. IsNotHigher p r.corner b.at.corner) (b.before ++ b.at ∷ b.behind) = rw (← b.split) b.best in
    let k' : IsInClosedRing n (b.before ++ b.at ∷ b.behind) x = rw (← b.split) k in
    at_first n p x b.at (b.behind ++ b.before) (turned_by n b.before (b.at ∷ b.behind) h')
    (each-turned (λ r. IsNotHigher p r.corner b.at.corner) b.before (b.at ∷ b.behind) e')
    (closed_turned n x b.before (b.at ∷ b.behind) k')

-- a plane that is at most 0 at each corner is at most 0 at each closed point
pub corners_at_most : (n p : Plane) (x : Spot) (xs : List Side) → IsConvexRing n xs →
    AllByRecursion (λ r. IsNotAbove p r.corner) xs → IsInClosedRing n xs x → IsNotAbove p x
corners_at_most n p x [] h a k = absurd h
corners_at_most n p x (s ∷ xs) h a k = by (find_best n p s xs (ring-rooted n (s ∷ xs) h))
  where
    fall : (px cw pc xw : ℤ) → pos 0 <ℤ cw → pos 0 <ℤ xw → pc ≤ℤ pos 0 → (px *ℤ cw) ≤ℤ (pc *ℤ xw) → px ≤ℤ pos 0
    fall px cw pc xw p q r h =
        let m : pos 0 ≤ℤ neg_ℤ pc = omega (arith, linear) in let u : pos 0 ≤ℤ xw = omega (arith, linear) in
        cancel_le p (omega (
          arith,
          linear,
          h,
          nonneg_mul m u,
          solve 2 (λ pc xw. neg pc ⊗ xw ≈ neg (pc ⊗ xw)) cancels pc xw,
          solve 2 (λ cw px. cw ⊗ px ≈ px ⊗ cw) cancels cw px,
          solve 1 (λ cw. cw ⊗ num (pos 0) ≈ num (pos 0)) cancels cw,
        ))

    by : Best p (s ∷ xs) → IsNotAbove p x
    by b =
        let g = best_above n p x (s ∷ xs) b h k in
        let a' : AllByRecursion (λ r. IsNotAbove p r.corner) (b.before ++ b.at ∷ b.behind) = rw (← b.split) a in
        let w' : AllByRecursion (λ r. Rooted n r) (b.before ++ b.at ∷ b.behind) = rw (← b.split) (ring-rooted n (s ∷ xs) h) in
        let here = (each-back (λ r. IsNotAbove p r.corner) b.before (b.at ∷ b.behind) a').0 in
        let root = (each-back (λ r. Rooted n r) b.before (b.at ∷ b.behind) w').0 in
        record { at_most = fall (value_at p x) b.at.corner.w (value_at p b.at.corner) x.w root.weight k.weight here.at_most g.not_above }
