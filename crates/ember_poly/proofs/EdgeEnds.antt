-- An edge's start and end: the corner of its side, and the next one.
use Rattle.std.proofs.Common.{◌≡◌, List, [], ◌∷◌, ◌∙◌, arith, ℤ, pos, ◌+ℤ◌, ◌-ℤ◌, ◌*ℤ◌, neg_ℤ, ◌<ℤ◌, ◌≤ℤ◌}
use Rattle.std.proofs.lemmas.Int.{by_lt_z}
use Rattle.ember_model.specs.declared.plane.Plane.{Plane}
use Rattle.ember_model.specs.declared.point.Spot.{Spot}
use Rattle.ember_model.specs.Planes.{value_at}
use Rattle.ember_algebra.proofs.Laws.{linear}
use Rattle.ember_algebra.proofs.Ring.{◌⊕◌, ◌⊖◌, ◌⊗◌, neg, num, ◌≈◌, solve, cancels}
use Rattle.ember_algebra.proofs.Vectors.{tuple, identity, TupleE, dotE, crossE, valueE}
use Rattle.ember_algebra.proofs.Order.{by_sign, pos_mul, nonneg_mul, square_nonneg, mul_pos_neg, mul_neg_neg}
use Rattle.ember_model.specs.Edges.{position_along, IsBefore, IsNotAfter}
use Rattle.ember_model.proofs.Tuples.{plane_tuple, spot_tuple, normalE}
use Rattle.ember_poly.specs.Rings.{Side, IsConvexRing, IsInClosedRing, IsNotHigher, orientation, edge_direction}
use Rattle.ember_poly.proofs.Planar.{turnE}
use Rattle.ember_poly.proofs.CutOrientation.{value_difference_by_orientation}
use Rattle.ember_poly.proofs.Hull.{ring-rooted}

-- the line of two planes on expressions
abbrev pub alongE : TupleE → TupleE → TupleE
alongE n g =
    record { x = n.y ⊗ g.z ⊖ n.z ⊗ g.y; y = n.z ⊗ g.x ⊖ n.x ⊗ g.z; z = n.x ⊗ g.y ⊖ n.y ⊗ g.x; w = num (pos 0) }

squares : (n g : Plane) → orientation n g (edge_direction n g) ≡ (edge_direction n g).a *ℤ (edge_direction n g).a +ℤ
    (edge_direction n g).b *ℤ (edge_direction n g).b +ℤ (edge_direction n g).c *ℤ (edge_direction n g).c
squares n g =
    identity (tuple ∷ tuple ∷ []) (λ n g. turnE n g (alongE n g) ≈ (alongE n g).x ⊗ (alongE n g).x ⊕ (alongE n g).y ⊗
    (alongE n g).y ⊕ (alongE n g).z ⊗ (alongE n g).z) cancels (plane_tuple n) (plane_tuple g)

turns_along : (n g : Plane) → pos 0 ≤ℤ orientation n g (edge_direction n g)
turns_along n g =
    rw (squares n g) (sum (square_nonneg (edge_direction n g).a) (square_nonneg (edge_direction n g).b) (square_nonneg (edge_direction n g).c))
  where
    sum : {a b c : ℤ} → pos 0 ≤ℤ a → pos 0 ≤ℤ b → pos 0 ≤ℤ c → pos 0 ≤ℤ (a +ℤ b +ℤ c)
    sum p q r = omega (arith, linear, p, q, r)

-- t (v a - w b) = - (s d), where t >= 0, s > 0, v >= 0, a <= 0, b = 0: then d >= 0
rises : (t s v w a b d : ℤ) → pos 0 ≤ℤ t → pos 0 <ℤ s → pos 0 ≤ℤ v → a ≤ℤ pos 0 → b ≡ pos 0 → t *ℤ (v *ℤ a -ℤ w *ℤ b) ≡ neg_ℤ (s *ℤ d) → pos 0 ≤ℤ d
rises t s v w a b d pt ps pv pa eb e =
    by_lt_z d (pos 0) (λ l. absurd (by l)) (λ l. l)
  where
    by : d <ℤ pos 0 → ⊥
    by l =
        let m : pos 0 ≤ℤ neg_ℤ a = omega (arith, linear) in
        let z : t *ℤ (v *ℤ a -ℤ w *ℤ b) ≡ neg_ℤ (t *ℤ (v *ℤ neg_ℤ a)) =
        rw eb (solve 4 (λ t v w a. t ⊗ (v ⊗ a ⊖ w ⊗ num (pos 0)) ≈ neg (t ⊗ (v ⊗ neg a))) cancels t v w a) in
        absurd (omega (arith, linear, nonneg_mul pt (nonneg_mul pv m), mul_pos_neg ps l, z, e))

-- the edge g doesn't come before a point at which it meets q, if q turns to g
pub no_earlier : (n q g : Plane) (u x : Spot) → pos 0 <ℤ orientation n q g → value_at n u ≡ pos 0 →
    value_at n x ≡ pos 0 → value_at g u ≡ pos 0 → value_at g x ≡ pos 0 → value_at q u ≡ pos 0 → value_at q x ≤ℤ pos 0 →
    pos 0 <ℤ u.w → IsNotHigher (edge_direction n g) u x
no_earlier n q g u x t nu nx gu gx qu qx w =
    let z = edge_direction n g in
    let s = value_difference_by_orientation n g z q u x nu nx gu gx in
    record {
      not_above = order u.w (value_at z x) x.w (value_at z u)
          (rises (orientation n g z) (orientation n q g) u.w x.w (value_at q x) (value_at q u)
          (u.w *ℤ value_at z x -ℤ x.w *ℤ value_at z u) (turns_along n g) t (weaken w) qx qu s);
    }
  where
    weaken : {a : ℤ} → pos 0 <ℤ a → pos 0 ≤ℤ a
    weaken q = omega (arith, linear, q)

    order : (a b c d : ℤ) → pos 0 ≤ℤ (a *ℤ b -ℤ c *ℤ d) → (d *ℤ c) ≤ℤ (b *ℤ a)
    order a b c d p =
        omega (arith, linear, p, solve 2 (λ a b. a ⊗ b ≈ b ⊗ a) cancels a b, solve 2 (λ c d. c ⊗ d ≈ d ⊗ c) cancels c d)

-- no point of an edge is before the corner at which it starts
pub edge_start : (n : Plane) (q c y : Side) (xs : List Side) (x : Spot) → IsConvexRing n (q ∷ c ∷ y ∷ xs) →
    IsInClosedRing n (q ∷ c ∷ y ∷ xs) x → value_at c.plane x ≡ pos 0 → IsNotHigher (edge_direction n c.plane) c.corner x
edge_start n q c y xs x h k e =
    let root = ring-rooted n (q ∷ c ∷ y ∷ xs) h in
    no_earlier n q.plane c.plane c.corner x h.1.0.turns root.1.0.flat k.flat root.1.0.after e h.1.0.before k.within.0.at_most root.1.0.weight

-- no point of an edge is after the corner at which it ends
pub edge_end : (n : Plane) (q c y : Side) (xs : List Side) (x : Spot) → IsConvexRing n (q ∷ c ∷ y ∷ xs) →
    IsInClosedRing n (q ∷ c ∷ y ∷ xs) x → value_at c.plane x ≡ pos 0 → IsNotHigher (edge_direction n c.plane) x y.corner
edge_end n q c y xs x h k e =
    let root = ring-rooted n (q ∷ c ∷ y ∷ xs) h in let z = edge_direction n c.plane in
    let j = h.1.3.0 in
    let s = value_difference_by_orientation n c.plane z y.plane y.corner x root.1.1.0.flat k.flat j.before e in
    record {
      not_above = order y.corner.w (value_at z x) x.w (value_at z y.corner)
          (rises (orientation n c.plane z) (orientation n c.plane y.plane) y.corner.w x.w (value_at y.plane x)
          (value_at y.plane y.corner) (neg_ℤ (y.corner.w *ℤ value_at z x -ℤ x.w *ℤ value_at z y.corner))
          (turns_along n c.plane) j.turns (weaken root.1.1.0.weight) k.within.1.1.0.at_most j.after
          (s ∙ shape (orientation n y.plane c.plane) (orientation n c.plane y.plane)
          (y.corner.w *ℤ value_at z x -ℤ x.w *ℤ value_at z y.corner) (swap_middle n y.plane c.plane)));
    }
  where
    weaken : {a : ℤ} → pos 0 <ℤ a → pos 0 ≤ℤ a
    weaken q = omega (arith, linear, q)

    swap_middle : (n a b : Plane) → orientation n a b ≡ neg_ℤ (orientation n b a)
    swap_middle n a b = identity (tuple ∷ tuple ∷ tuple ∷ []) (λ n a b. turnE n a b ≈ neg (turnE n b a)) cancels (plane_tuple n) (plane_tuple a) (plane_tuple b)

    shape : (a b d : ℤ) → a ≡ neg_ℤ b → neg_ℤ (a *ℤ d) ≡ neg_ℤ (b *ℤ neg_ℤ d)
    shape a b d e = rw e (solve 2 (λ b d. neg (neg b ⊗ d) ≈ neg (b ⊗ neg d)) cancels b d)

    order : (a b c d : ℤ) → pos 0 ≤ℤ neg_ℤ (a *ℤ b -ℤ c *ℤ d) → (b *ℤ a) ≤ℤ (d *ℤ c)
    order a b c d p =
        omega (arith, linear, p, solve 2 (λ a b. a ⊗ b ≈ b ⊗ a) cancels a b, solve 2 (λ c d. c ⊗ d ≈ d ⊗ c) cancels c d)

-- ---- the end lies beyond the start
other_turn : (n q g : Plane) → orientation n q g ≡ neg_ℤ (q.a *ℤ (edge_direction n g).a +ℤ q.b *ℤ (edge_direction n g).b +ℤ q.c *ℤ (edge_direction n g).c)
other_turn n q g =
    identity (tuple ∷ tuple ∷ tuple ∷ []) (λ n q g. turnE n q g ≈ neg
    (q.x ⊗ (alongE n g).x ⊕ q.y ⊗ (alongE n g).y ⊕ q.z ⊗ (alongE n g).z)) cancels (plane_tuple n) (plane_tuple q)
    (plane_tuple g)

squares_positive : (a b c : ℤ) → (a ≡ pos 0 → b ≡ pos 0 → c ≡ pos 0 → ⊥) → pos 0 <ℤ (a *ℤ a +ℤ b *ℤ b +ℤ c *ℤ c)
squares_positive a b c n =
    by_sign a (λ p. one (mul_pos p)) (λ ea. by_sign b (λ p. two (mul_pos p))
    (λ eb. by_sign c (λ p. three (mul_pos p)) (λ ec. absurd (n ea eb ec)) (λ p. three (mul_neg_neg p p)))
    (λ p. two (mul_neg_neg p p))) (λ p. one (mul_neg_neg p p))
  where
    mul_pos : {x : ℤ} → pos 0 <ℤ x → pos 0 <ℤ (x *ℤ x)
    mul_pos p = pos_mul p p

    one : pos 0 <ℤ (a *ℤ a) → pos 0 <ℤ (a *ℤ a +ℤ b *ℤ b +ℤ c *ℤ c)
    one p = omega (arith, linear, p, square_nonneg b, square_nonneg c)

    two : pos 0 <ℤ (b *ℤ b) → pos 0 <ℤ (a *ℤ a +ℤ b *ℤ b +ℤ c *ℤ c)
    two p = omega (arith, linear, p, square_nonneg a, square_nonneg c)

    three : pos 0 <ℤ (c *ℤ c) → pos 0 <ℤ (a *ℤ a +ℤ b *ℤ b +ℤ c *ℤ c)
    three p = omega (arith, linear, p, square_nonneg a, square_nonneg b)

turns_along_strictly : (n q g : Plane) → pos 0 <ℤ orientation n q g → pos 0 <ℤ orientation n g (edge_direction n g)
turns_along_strictly n q g t =
    rw (squares n g) (squares_positive (edge_direction n g).a (edge_direction n g).b (edge_direction n g).c
    (λ ea eb ec. zero (other_turn n q g ∙ rw (ea, eb, ec) (nothing q.a q.b q.c))))
  where
    nothing : (x y z : ℤ) → neg_ℤ (x *ℤ pos 0 +ℤ y *ℤ pos 0 +ℤ z *ℤ pos 0) ≡ pos 0
    nothing = solve 3 (λ x y z. neg (x ⊗ num (pos 0) ⊕ y ⊗ num (pos 0) ⊕ z ⊗ num (pos 0)) ≈ num (pos 0)) cancels

    zero : orientation n q g ≡ pos 0 → ⊥
    zero e = absurd (omega (arith, linear, t, e))

-- t (v a - w b) = - (s d), where t, s, v > 0, a < 0, b = 0: then d > 0
leads : (t s v w a b d : ℤ) → pos 0 <ℤ t → pos 0 <ℤ s → pos 0 <ℤ v → a <ℤ pos 0 → b ≡ pos 0 → t *ℤ (v *ℤ a -ℤ w *ℤ b) ≡ neg_ℤ (s *ℤ d) → pos 0 <ℤ d
leads t s v w a b d pt ps pv pa eb e =
    let z : t *ℤ (v *ℤ a -ℤ w *ℤ b) ≡ t *ℤ (v *ℤ a) = rw eb (solve 4 (λ t v w a. t ⊗ (v ⊗ a ⊖ w ⊗ num (pos 0)) ≈ t ⊗ (v ⊗ a)) cancels t v w a) in
    let l = mul_pos_neg pt (mul_pos_neg pv pa) in
    by_sign d (λ p. p) (λ q. absurd (omega (arith, linear, l, z, e, none q))) (λ q. absurd (omega (arith, linear, l, z, e, mul_pos_neg ps q)))
  where
    none : d ≡ pos 0 → s *ℤ d ≡ pos 0
    none q = rw q (solve 1 (λ s. s ⊗ num (pos 0) ≈ num (pos 0)) cancels s)

-- the position of a point along an edge is the value of a plane there
pub position_is_value_along : (n g : Plane) (v : Spot) → position_along n g v ≡ value_at (edge_direction n g) v
position_is_value_along n g v =
    identity (tuple ∷ tuple ∷ tuple ∷ []) (λ n g v. dotE (crossE (normalE n) (normalE g)) (normalE v) ≈ valueE
    (alongE n g) v) cancels (plane_tuple n) (plane_tuple g) (spot_tuple v)

-- a point that isn't higher along an edge isn't after
pub not_after : (n g : Plane) (u v : Spot) → IsNotHigher (edge_direction n g) u v → IsNotAfter n g u v
not_after n g u v h = record {
  not_after = rw (position_is_value_along n g u, position_is_value_along n g v)
      (order (value_at (edge_direction n g) u) v.w (value_at (edge_direction n g) v) u.w h.not_above);
}
  where
    order : (a b c d : ℤ) → (a *ℤ b) ≤ℤ (c *ℤ d) → (b *ℤ a) ≤ℤ (d *ℤ c)
    order a b c d p = omega (arith, linear, p, solve 2 (λ a b. a ⊗ b ≈ b ⊗ a) cancels a b, solve 2 (λ c d. c ⊗ d ≈ d ⊗ c) cancels c d)

-- an edge leads from its corner to the next one
pub edge_leads : (n : Plane) (q c y : Side) (xs : List Side) → IsConvexRing n (q ∷ c ∷ y ∷ xs) → IsBefore n c.plane c.corner y.corner
edge_leads n q c y xs h =
    let root = ring-rooted n (q ∷ c ∷ y ∷ xs) h in let z = edge_direction n c.plane in
    let j = h.1.3.0 in
    let s = value_difference_by_orientation n c.plane z q.plane c.corner y.corner root.1.0.flat root.1.1.0.flat root.1.0.after j.before in
    let d = leads (orientation n c.plane z) (orientation n q.plane c.plane) c.corner.w y.corner.w
    (value_at q.plane y.corner) (value_at q.plane c.corner)
    (c.corner.w *ℤ value_at z y.corner -ℤ y.corner.w *ℤ value_at z c.corner)
    (turns_along_strictly n q.plane c.plane h.1.0.turns) h.1.0.turns root.1.0.weight h.1.1.0.under h.1.0.before s in
    record {
      before = rw (position_is_value_along n c.plane c.corner, position_is_value_along n c.plane y.corner)
          (order (c.corner.w *ℤ value_at z y.corner) (y.corner.w *ℤ value_at z c.corner) d);
    }
  where
    order : (a b : ℤ) → pos 0 <ℤ (a -ℤ b) → b <ℤ a
    order a b p = omega (arith, linear, p)
