-- The boxes of a triangle of the scene and of three rational points: whether they are apart
use Rattle.std.proofs.Common.{◌≡◌, ◌↔◌, ◌⊎◌, ⊎_elim, inl, inr, sym, ap, subst, arith, ℤ, pos, ◌*ℤ◌, ◌<ℤ◌, ◌≤ℤ◌, Bool, true, false}
use Rattle.std.proofs.lemmas.Int.{by_lt_z}
use Rattle.ember_algebra.specs.Size.{Small}
use Rattle.ember_algebra.proofs.Laws.{linear, one-*ℤ}
use Rattle.ember_algebra.proofs.Order.{mul_le}
use Rattle.ember_model.specs.declared.point.Axis.{Axis}
use Rattle.ember_model.specs.declared.point.Axis.TheVariants.{X, Y, Z}
use Rattle.ember_model.specs.declared.point.Spot.{Spot}
use Rattle.ember_model.specs.declared.tri.Tri.{Tri}
use Rattle.ember_model.specs.Valid.{IsValidTri}
use Rattle.mesh_sources.specs.declared.spans.Span.{Span}
use Rattle.mesh_sources.specs.declared.spans.SpaceBox.{SpaceBox}
use Rattle.mesh_sources.specs.Places.{Spots, EachSpot, SomeSpot, coordinate, spots_in_order, spots_turned, IsBefore, AreBefore, AreBoxesApart}
use Rattle.mesh_sources.specs.Spans.{HaveCommon, span_along, HaveCommonBox, IsSpanAround, IsBoxAround, IsSpanOver, IsBoxOver}

-- what follows at each of three points follows at some
pub pick : {R : Type 0} (P Q : Spot → Type 0) (s : Spots) → EachSpot P s → SomeSpot Q s → ((v : Spot) → P v → Q v → R) → R
pick P Q s e o f = ⊎_elim (f s.u e.0) (⊎_elim (f s.v e.1) (f s.w e.2)) o

-- what doesn't hold at some of three points holds at none
none_of : (Q : Spot → Type 0) (s : Spots) → (SomeSpot Q s → ⊥) → EachSpot (λ v. Q v → ⊥) s
none_of Q s n = (λ q. n (inl q), λ q. n (inr (inl q)), λ q. n (inr (inr q)))

-- what follows from each of three points
every : (P Q : Spot → Type 0) (s : Spots) → ((v : Spot) → P v → Q v) → EachSpot P s → EachSpot Q s
every P Q s f e = (f s.u e.0, f s.v e.1, f s.w e.2)

both : (P Q : Spot → Type 0) (s : Spots) → EachSpot P s → EachSpot Q s → EachSpot (λ v. P v × Q v) s
both P Q s e f = ((e.0, f.0), (e.1, f.1), (e.2, f.2))

-- ---- numbers
above_number : (x w low c : ℤ) → pos 0 <ℤ w → (((w *ℤ low) ≤ℤ x) → ⊥) → low ≤ℤ c → (pos 1 *ℤ x) <ℤ (w *ℤ c)
above_number x w low c l n h =
    by_lt_z x (w *ℤ low)
    (λ b. let p : pos 0 ≤ℤ w = omega (arith, linear) in omega (arith, linear, one-*ℤ x, mul_le p h, b))
    (λ b. absurd (n b))

below_number : (x w high c : ℤ) → pos 0 <ℤ w → ((x ≤ℤ (w *ℤ high)) → ⊥) → c ≤ℤ high → (w *ℤ c) <ℤ (pos 1 *ℤ x)
below_number x w high c l n h =
    by_lt_z (w *ℤ high) x
    (λ b. let p : pos 0 ≤ℤ w = omega (arith, linear) in omega (arith, linear, one-*ℤ x, mul_le p h, b))
    (λ b. absurd (n b))

not_above : (x w low c : ℤ) → low ≡ c → (w *ℤ low) ≤ℤ x → (pos 1 *ℤ x) <ℤ (w *ℤ c) → ⊥
not_above x w low c e h b = omega (arith, linear, one-*ℤ x, ap (λ (z : ℤ). w *ℤ z) e, h, b)

not_below : (x w high c : ℤ) → high ≡ c → x ≤ℤ (w *ℤ high) → (w *ℤ c) <ℤ (pos 1 *ℤ x) → ⊥
not_below x w high c e h b = omega (arith, linear, one-*ℤ x, ap (λ (z : ℤ). w *ℤ z) e, h, b)

-- ---- one axis
small_coordinates : (k : Axis) (t : Tri) → IsValidTri t → EachSpot (λ v. Small 2047 (coordinate k v)) (spots_in_order t)
small_coordinates X t h = (h.a.x, h.b.x, h.c.x)
small_coordinates Y t h = (h.a.y, h.b.y, h.c.y)
small_coordinates Z t h = (h.a.z, h.b.z, h.c.z)

module _ (k : Axis) (a b : Span) (t : Tri) (s : Spots) (valid : IsValidTri t) (is : IsSpanAround k a (spots_in_order t)) (over : IsSpanOver k b s) where
  abbrev r : Spots
  r = spots_in_order t

  small_low : Small 2047 a.low
  small_low =
      pick (λ v. Small 2047 (coordinate k v)) (λ v. a.low ≡ coordinate k v) r (small_coordinates k t valid) is.start
      (λ v small e. subst (Small 2047) (sym e) small)

  small_high : Small 2047 a.high
  small_high =
      pick (λ v. Small 2047 (coordinate k v)) (λ v. a.high ≡ coordinate k v) r (small_coordinates k t valid) is.end
      (λ v small e. subst (Small 2047) (sym e) small)

  module _ (positive : EachSpot (λ v. pos 0 <ℤ v.w) s) where
    -- the triangle begins behind the end of the points
    pub begins_behind : (a.low ≤ℤ b.high → ⊥) → AreBefore k s r
    begins_behind n =
        every (λ v. (pos 0 <ℤ v.w) × (((v.w *ℤ a.low) ≤ℤ coordinate k v) → ⊥)) (λ v. EachSpot (λ c. IsBefore k v c) r) s
        (λ v h. (
          above_number (coordinate k v) v.w a.low (coordinate k r.u) h.0 h.1 is.from.0,
          above_number (coordinate k v) v.w a.low (coordinate k r.v) h.0 h.1 is.from.1,
          above_number (coordinate k v) v.w a.low (coordinate k r.w) h.0 h.1 is.from.2,
        ))
        (both (λ v. pos 0 <ℤ v.w) (λ v. ((v.w *ℤ a.low) ≤ℤ coordinate k v) → ⊥) s positive
        (none_of (λ v. (v.w *ℤ a.low) ≤ℤ coordinate k v) s (λ o. n ((over.to a.low small_low).1 o))))

    -- the triangle ends before the start of the points
    pub ends_before : (b.low ≤ℤ a.high → ⊥) → AreBefore k r s
    ends_before n =
        let h = both (λ v. pos 0 <ℤ v.w) (λ v. (coordinate k v ≤ℤ (v.w *ℤ a.high)) → ⊥) s positive
        (none_of (λ v. coordinate k v ≤ℤ (v.w *ℤ a.high)) s (λ o. n ((over.from a.high small_high).1 o))) in
        let by = λ (c : Spot) (q : coordinate k c ≤ℤ a.high). every (λ v. (pos 0 <ℤ v.w) × ((coordinate k v ≤ℤ (v.w *ℤ a.high)) → ⊥))
        (λ v. (v.w *ℤ coordinate k c) <ℤ (pos 1 *ℤ coordinate k v)) s
        (λ v g. below_number (coordinate k v) v.w a.high (coordinate k c) g.0 g.1 q) h in
        (by r.u is.to.0, by r.v is.to.1, by r.w is.to.2)

  pub not_begins_behind : a.low ≤ℤ b.high → AreBefore k s r → ⊥
  not_begins_behind h e =
      pick (λ v. EachSpot (λ c. IsBefore k v c) r) (λ v. (v.w *ℤ a.low) ≤ℤ coordinate k v) s e ((over.to a.low small_low).0 h)
      (λ v g q. pick (λ c. (pos 1 *ℤ coordinate k v) <ℤ (v.w *ℤ coordinate k c)) (λ c. a.low ≡ coordinate k c) r g is.start
      (λ c b i. not_above (coordinate k v) v.w a.low (coordinate k c) i q b))

  pub not_ends_before : b.low ≤ℤ a.high → AreBefore k r s → ⊥
  not_ends_before h e =
      pick (λ c. EachSpot (λ v. (v.w *ℤ coordinate k c) <ℤ (pos 1 *ℤ coordinate k v)) s) (λ c. a.high ≡ coordinate k c) r e is.end
      (λ c g i. pick (λ v. (v.w *ℤ coordinate k c) <ℤ (pos 1 *ℤ coordinate k v)) (λ v. coordinate k v ≤ℤ (v.w *ℤ a.high)) s g ((over.from a.high small_high).0 h)
      (λ v b q. not_below (coordinate k v) v.w a.high (coordinate k c) i q b))

-- ---- the span over three points, by the whole numbers next to them
three : {P Q R P' Q' R' : Type 0} → (P → P') → (Q → Q') → (R → R') → P ⊎ (Q ⊎ R) → P' ⊎ (Q' ⊎ R')
three f g h o = ⊎_elim (λ p. inl (f p)) (⊎_elim (λ q. inr (inl (g q))) (λ r. inr (inr (h r)))) o

one_of : {P Q R S : Type 0} → (P → S) → (Q → S) → (R → S) → P ⊎ (Q ⊎ R) → S
one_of f g h o = ⊎_elim f (⊎_elim g h) o

up_to : (z m a : ℤ) → z ≤ℤ m → m ≡ a → z ≤ℤ a
up_to z m a h e = omega (arith, linear, h, e)

down_to : (z m a : ℤ) → m ≤ℤ z → m ≡ a → a ≤ℤ z
down_to z m a h e = omega (arith, linear, h, e)

beyond : {a b c : ℤ} → a ≤ℤ b → b ≤ℤ c → a ≤ℤ c
beyond h k = omega (arith, linear, h, k)

abbrev pub IsFloorOf : Axis → Spot → ℤ → Type 0
IsFloorOf k v f = (z : ℤ) → (z ≤ℤ f) ↔ ((v.w *ℤ z) ≤ℤ coordinate k v)

abbrev pub IsCeilOf : Axis → Spot → ℤ → Type 0
IsCeilOf k v f = (z : ℤ) → (f ≤ℤ z) ↔ (coordinate k v ≤ℤ (v.w *ℤ z))

module _ (k : Axis) (s : Spots) (low high cu cv cw fu fv fw : ℤ) where
  pub span_is_over : IsCeilOf k s.u cu → IsCeilOf k s.v cv → IsCeilOf k s.w cw →
      IsFloorOf k s.u fu → IsFloorOf k s.v fv → IsFloorOf k s.w fw →
      low ≤ℤ cu → low ≤ℤ cv → low ≤ℤ cw → (low ≡ cu) ⊎ ((low ≡ cv) ⊎ (low ≡ cw)) →
      fu ≤ℤ high → fv ≤ℤ high → fw ≤ℤ high → (high ≡ fu) ⊎ ((high ≡ fv) ⊎ (high ≡ fw)) →
      IsSpanOver k (record { low = low; high = high }) s
  span_is_over u v w a b c lu lv lw lr hu hv hw hr =
      record {
        to = λ z q. (
          λ h. three (λ e. (a z).0 (up_to z high fu h e)) (λ e. (b z).0 (up_to z high fv h e)) (λ e. (c z).0 (up_to z high fw h e)) hr,
          one_of (λ e. beyond ((a z).1 e) hu) (λ e. beyond ((b z).1 e) hv) (λ e. beyond ((c z).1 e) hw),
        );
        from = λ z q. (
          λ h. three (λ e. (u z).0 (down_to z low cu h e)) (λ e. (v z).0 (down_to z low cv h e)) (λ e. (w z).0 (down_to z low cw h e)) lr,
          one_of (λ e. beyond lu ((u z).1 e)) (λ e. beyond lv ((v z).1 e)) (λ e. beyond lw ((w z).1 e)),
        );
      }

-- ---- boxes
around_along : (k : Axis) (b : SpaceBox) (t : Tri) → IsBoxAround b t → IsSpanAround k (span_along k b) (spots_in_order t)
around_along X b t h = h.0
around_along Y b t h = h.1
around_along Z b t h = h.2

over_along : (k : Axis) (b : SpaceBox) (s : Spots) → IsBoxOver b s → IsSpanOver k (span_along k b) s
over_along X b s h = h.0
over_along Y b s h = h.1
over_along Z b s h = h.2

common_along : (k : Axis) (b c : SpaceBox) → HaveCommonBox b c → HaveCommon (span_along k b) (span_along k c)
common_along X b c h = h.0
common_along Y b c h = h.1
common_along Z b c h = h.2

module _ (a b : SpaceBox) (t : Tri) (s : Spots) (valid : IsValidTri t) (is : IsBoxAround a t) (over : IsBoxOver b s) where
  -- boxes with a common point aren't apart
  pub common_not_apart : HaveCommonBox a b → AreBoxesApart s (spots_in_order t) → ⊥
  common_not_apart h e =
      let k = e.0 in let i = around_along k a t is in let o = over_along k b s over in let c = common_along k a b h in
      ⊎_elim (not_begins_behind k (span_along k a) (span_along k b) t s valid i o c.one)
      (not_ends_before k (span_along k a) (span_along k b) t s valid i o c.other) e.1

module _ (a b : SpaceBox) (t : Tri) (s : Spots) (valid : IsValidTri t) (is : IsBoxAround a t) (over : IsBoxOver b s) (positive : EachSpot (λ v. pos 0 <ℤ v.w) s) where
  axis_decided : (k : Axis) → AreBoxesApart s (spots_in_order t) ⊎ HaveCommon (span_along k a) (span_along k b)
  axis_decided k =
      let i = around_along k a t is in let o = over_along k b s over in
      let c = span_along k a in let d = span_along k b in
      by_lt_z d.high c.low
      (λ l. inl (k, inl (begins_behind k c d t s valid i o positive (λ h. omega (arith, linear, l, h)))))
      (λ one. by_lt_z c.high d.low
      (λ l. inl (k, inr (ends_before k c d t s valid i o positive (λ h. omega (arith, linear, l, h)))))
      (λ other. inr (record { one = one; other = other })))

  -- the boxes are apart, or they have a common point
  pub apart_or_common : AreBoxesApart s (spots_in_order t) ⊎ HaveCommonBox a b
  apart_or_common =
      ⊎_elim (λ e. inl e)
      (λ x. ⊎_elim (λ e. inl e) (λ y. ⊎_elim (λ e. inl e) (λ z. inr (x, y, z)) (axis_decided Z)) (axis_decided Y))
      (axis_decided X)

-- ---- the order of the corners
pub each_turned : (P : Spot → Type 0) (b : Bool) (t : Tri) → EachSpot P (spots_in_order t) → EachSpot P (spots_turned b t)
each_turned P true t h = (h.0, h.2, h.1)
each_turned P false t h = h

pub each_in_order : (P : Spot → Type 0) (b : Bool) (t : Tri) → EachSpot P (spots_turned b t) → EachSpot P (spots_in_order t)
each_in_order P true t h = (h.0, h.2, h.1)
each_in_order P false t h = h

pub boxes_turned : (s : Spots) (b : Bool) (t : Tri) → AreBoxesApart s (spots_in_order t) → AreBoxesApart s (spots_turned b t)
boxes_turned s b t e =
    let k = e.0 in (
      k,
      ⊎_elim (λ h. inl (
        each_turned (λ c. IsBefore k s.u c) b t h.0,
        each_turned (λ c. IsBefore k s.v c) b t h.1,
        each_turned (λ c. IsBefore k s.w c) b t h.2,
      )) (λ h. inr (each_turned (λ c. EachSpot (λ v. IsBefore k c v) s) b t h)) e.1,
    )

pub boxes_in_order : (s : Spots) (b : Bool) (t : Tri) → AreBoxesApart s (spots_turned b t) → AreBoxesApart s (spots_in_order t)
boxes_in_order s b t e =
    let k = e.0 in (
      k,
      ⊎_elim (λ h. inl (
        each_in_order (λ c. IsBefore k s.u c) b t h.0,
        each_in_order (λ c. IsBefore k s.v c) b t h.1,
        each_in_order (λ c. IsBefore k s.w c) b t h.2,
      )) (λ h. inr (each_in_order (λ c. EachSpot (λ v. IsBefore k c v) s) b t h)) e.1,
    )
