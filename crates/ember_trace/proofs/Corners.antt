-- The first three corners of an outline don't lie on one line, and inside points lie between them.
use Rattle.std.proofs.Common.{◌≡◌, ◌≢◌, ⊎_elim, refl, sym, ap, ◌∙◌, arith, ℕ, zero, suc, Bool, true, false, not, ◌&&◌}
use Rattle.std.proofs.Common.{◌≤◌, List, [], ◌∷◌, length, map, None, Some, slice_get, subst, ℤ, pos, ◌+ℤ◌, ◌-ℤ◌, ◌*ℤ◌, neg_ℤ}
use Rattle.std.proofs.Common.{◌<ℤ◌, ◌≤ℤ◌}
use Rattle.std.proofs.lemmas.Bool.{and_parts}
use Rattle.std.proofs.lemmas.List.{length-map}
use Rattle.ember_algebra.specs.Vector.{cross}
use Rattle.ember_algebra.specs.Sign.{is_zero, is_positive}
use Rattle.ember_algebra.proofs.Laws.{linear}
use Rattle.ember_algebra.specs.Large.{horner}
use Rattle.ember_algebra.proofs.Order.{by_sign, pos_mul, mul_neg_pos, zero_product}
use Rattle.ember_algebra.proofs.Identities.{dot_zero}
use Rattle.ember_algebra.proofs.Ring.{◌⊕◌, ◌⊖◌, ◌⊗◌, ◌≈◌, num, neg, solve, cancels}
use Rattle.ember_algebra.proofs.Vectors.{tuple, identity, dotE, crossE}
use Rattle.ember_model.specs.declared.plane.Plane.{Plane}
use Rattle.ember_model.specs.declared.point.Spot.{Spot}
use Rattle.ember_model.specs.declared.point.Axis.{Axis}
use Rattle.ember_model.specs.declared.point.Axis.TheVariants.{X, Y, Z}
use Rattle.ember_model.specs.declared.face.Face.{Face}
use Rattle.ember_model.specs.Planes.{value_at, along, main_axis, HasNoNormal}
use Rattle.ember_model.specs.Faces.{is_in_closed, is_inside}
use Rattle.ember_model.specs.ClearTest.{none_positive, all_negative}
use Rattle.ember_model.specs.Edges.{normal, position_along, RingEdge, IsEdge, IsBefore, IsEdgeChain, HasEdgeOf, IsOutline, SameEdge, SamePoint, is_on_edge}
use Rattle.ember_model.proofs.SignTests.{zero_out, zero_scaled, zero_times, clash, negative_in, not_positive_out, positive_in}
use Rattle.ember_model.proofs.Hits.{closed_parts, inside_on}
use Rattle.ember_model.proofs.SeenCrossings.{main_zero}
use Rattle.ember_model.proofs.Tuples.{plane_tuple, spot_tuple, normalE}
use Rattle.ember_poly.specs.Rings.{orientation}
use Rattle.ember_poly.specs.Sides.{ring_edges, AreCorners}
use Rattle.ember_law.proofs.Generic.{cancel_zero}
use Rattle.ember_poly.proofs.Planar.{places, same_place, turnE, both_zero}
use Rattle.ember_poly.proofs.SameSide.{toward}
use Rattle.ember_trace.proofs.PathVertices.{close_to, value_close}

-- the plane that grows along an edge, as its reach does
abbrev grows : Plane → Plane → Plane
grows n g =
    let z = cross (normal n) (normal g) in record { a = z.x; b = z.y; c = z.z; d = pos 0 }

reach_value : (n g : Plane) (v : Spot) → value_at (grows n g) v ≡ position_along n g v
reach_value n g v =
    let z = cross (normal n) (normal g) in
    solve 7 (λ a b c x y z w. a ⊗ x ⊕ b ⊗ y ⊕ c ⊗ z ⊖ num (pos 0) ⊗ w ≈ a ⊗ x ⊕ b ⊗ y ⊕ c ⊗ z) cancels z.x z.y z.z v.x v.y v.z v.w

way_turn : (n g : Plane) (u v : Spot) → orientation (toward u v) n g ≡ u.w *ℤ position_along n g v -ℤ v.w *ℤ position_along n g u
way_turn n g u v =
    identity (tuple ∷ tuple ∷ tuple ∷ tuple ∷ [])
    (λ n g u v. dotE (record { x = u.w ⊗ v.x ⊖ v.w ⊗ u.x; y = u.w ⊗ v.y ⊖ v.w ⊗ u.y; z = u.w ⊗ v.z ⊖ v.w ⊗ u.z })
    (crossE (normalE n) (normalE g)) ≈ u.w ⊗ dotE (crossE (normalE n) (normalE g))
    (record { x = v.x; y = v.y; z = v.z }) ⊖ v.w ⊗ dotE (crossE (normalE n) (normalE g))
    (record { x = u.x; y = u.y; z = u.z })) cancels (plane_tuple n) (plane_tuple g) (spot_tuple u) (spot_tuple v)

-- one place is as far along as itself
not_before : (n g : Plane) (u v : Spot) → v.w *ℤ position_along n g u ≡ u.w *ℤ position_along n g v → IsBefore n g u v → ⊥
not_before n g u v e b = let l = b.before in absurd (omega (arith, linear, e, l))

same_zero : (a b : ℤ) → (a ≡ pos 0 → b ≡ pos 0) → (b ≡ pos 0 → a ≡ pos 0) → is_zero a ≡ is_zero b
same_zero a b f g = by (is_zero a) (is_zero b) refl refl
  where
    by : (x y : Bool) → is_zero a ≡ x → is_zero b ≡ y → x ≡ y
    by true true e h = refl
    by true false e h = absurd (clash (ap is_zero (f (zero_out a e))) h)
    by false true e h = absurd (clash (ap is_zero (g (zero_out b h))) e)
    by false false e h = refl

-- ---- lists of planes
pub none_at : (es : List Plane) (x : Spot) → none_positive es x ≡ true → (i : ℕ) (p : Plane) → slice_get es i ≡ Some p → value_at p x ≤ℤ pos 0
none_at [] x h i p e = by e
  where
    by : None ≡ Some p → value_at p x ≤ℤ pos 0
    by e = cc
none_at (g ∷ es) x h zero p e =
    subst (λ (p : Plane). value_at p x ≤ℤ pos 0) (by e)
    (not_positive_out (value_at g x) (and_parts (not (is_positive (value_at g x))) (none_positive es x) h).0)
  where
    by : Some g ≡ Some p → g ≡ p
    by e = cc
none_at (g ∷ es) x h (suc i) p e = none_at es x (and_parts (not (is_positive (value_at g x))) (none_positive es x) h).1 i p e

all_below : (es : List Plane) (x : Spot) → ((i : ℕ) (p : Plane) → slice_get es i ≡ Some p → value_at p x <ℤ pos 0) → all_negative es x ≡ true
all_below [] x h = refl
all_below (e ∷ es) x h =
    let a = negative_in (h 0 e refl) in let r = all_below es x (λ i p q. h (suc i) p q) in λ i. a i && r i

-- a sum with positive factors of numbers that aren't positive, nor all zero
sum_below : (k a b c : ℤ) → pos 0 <ℤ k → a ≤ℤ pos 0 → b ≤ℤ pos 0 → c ≤ℤ pos 0 → (a ≡ pos 0 → b ≡ pos 0 → c ≡ pos 0 → ⊥) → horner k a (b ∷ c ∷ []) <ℤ pos 0
sum_below k a b c l la lb lc n =
    by_sign a (λ p. absurd (omega (arith, linear, p, la)))
    (λ za. by_sign b (λ p. absurd (omega (arith, linear, p, lb)))
    (λ zb. by_sign c (λ p. absurd (omega (arith, linear, p, lc))) (λ zc. absurd (n za zb zc)) (λ p. let e =
    zero_times a k za in let f : a *ℤ k +ℤ b ≡ pos 0 = omega (arith, linear, e, zb) in let g =
    zero_times (a *ℤ k +ℤ b) k f in omega (arith, linear, g, p)))
    (λ p. let e = zero_times a k za in let f : (a *ℤ k +ℤ b) <ℤ pos 0 = omega (arith, linear, e, p) in let g = mul_neg_pos f l in omega (arith, linear, g, lc)))
    (λ p. let e = mul_neg_pos p l in let f : (a *ℤ k +ℤ b) <ℤ pos 0 = omega (arith, linear, e, lb) in let g = mul_neg_pos f l in omega (arith, linear, g, lc))

-- ---- numbers
-- of a sum whose other terms are zero the last term is zero
last_zero : (t y a b c w x nx nv gx gv hx hv : ℤ) → pos 0 <ℤ c → pos 0 <ℤ w → t ≡ pos 0 → nx ≡ pos 0 → nv ≡ pos 0 →
    gx ≡ pos 0 → gv ≡ pos 0 → hv ≡ pos 0 → t *ℤ y ≡ a *ℤ (w *ℤ nx -ℤ x *ℤ nv) +ℤ b *ℤ (w *ℤ gx -ℤ x *ℤ gv) +ℤ c *ℤ
    (w *ℤ hx -ℤ x *ℤ hv) → hx ≡ pos 0
last_zero t y a b c w x nx nv gx gv hx hv pc pw tz nxz nvz gxz gvz hvz e =
    let zt = zero_times t y tz in let za = zero_scaled a (w *ℤ nx -ℤ x *ℤ nv) (both_zero w x nxz nvz) in let zb =
    zero_scaled b (w *ℤ gx -ℤ x *ℤ gv) (both_zero w x gxz gvz) in
    let all : c *ℤ (w *ℤ hx -ℤ x *ℤ hv) ≡ pos 0 = omega (arith, linear, zt, za, zb, e) in
    let rest = cancel_zero c (w *ℤ hx -ℤ x *ℤ hv) pc all in let zx = zero_scaled x hv hvz in
    cancel_zero w hx pw (omega (arith, linear, rest, zx))

other_zero : (a b : ℤ) → a ≢ pos 0 → a *ℤ b ≡ pos 0 → b ≡ pos 0
other_zero a b n e = ⊎_elim (λ z. absurd (n z)) (λ z. z) (zero_product e)

-- of a sum of zeros the factor of a number that isn't zero is zero
first_zero : (d w x px pv a b c nx nv gx gv hx hv : ℤ) → d ≢ pos 0 → pos 0 <ℤ w → b ≡ pos 0 → c ≡ pos 0 → nx ≡ pos 0 →
    nv ≡ pos 0 → pv ≡ pos 0 → d *ℤ (w *ℤ px -ℤ x *ℤ pv) ≡ a *ℤ (w *ℤ nx -ℤ x *ℤ nv) +ℤ b *ℤ (w *ℤ gx -ℤ x *ℤ gv) +ℤ c *ℤ
    (w *ℤ hx -ℤ x *ℤ hv) → px ≡ pos 0
first_zero d w x px pv a b c nx nv gx gv hx hv nd pw bz cz nxz nvz pvz e =
    let za = zero_scaled a (w *ℤ nx -ℤ x *ℤ nv) (both_zero w x nxz nvz) in let zb =
    zero_times b (w *ℤ gx -ℤ x *ℤ gv) bz in let zc = zero_times c (w *ℤ hx -ℤ x *ℤ hv) cz in
    let all : d *ℤ (w *ℤ px -ℤ x *ℤ pv) ≡ pos 0 = omega (arith, linear, za, zb, zc, e) in
    let rest = other_zero d (w *ℤ px -ℤ x *ℤ pv) nd all in let zx = zero_scaled x pv pvz in
    cancel_zero w px pw (omega (arith, linear, rest, zx))

-- ---- two edges that meet at v
-- a plane that is 0 at three points
pub record IsZeroAt (p : Plane) (u v w : Spot) : Type 0 where
  pub first : value_at p u ≡ pos 0
  pub second : value_at p v ≡ pos 0
  pub third : value_at p w ≡ pos 0

pub record Joins (f : Face) (g h : Plane) (u v w : Spot) : Type 0 where
  pub first : IsEdge f (record { plane = g; start = u }) v
  pub second : IsEdge f (record { plane = h; start = v }) w
  pub apart : SameEdge f g h → ⊥

record OnEdge (f : Face) (g : Plane) (v : Spot) : Type 0 where
  weight : pos 0 <ℤ v.w
  flat : value_at f.support v ≡ pos 0
  zero : value_at g v ≡ pos 0
  closed : is_in_closed f v ≡ true

on_edge : (f : Face) (g : Plane) (v : Spot) → is_on_edge f g v ≡ true → OnEdge f g v
on_edge f g v e =
    let p = and_parts (is_in_closed f v) (is_zero (value_at g v)) e in let c = closed_parts f v p.0 in
    record { weight = c.0; flat = c.1; zero = zero_out (value_at g v) p.1; closed = p.0 }

edge_at : (f : Face) (g : Plane) (v : Spot) → is_in_closed f v ≡ true → value_at g v ≡ pos 0 → is_on_edge f g v ≡ true
edge_at f g v c z = let e = ap is_zero z in λ i. c i && e i

-- a plane that is 0 at both ends of an edge doesn't turn from it
no_turn : (f : Face) (g p : Plane) (u v : Spot) → IsBefore f.support g u v → OnEdge f g u → OnEdge f g v →
    value_at p u ≡ pos 0 → value_at p v ≡ pos 0 → orientation f.support g p ≡ pos 0
no_turn f g p u v b a d pu pv =
    by_sign (orientation f.support g p) (λ l. absurd (turns (λ z. omega (arith, linear, l, z)))) (λ z. z)
    (λ l. absurd (turns (λ z. omega (arith, linear, l, z))))
  where
    turns : orientation f.support g p ≢ pos 0 → ⊥
    turns t =
        let n = f.support in let e = same_place n g p t (grows n g) u v a.flat a.zero pu d.flat d.zero pv in
        let x = reach_value n g u in let y = reach_value n g v in
        not_before n g u v (ap (λ (z : ℤ). v.w *ℤ z) (sym x) ∙ sym e ∙ ap (λ (z : ℤ). u.w *ℤ z) y) b

pub record Parallel (n p : Plane) : Type 0 where
  pub x : n.b *ℤ p.c -ℤ n.c *ℤ p.b ≡ pos 0
  pub y : n.c *ℤ p.a -ℤ n.a *ℤ p.c ≡ pos 0
  pub z : n.a *ℤ p.b -ℤ n.b *ℤ p.a ≡ pos 0

-- a plane that is parallel to one with an entry along k, and has none, has no normal
pub no_entry : (n p : Plane) (k : Axis) → Parallel n p → along n k ≢ pos 0 → along p k ≡ pos 0 → HasNoNormal p
no_entry n p X l s e = (
  e,
  other_zero n.a p.b s (let q = zero_scaled n.b p.a e in let r = l.z in omega (arith, linear, q, r)),
  other_zero n.a p.c s (let q = zero_scaled n.c p.a e in let r = l.y in omega (arith, linear, q, r)),
)
no_entry n p Y l s e = (
  other_zero n.b p.a s (let q = zero_scaled n.a p.b e in let r = l.z in omega (arith, linear, q, r)),
  e,
  other_zero n.b p.c s (let q = zero_scaled n.c p.b e in let r = l.x in omega (arith, linear, q, r)),
)
no_entry n p Z l s e = (
  other_zero n.c p.a s (let q = zero_scaled n.a p.c e in let r = l.y in omega (arith, linear, q, r)),
  other_zero n.c p.b s (let q = zero_scaled n.b p.c e in let r = l.x in omega (arith, linear, q, r)),
  e,
)

reach_zero : (n p : Plane) (v : Spot) → Parallel n p → position_along n p v ≡ pos 0
reach_zero n p v h =
    let x = zero_times _ v.x h.x in let y = zero_times _ v.y h.y in let z = zero_times _ v.z h.z in omega (arith, linear, x, y, z)

module _ (f : Face) (g h : Plane) (u v w : Spot) (j : Joins f g h u v w) where
  abbrev n : Plane
  n = f.support

  at_u : OnEdge f g u
  at_u = on_edge f g u j.first.starts

  at_v : OnEdge f g v
  at_v = on_edge f g v j.first.ends

  then_v : OnEdge f h v
  then_v = on_edge f h v j.second.starts

  then_w : OnEdge f h w
  then_w = on_edge f h w j.second.ends

  leads : pos 0 <ℤ orientation (toward u v) n g
  leads = let e = way_turn n g u v in let l = j.first.leads.before in omega (arith, linear, e, l)

  leads_on : pos 0 <ℤ orientation (toward v w) n h
  leads_on = let e = way_turn n h v w in let l = j.second.leads.before in omega (arith, linear, e, l)

  -- the second edge turns from the first: otherwise they would be one
  turns : orientation n g h ≢ pos 0
  turns t = j.apart (λ x. by x (is_in_closed f x) refl)
    where
      back : orientation n h g ≡ pos 0
      back =
          identity (tuple ∷ tuple ∷ tuple ∷ []) (λ n g h. turnE n h g ≈ neg (turnE n g h)) cancels (plane_tuple n) (plane_tuple g) (plane_tuple h) ∙ ap neg_ℤ t

      to : (x : Spot) → value_at n x ≡ pos 0 → value_at g x ≡ pos 0 → value_at h x ≡ pos 0
      to x nx gx =
          let e = toward u v in
          last_zero (orientation n g h) (v.w *ℤ value_at e x -ℤ x.w *ℤ value_at e v) (orientation e g h)
          (orientation e h n) (orientation e n g) v.w x.w (value_at n x) (value_at n v) (value_at g x) (value_at g v)
          (value_at h x) (value_at h v) leads at_v.weight t nx at_v.flat gx at_v.zero then_v.zero (places n g h e v x)

      from : (x : Spot) → value_at n x ≡ pos 0 → value_at h x ≡ pos 0 → value_at g x ≡ pos 0
      from x nx hx =
          let e = toward v w in
          last_zero (orientation n h g) (v.w *ℤ value_at e x -ℤ x.w *ℤ value_at e v) (orientation e h g)
          (orientation e g n) (orientation e n h) v.w x.w (value_at n x) (value_at n v) (value_at h x) (value_at h v)
          (value_at g x) (value_at g v) leads_on at_v.weight back nx at_v.flat hx then_v.zero at_v.zero
          (places n h g e v x)

      by : (x : Spot) (b : Bool) → is_in_closed f x ≡ b → is_on_edge f g x ≡ is_on_edge f h x
      by x true c =
          let z = (closed_parts f x c).1 in ap (λ (b : Bool). is_in_closed f x && b) (same_zero (value_at g x) (value_at h x) (to x z) (from x z))
      by x false c = ap (λ (b : Bool). b && is_zero (value_at g x)) c ∙ sym (ap (λ (b : Bool). b && is_zero (value_at h x)) c)

  first_turn : (p : Plane) → IsZeroAt p u v w → orientation n g p ≡ pos 0
  first_turn p z = no_turn f g p u v j.first.leads at_u at_v z.first z.second

  second_turn : (p : Plane) → IsZeroAt p u v w → orientation n h p ≡ pos 0
  second_turn p z = no_turn f h p v w j.second.leads then_v then_w z.second z.third

  -- a plane that is 0 at the three corners is parallel to the support plane
  parallel : (p : Plane) → IsZeroAt p u v w → Parallel n p
  parallel p z =
      let s = tuple ∷ tuple ∷ tuple ∷ tuple ∷ [] in let a = first_turn p z in let b = second_turn p z in
      record {
        x = other_zero (orientation n g h) _ turns
            (identity s (λ n g h p. turnE n g h ⊗ (crossE (normalE n) (normalE p)).x ≈ neg
            (turnE n g p ⊗ (crossE (normalE h) (normalE n)).x ⊕ turnE n h p ⊗ (crossE (normalE n) (normalE g)).x)) cancels
            (plane_tuple n) (plane_tuple g) (plane_tuple h) (plane_tuple p)
            ∙ nothing (orientation n g p) _ (orientation n h p) _ a b);
        y = other_zero (orientation n g h) _ turns
            (identity s (λ n g h p. turnE n g h ⊗ (crossE (normalE n) (normalE p)).y ≈ neg
            (turnE n g p ⊗ (crossE (normalE h) (normalE n)).y ⊕ turnE n h p ⊗ (crossE (normalE n) (normalE g)).y)) cancels
            (plane_tuple n) (plane_tuple g) (plane_tuple h) (plane_tuple p)
            ∙ nothing (orientation n g p) _ (orientation n h p) _ a b);
        z = other_zero (orientation n g h) _ turns
            (identity s (λ n g h p. turnE n g h ⊗ (crossE (normalE n) (normalE p)).z ≈ neg
            (turnE n g p ⊗ (crossE (normalE h) (normalE n)).z ⊕ turnE n h p ⊗ (crossE (normalE n) (normalE g)).z)) cancels
            (plane_tuple n) (plane_tuple g) (plane_tuple h) (plane_tuple p)
            ∙ nothing (orientation n g p) _ (orientation n h p) _ a b);
      }
    where
      nothing : (s x t y : ℤ) → s ≡ pos 0 → t ≡ pos 0 → neg_ℤ (s *ℤ x +ℤ t *ℤ y) ≡ pos 0
      nothing s x t y a b = let p = zero_times s x a in let q = zero_times t y b in omega (arith, linear, p, q)

  -- the normal of the support plane has an entry along its main axis
  slope : along n (main_axis n) ≢ pos 0
  slope z =
      let e = toward u v in
      let t = identity (tuple ∷ tuple ∷ tuple ∷ [])
      (λ n g e. turnE e n g ≈ dotE (crossE (normalE g) (normalE e)) (normalE n)) cancels (plane_tuple n)
      (plane_tuple g) (plane_tuple e) in
      let d = dot_zero (cross (normal g) (normal e)) (normal n) (main_zero n X z) (main_zero n Y z) (main_zero n Z z) in
      let l = leads in absurd (omega (arith, linear, l, t, d))

  no_normal : (p : Plane) → IsZeroAt p u v w → along p (main_axis n) ≡ pos 0 → HasNoNormal p
  no_normal p z e = no_entry n p (main_axis n) (parallel p z) slope e

  -- it is 0 at the whole face
  flat_out : (p : Plane) → IsZeroAt p u v w → (x : Spot) → is_in_closed f x ≡ true → value_at p x ≡ pos 0
  flat_out p z x c =
      let a : orientation p h n ≡ pos 0 = identity (tuple ∷ tuple ∷ tuple ∷ [])
      (λ n h p. turnE p h n ≈ neg (turnE n h p)) cancels (plane_tuple n) (plane_tuple h) (plane_tuple p)
      ∙ ap neg_ℤ (second_turn p z) in
      let b : orientation p n g ≡ pos 0 = identity (tuple ∷ tuple ∷ tuple ∷ []) (λ n g p. turnE p n g ≈ turnE n g p)
      cancels (plane_tuple n) (plane_tuple g) (plane_tuple p) ∙ first_turn p z in
      first_zero (orientation n g h) v.w x.w (value_at p x) (value_at p v) (orientation p g h) (orientation p h n)
      (orientation p n g) (value_at n x) (value_at n v) (value_at g x) (value_at g v) (value_at h x) (value_at h v)
      turns at_v.weight a b (closed_parts f x c).1 at_v.flat z.second (places n g h p v x)

  different : SamePoint u v → ⊥
  different s =
      not_before n g u v (let z = cross (normal n) (normal g) in
      solve 7 (λ a b c k x y z. k ⊗ (a ⊗ x ⊕ b ⊗ y ⊕ c ⊗ z) ≈ a ⊗ (k ⊗ x) ⊕ b ⊗ (k ⊗ y) ⊕ c ⊗ (k ⊗ z)) cancels z.x z.y
      z.z v.w u.x u.y u.z ∙ (λ i. z.x *ℤ s.x i +ℤ z.y *ℤ s.y i +ℤ z.z *ℤ s.z i)
      ∙ solve 7 (λ a b c k x y z. a ⊗ (k ⊗ x) ⊕ b ⊗ (k ⊗ y) ⊕ c ⊗ (k ⊗ z) ≈ k ⊗ (a ⊗ x ⊕ b ⊗ y ⊕ c ⊗ z)) cancels z.x
      z.y z.z u.w v.x v.y v.z) j.first.leads

  -- no edge of the outline is the whole face
  not_edge : (p : Plane) (e : RingEdge) (end : Spot) → IsZeroAt p u v w → IsEdge f e end → SameEdge f p e.plane → ⊥
  not_edge p e end z i s =
      let at = λ (x : Spot) (c : is_in_closed f x ≡ true). (on_edge f e.plane x (sym (s x) ∙ edge_at f p x c (flat_out p z x c))).zero in
      let l = parallel e.plane (record { first = at u at_u.closed; second = at v at_v.closed; third = at w then_w.closed }) in
      let a = zero_scaled end.w _ (reach_zero n e.plane e.start l) in let b = zero_scaled e.start.w _ (reach_zero n e.plane end l) in
      not_before n e.plane e.start end (a ∙ sym b) i.leads

  not_among : (p : Plane) (end : Spot) (es : List RingEdge) → IsZeroAt p u v w → IsEdgeChain f end es → HasEdgeOf f p es → ⊥
  not_among p end [] z path a = a
  not_among p end (e ∷ []) z path a = ⊎_elim (λ s. not_edge p e end z path s) (λ b. b) a
  not_among p end (e ∷ d ∷ es) z path a = ⊎_elim (λ s. not_edge p e d.start z path.0 s) (λ b. not_among p end (d ∷ es) z path.1 b) a

  -- no edge plane of the face is 0 at all three
  one_below : (es : List RingEdge) → IsOutline f es → (i : ℕ) (p : Plane) → slice_get f.edges i ≡ Some p → IsZeroAt p u v w → ⊥
  one_below es o i p at z =
      not_among p o.first.start es z o.round (o.all i p at
      (record {
        one = u;
        other = v;
        holds_one = edge_at f p u at_u.closed z.first;
        holds_other =
            edge_at f p v at_v.closed z.second;
        different = different;
      }))

  close_inside : (es : List RingEdge) → IsOutline f es → (k : ℤ) → pos 0 <ℤ k → is_inside f (close_to k u v w) ≡ true
  close_inside es o k l =
      let q = close_to k u v w in
      inside_on f q (positive_in weight) flat ∙ all_below f.edges q below
    where
      weight : pos 0 <ℤ (close_to k u v w).w
      weight =
          let a = pos_mul (pos_mul l l) at_u.weight in let b = pos_mul l at_v.weight in let c = then_w.weight in omega (arith, linear, a, b, c)

      flat : value_at n (close_to k u v w) ≡ pos 0
      flat =
          value_close n k u v w ∙ (λ i. horner k (at_u.flat i) (at_v.flat i ∷ then_w.flat i ∷ []))
          ∙ solve 1 (λ k. (num (pos 0) ⊗ k ⊕ num (pos 0)) ⊗ k ⊕ num (pos 0) ≈ num (pos 0)) cancels k

      below : (i : ℕ) (p : Plane) → slice_get f.edges i ≡ Some p → value_at p (close_to k u v w) <ℤ pos 0
      below i p at =
          let a = none_at f.edges u (closed_parts f u at_u.closed).2 i p at in let b =
          none_at f.edges v (closed_parts f v at_v.closed).2 i p at in let c =
          none_at f.edges w (closed_parts f w then_w.closed).2 i p at in
          let e = value_close p k u v w in let r =
          sum_below k (value_at p u) (value_at p v) (value_at p w) l a b c
          (λ x y z. one_below es o i p at (record { first = x; second = y; third = z })) in
          omega (arith, linear, e, r)

-- ---- the first three corners
-- three corners of a face
pub record AreFirst (f : Face) (u v w : Spot) : Type 0 where
  pub inside : (k : ℤ) → pos 0 <ℤ k → is_inside f (close_to k u v w) ≡ true
  pub apart : (p : Plane) → value_at p u ≡ pos 0 → value_at p v ≡ pos 0 → value_at p w ≡ pos 0 → along p (main_axis f.support) ≡ pos 0 → HasNoNormal p

joined : (f : Face) (g h i : Plane) (ps : List Plane) (a b c : Spot) (ms : List Spot) →
    IsOutline f (ring_edges (λ v. v) (g ∷ h ∷ i ∷ ps) (a ∷ b ∷ c ∷ ms)) → AreFirst f a b c
joined f g h i ps a b c ms o =
    let j : Joins f g h a b c = record { first = o.round.0; second = o.round.1.0; apart = o.once.0.0 } in
    record {
      inside = λ k l. close_inside f g h a b c j (ring_edges (λ v. v) (g ∷ h ∷ i ∷ ps) (a ∷ b ∷ c ∷ ms)) o k l;
      apart = λ p x y z e. no_normal f g h a b c j p (record { first = x; second = y; third = z }) e;
    }

-- the first three corners of a face
pub first_corners : (f : Face) (ms : List Spot) (a b c : Spot) → AreCorners (λ v. v) f ms → slice_get ms 0 ≡ Some a →
    slice_get ms 1 ≡ Some b → slice_get ms 2 ≡ Some c → AreFirst f a b c
first_corners f ms a b c k ea eb ec = by k.planes ms ea eb ec k.paired k.outline
  where
    same : {x y : Spot} → Some x ≡ Some y → x ≡ y
    same e = cc

    no : {x : Spot} → None ≡ Some x → ⊥
    no e = cc

    by : (ps : List Plane) (ms : List Spot) → slice_get ms 0 ≡ Some a → slice_get ms 1 ≡ Some b →
        slice_get ms 2 ≡ Some c → length ms ≡ length ps → IsOutline f (ring_edges (λ v. v) ps ms) → AreFirst f a b c
    by ps [] ea eb ec l o = absurd (no ea)
    by ps (x ∷ []) ea eb ec l o = absurd (no eb)
    by ps (x ∷ y ∷ []) ea eb ec l o = absurd (no ec)
    by [] (x ∷ y ∷ z ∷ ms) ea eb ec l o = absurd (omega (arith, l))
    by (g ∷ []) (x ∷ y ∷ z ∷ ms) ea eb ec l o = absurd (omega (arith, l))
    by (g ∷ h ∷ []) (x ∷ y ∷ z ∷ ms) ea eb ec l o = absurd (omega (arith, l))
    by (g ∷ h ∷ i ∷ ps) (x ∷ y ∷ z ∷ ms) ea eb ec l o =
        let p = same ea in let q = same eb in let r = same ec in
        subst (λ (a : Spot). AreFirst f a b c) p
        (subst (λ (b : Spot). AreFirst f x b c) q
        (subst (λ (c : Spot). AreFirst f x y c) r (joined f g h i ps x y z ms o)))

-- ---- corners as points
module _ {M : Type 0} (spot : M → Spot) where
  edges_as_points : (ps : List Plane) (ms : List M) → ring_edges spot ps ms ≡ ring_edges (λ v. v) ps (map spot ms)
  edges_as_points [] ms = refl
  edges_as_points (p ∷ ps) [] = refl
  edges_as_points (p ∷ ps) (m ∷ ms) = let r = edges_as_points ps ms in λ i. record { plane = p; start = spot m } ∷ r i

  -- the corners of a face are corners as the points that they represent
  pub corners_as_points : (f : Face) (ms : List M) → AreCorners spot f ms → AreCorners (λ v. v) f (map spot ms)
  corners_as_points f ms k =
      record {
        planes = k.planes;
        outline = subst (IsOutline f) (edges_as_points k.planes ms) k.outline;
        paired = length-map ms spot ∙ k.paired;
        three = subst (λ n. 3 ≤ n) (sym (length-map ms spot)) k.three;
      }

  -- the one with an index
  pub point_at : (ms : List M) (i : ℕ) (m : M) → slice_get ms i ≡ Some m → slice_get (map spot ms) i ≡ Some (spot m)
  point_at [] i m e = absurd (by e)
    where
      by : None ≡ Some m → ⊥
      by e = cc
  point_at (x ∷ ms) zero m e = by e
    where
      by : Some x ≡ Some m → Some (spot x) ≡ Some (spot m)
      by e = cc
  point_at (x ∷ ms) (suc i) m e = point_at ms i m e
