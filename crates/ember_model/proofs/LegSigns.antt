-- What code tests: the crossing of a segment along an axis with a triangle's face by four signs at its ends.
use Rattle.std.proofs.Common.{◌≡◌, ◌≢◌, refl, sym, ap, subst, ◌∙◌, arith, Bool, true, false, cond, ◌&&◌, List, ℤ, pos, ◌+ℤ◌, ◌-ℤ◌, ◌*ℤ◌, neg_ℤ, ◌<ℤ◌}
use lib.IntN.{*ℤ_comm, +ℤ_comm, zero-*ℤ}
use Rattle.ember_algebra.proofs.Ring.{◌⊗◌, ◌≈◌, solve, cancels}
use Rattle.ember_algebra.specs.Sign.{sign, sgn, is_neg, is_negative}
use Rattle.ember_algebra.proofs.Laws.{linear, one-*ℤ}
use Rattle.ember_algebra.proofs.Order.{by_sign, square_nonneg, pos_mul, sign_scaled}
use Rattle.ember_algebra.proofs.Booleans.{cond_and_nested}
use Rattle.ember_model.specs.declared.point.Corner.{Corner}
use Rattle.ember_model.specs.declared.tri.Tri.{Tri}
use Rattle.ember_model.specs.declared.plane.Plane.{Plane}
use Rattle.ember_model.specs.declared.point.Spot.{Spot}
use Rattle.ember_model.specs.declared.point.Axis.{Axis}
use Rattle.ember_model.specs.declared.point.Axis.TheVariants.{X, Y, Z}
use Rattle.ember_model.specs.Planes.{value_at, along, unit, support_of, times_plane, edge_through, edge_planes}
use Rattle.ember_model.specs.Points.{scaled, moved, DifferAlong}
use Rattle.ember_model.specs.Faces.{size, hit, between, edges_of, face_of, leg}
use Rattle.ember_model.specs.ClearTest.{all_negative}
use Rattle.ember_model.proofs.SignTests.{negative_not, sgn_scaled, zero_scaled, clash, and_true}
use Rattle.ember_model.proofs.PlaneValues.{value_scaled, value_times, value_moved}
use Rattle.ember_model.proofs.Hits.{Scales, same_all_negative}
use Rattle.ember_model.proofs.Legs.{hit_moved, value_between, between_scales, leg_off, leg_on, LegCase, off, stay, touch, pass, leg_cases}
use Rattle.ember_model.proofs.ScaledPoints.{leg_scaled}
use Rattle.ember_model.proofs.FourSigns.{hit_edges}

-- ---- points of one line along an axis, with one weight
-- a point moved by 0 is the same
pub moved_zero : (p : Spot) (a : Axis) → moved p a (pos 0) ≡ p
moved_zero p X = let e : p.x +ℤ pos 0 ≡ p.x = omega (arith, linear) in λ i. record p { x = e i }
moved_zero p Y = let e : p.y +ℤ pos 0 ≡ p.y = omega (arith, linear) in λ i. record p { y = e i }
moved_zero p Z = let e : p.z +ℤ pos 0 ≡ p.z = omega (arith, linear) in λ i. record p { z = e i }

-- a point moved there and back is the same
pub moved_back : (p : Spot) (a : Axis) (c : ℤ) → p ≡ moved (moved p a c) a (neg_ℤ c)
moved_back p X c = let e : p.x ≡ p.x +ℤ c +ℤ neg_ℤ c = omega (arith, linear) in λ i. record p { x = e i }
moved_back p Y c = let e : p.y ≡ p.y +ℤ c +ℤ neg_ℤ c = omega (arith, linear) in λ i. record p { y = e i }
moved_back p Z c = let e : p.z ≡ p.z +ℤ c +ℤ neg_ℤ c = omega (arith, linear) in λ i. record p { z = e i }

-- ---- any weights
abbrev pub gap_along : Axis → Spot → Spot → ℤ
gap_along X p q = q.x -ℤ p.x
gap_along Y p q = q.y -ℤ p.y
gap_along Z p q = q.z -ℤ p.z

-- two points that differ along an axis: the one, scaled, is the other, scaled and moved along it
pub is_moved : (a : Axis) (p q : Spot) → DifferAlong a p q → scaled p.w q ≡ moved (scaled q.w p) a (gap_along a (scaled q.w p) (scaled p.w q))
is_moved X p q d =
    let x : p.w *ℤ q.x ≡ q.w *ℤ p.x +ℤ (p.w *ℤ q.x -ℤ q.w *ℤ p.x) = omega (arith, linear) in let w = *ℤ_comm p.w q.w in
    λ i. record { x = x i; y = (sym d.0) i; z = (sym d.1) i; w = w i }
is_moved Y p q d =
    let y : p.w *ℤ q.y ≡ q.w *ℤ p.y +ℤ (p.w *ℤ q.y -ℤ q.w *ℤ p.y) = omega (arith, linear) in let w = *ℤ_comm p.w q.w in
    λ i. record { x = (sym d.0) i; y = y i; z = (sym d.1) i; w = w i }
is_moved Z p q d =
    let z : p.w *ℤ q.z ≡ q.w *ℤ p.z +ℤ (p.w *ℤ q.z -ℤ q.w *ℤ p.z) = omega (arith, linear) in let w = *ℤ_comm p.w q.w in
    λ i. record { x = (sym d.0) i; y = (sym d.1) i; z = z i; w = w i }

-- ---- the point of the segment is the place of the hit
-- the crossing of a segment along an axis with a triangle's face, by four signs at its ends
abbrev pub leg_by_signs : Axis → Spot → Spot → Tri → ℤ
leg_by_signs a p q t =
    cond (is_negative (value_at (support_of t) p *ℤ value_at (support_of t) q) && all_negative (edge_planes t a) p) (sign (value_at (support_of t) q)) (pos 0)

turned_place : (n : Plane) (p q : Spot) → Scales (pos 1) (between n p q) (between n q p)
turned_place n p q g =
    value_between g n q p ∙ +ℤ_comm (size (value_at n p) *ℤ value_at g q) (size (value_at n q) *ℤ value_at g p)
    ∙ sym (value_between g n p q) ∙ sym (one-*ℤ (value_at g (between n p q)))

-- if the signs differ, the point between is the place of the hit
forward_place : (n : Plane) (es : List Plane) (a : Axis) (p : Spot) (c : ℤ) → pos 0 <ℤ c →
    is_negative (value_at n p *ℤ value_at n (moved p a c)) ≡ true →
    all_negative es (between n p (moved p a c)) ≡ all_negative es (hit n a p)
forward_place n es a p c l e = by (leg_cases (value_at n p) (along n a) (value_at n (moved p a c)) c l (value_moved n p a c))
  where
    by : LegCase (value_at n p) (along n a) (value_at n (moved p a c)) → all_negative es (between n p (moved p a c)) ≡ all_negative es (hit n a p)
    by (off x y z) = absurd (clash e z)
    by (stay x y z) = absurd (clash e z)
    by (touch x y z t nz) = absurd (clash e z)
    by (pass x y z sg sz) = same_all_negative c (hit n a p) (between n p (moved p a c)) es l (between_scales n a p c sg sz)

same_square : (n : Plane) (p q : Spot) → value_at n q ≡ value_at n p → is_negative (value_at n p *ℤ value_at n q) ≡ true → ⊥
same_square n p q e t =
    clash t (ap (λ (v : ℤ). is_negative (value_at n p *ℤ v)) e ∙ negative_not (value_at n p *ℤ value_at n p) (square_nonneg (value_at n p)))

hit_between : (n : Plane) (es : List Plane) (a : Axis) (p q : Spot) (c : ℤ) → q ≡ moved p a c →
    is_negative (value_at n p *ℤ value_at n q) ≡ true → all_negative es (between n p q) ≡ all_negative es (hit n a p)
hit_between n es a p q c e t =
    by_sign c
    (λ l. subst (λ (q : Spot). is_negative (value_at n p *ℤ value_at n q) ≡ true →
    all_negative es (between n p q) ≡ all_negative es (hit n a p)) (sym e) (forward_place n es a p c l) t)
    (λ z. absurd (same_square n p q (ap (value_at n) e ∙ value_moved n p a c
    ∙ (let r = ap (λ (x : ℤ). x *ℤ along n a) z ∙ zero-*ℤ (along n a) in omega (arith, linear, r))) t))
    (λ l. let f : p ≡ moved q a (neg_ℤ c) = moved_back p a c ∙ ap (λ (q : Spot). moved q a (neg_ℤ c)) (sym e) in
    let m : pos 0 <ℤ neg_ℤ c = omega (arith, linear) in
    let back = subst (λ (p : Spot). is_negative (value_at n q *ℤ value_at n p) ≡ true →
    all_negative es (between n q p) ≡ all_negative es (hit n a q)) (sym f) (forward_place n es a q (neg_ℤ c) m)
    (ap is_negative (*ℤ_comm (value_at n q) (value_at n p)) ∙ t) in
    let u = same_all_negative (pos 1) (between n p q) (between n q p) es (omega (arith, linear)) (turned_place n p q) in
    let v = same_all_negative (pos 1) (hit n a p) (hit n a q) es (omega (arith, linear))
    (λ g. ap (λ (q : Spot). value_at g (hit n a q)) e ∙ hit_moved g n a p c ∙ sym (one-*ℤ (value_at g (hit n a p))))
    in
    sym u ∙ back ∙ v)

leg_one : (a : Axis) (p q : Spot) (c : ℤ) (t : Tri) → pos 0 <ℤ p.w → pos 0 <ℤ q.w → q ≡ moved p a c → leg (face_of t) p q ≡ leg_by_signs a p q t
unfolding face_of
leg_one a p q c t wp wq e =
    let n = support_of t in let v = value_at n p *ℤ value_at n q in
    let on : is_negative v ≡ true → leg (face_of t) p q ≡ leg_by_signs a p q t = λ x.
    let nz : along n a ≢ pos 0 = λ z. same_square n p q
    (ap (value_at n) e ∙ value_moved n p a c ∙ (let r = zero_scaled c (along n a) z in omega (arith, linear, r))) x in
    let h = hit_between n (edges_of t) a p q c e x ∙ hit_edges t a p wp nz in
    leg_on (face_of t) p q (all_negative (edge_planes t a) p) (sign (value_at n q)) wp wq x h refl
    ∙ sym (ap (λ (b : Bool). cond (b && all_negative (edge_planes t a) p) (sign (value_at n q)) (pos 0)) x) in
    let off' : is_negative v ≡ false → leg (face_of t) p q ≡ leg_by_signs a p q t = λ x.
    leg_off (face_of t) p q x ∙ sym (ap (λ (b : Bool). cond (b && all_negative (edge_planes t a) p) (sign (value_at n q)) (pos 0)) x) in
    split (is_negative v) on off'
  where
    split : {A : Type 0} (b : Bool) → (b ≡ true → A) → (b ≡ false → A) → A
    split true f g = f refl
    split false f g = g refl

by_signs_scaled : (a : Axis) (k m : ℤ) (p q : Spot) (t : Tri) → pos 0 <ℤ k → pos 0 <ℤ m → leg_by_signs a (scaled k p) (scaled m q) t ≡ leg_by_signs a p q t
by_signs_scaled a k m p q t lk lm =
    let n = support_of t in
    let v : value_at n (scaled k p) *ℤ value_at n (scaled m q) ≡ (k *ℤ m) *ℤ (value_at n p *ℤ value_at n q) =
    (let x = value_scaled k n p in let y = value_scaled m n q in λ i. x i *ℤ y i)
    ∙ solve 4 (λ k m a b. k ⊗ a ⊗ (m ⊗ b) ≈ k ⊗ m ⊗ (a ⊗ b)) cancels k m (value_at n p) (value_at n q) in
    let x = ap is_neg (ap sgn v ∙ sgn_scaled (value_at n p *ℤ value_at n q) (pos_mul lk lm)) in
    let y = same_all_negative k p (scaled k p) (edge_planes t a) lk (λ g. value_scaled k g p) in
    let z = ap sign (value_scaled m n q) ∙ sign_scaled (value_at n q) lm in
    λ i. cond (x i && y i) (z i) (pos 0)

-- the crossing of a segment along an axis with a triangle's face, by signs
pub leg_is : (a : Axis) (p q : Spot) (t : Tri) → pos 0 <ℤ p.w → pos 0 <ℤ q.w → DifferAlong a p q → leg (face_of t) p q ≡ leg_by_signs a p q t
leg_is a p q t lp lq d =
    sym (leg_scaled (face_of t) q.w p.w p q lq lp)
    ∙ leg_one a (scaled q.w p) (scaled p.w q) (gap_along a (scaled q.w p) (scaled p.w q)) t (pos_mul lq lp)
    (pos_mul lp lq) (is_moved a p q d) ∙ by_signs_scaled a q.w p.w p q t lq lp

-- ---- the planes through the edges, with the triangle's sign
abbrev edge : Corner → Corner → Axis → Spot → ℤ
edge u v a p = value_at (edge_through u v (unit a)) p

abbrev pub behind : Axis → Spot → Tri → Bool
behind a p t =
    let s = sign (along (support_of t) a) in
    is_negative (s *ℤ edge t.a t.b a p) && (is_negative (s *ℤ edge t.b t.c a p) && is_negative (s *ℤ edge t.c t.a a p))

edges_behind : (a : Axis) (p : Spot) (t : Tri) → all_negative (edge_planes t a) p ≡ behind a p t
edges_behind a p t =
    let s = sign (along (support_of t) a) in
    let x = ap is_negative (value_times s (edge_through t.a t.b (unit a)) p) in
    let y = ap is_negative (value_times s (edge_through t.b t.c (unit a)) p) in
    let z = and_true (is_negative (value_at (times_plane s (edge_through t.c t.a (unit a))) p))
    ∙ ap is_negative (value_times s (edge_through t.c t.a (unit a)) p) in
    λ i. x i && (y i && z i)

-- the crossing of a segment along an axis, by the triangle's edge planes along that axis
pub leg_behind : (a : Axis) (p q : Spot) (t : Tri) → pos 0 <ℤ p.w → pos 0 <ℤ q.w → DifferAlong a p q →
    leg (face_of t) p q ≡ cond (behind a p t) (cond (is_negative (value_at (support_of t) p *ℤ value_at (support_of t) q))
    (sign (value_at (support_of t) q)) (pos 0)) (pos 0)
leg_behind a p q t wp wq d =
    let n = support_of t in let m = is_negative (value_at n p *ℤ value_at n q) in let v = sign (value_at n q) in
    leg_is a p q t wp wq d ∙ ap (λ (b : Bool). cond (m && b) v (pos 0)) (edges_behind a p t) ∙ cond_and_nested m (behind a p t) v
