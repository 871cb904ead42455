-- What code tests: the crossing of a ray with a triangle's face by four signs at the point itself, with no hit.
use Rattle.std.proofs.Common.{◌≡◌, ◌≢◌, refl, sym, ap, ◌∙◌, arith, Bool, true, cond, ◌&&◌, ℤ, pos, negsuc, ◌*ℤ◌, ◌<ℤ◌}
use lib.IntN.{*ℤ_comm}
use Rattle.ember_algebra.specs.declared.Sign.{Sign}
use Rattle.ember_algebra.specs.declared.Sign.TheVariants.{Neg, Zero, Pos}
use Rattle.ember_algebra.specs.Vector.{dot, cross}
use Rattle.ember_algebra.specs.Sign.{sign, sgn, flip, times, is_neg, is_pos, is_negative, is_positive, same_sgn}
use Rattle.ember_algebra.proofs.Laws.{linear, one-*ℤ}
use Rattle.ember_algebra.proofs.Order.{by_sign, sign_pos, sign_neg}
use Rattle.ember_algebra.proofs.Signs.{sgn-mul, sgn-neg, sgn_neg, signs, is_neg-flip}
use Rattle.ember_model.specs.declared.point.Corner.{Corner}
use Rattle.ember_model.specs.declared.tri.Tri.{Tri}
use Rattle.ember_model.specs.declared.plane.Plane.{Plane}
use Rattle.ember_model.specs.declared.point.Spot.{Spot}
use Rattle.ember_model.specs.declared.point.Axis.{Axis}
use Rattle.ember_model.specs.Planes.{unit, value_at, along, main_axis, times_plane, support_of, edge_through, edge_planes}
use Rattle.ember_model.specs.Faces.{hit, edges_of, face_of, crossing}
use Rattle.ember_model.specs.ClearTest.{all_negative}
use Rattle.ember_model.proofs.SignTests.{ap2, sgn_scaled, same_sgn_out, zero_scaled, negative_not, and_true}
use Rattle.ember_model.proofs.PlaneValues.{value_times, sgn-sign, seen, edge_value}
use Rattle.ember_model.proofs.Hits.{crossing_off, crossing_across}
use Rattle.ember_model.proofs.SeenCrossings.{edge_sign, first_edge, second_edge, third_edge, main_zero}

-- ---- the edge planes along a at p have the signs of those along the main axis at the hit
flip_times : (n x : Sign) → times n (flip x) ≡ flip (times n x)
flip_times n x = same_sgn_out _ _ (signs 2 (λ n x. same_sgn (times n (flip x)) (flip (times n x))) tt n x)

-- the sign of an edge plane at a point, by the edge's corners seen from it
pub at_point : (u v : Corner) (a : Axis) (s : ℤ) (p : Spot) → pos 0 <ℤ p.w →
    sgn (value_at (times_plane (sign s) (edge_through u v (unit a))) p) ≡ flip
    (times (sgn s) (sgn (dot (unit a) (cross (seen p u) (seen p v)))))
at_point u v a s p w =
    let x = value_at (edge_through u v (unit a)) p in let d = dot (unit a) (cross (seen p u) (seen p v)) in
    ap sgn (value_times (sign s) (edge_through u v (unit a)) p) ∙ sgn-mul (sign s) x
    ∙ ap2 times (sgn-sign s) (sym (sgn_scaled x w) ∙ ap sgn (edge_value u v (unit a) p) ∙ sgn-neg d)
    ∙ flip_times (sgn s) (sgn d)

-- a ray's hit is inside a triangle's edges exactly if the ray's start is inside its edge planes along the axis
pub hit_edges : (t : Tri) (a : Axis) (p : Spot) → pos 0 <ℤ p.w → along (support_of t) a ≢ pos 0 →
    all_negative (edges_of t) (hit (support_of t) a p) ≡ all_negative (edge_planes t a) p
hit_edges t a p w na =
    let n = support_of t in let k = main_axis n in let f = unit a in let nk : along n k ≢ pos 0 = λ z. na (main_zero n a z) in
    let x = edge_sign n (edge_through t.a t.b (unit k)) p a k (dot f (cross (seen p t.a) (seen p t.b))) w nk
    (first_edge t p f (unit k)) ∙ sym (at_point t.a t.b a (along n a) p w) in
    let y = edge_sign n (edge_through t.b t.c (unit k)) p a k (dot f (cross (seen p t.b) (seen p t.c))) w nk
    (second_edge t p f (unit k)) ∙ sym (at_point t.b t.c a (along n a) p w) in
    let z = edge_sign n (edge_through t.c t.a (unit k)) p a k (dot f (cross (seen p t.c) (seen p t.a))) w nk
    (third_edge t p f (unit k)) ∙ sym (at_point t.c t.a a (along n a) p w) in
    λ i. is_neg (x i) && (is_neg (y i) && (is_neg (z i) && true))

-- ---- rays
-- the crossing of a ray with a triangle's face, by four signs at its start
abbrev pub crossing_by_signs : Axis → Spot → Tri → ℤ
crossing_by_signs a p t =
    cond (is_negative (value_at (support_of t) p *ℤ along (support_of t) a) && all_negative (edge_planes t a) p) (sign (along (support_of t) a)) (pos 0)

-- the crossing of a ray with a triangle's face, by the signs of four values
pub crossing_is : (a : Axis) (p : Spot) (t : Tri) → pos 0 <ℤ p.w → crossing (face_of t) a p ≡ crossing_by_signs a p t
unfolding face_of
crossing_is a p t w =
    let n = support_of t in let v = value_at n p *ℤ along n a in
    let on : along n a ≢ pos 0 → crossing (face_of t) a p ≡ crossing_by_signs a p t = λ nz.
    crossing_across (face_of t) a p w nz ∙ (let e = hit_edges t a p w nz in λ i. cond (is_negative v && e i) (sign (along n a)) (pos 0)) in
    let off : along n a ≡ pos 0 → crossing (face_of t) a p ≡ crossing_by_signs a p t = λ z.
    let e = negative_not v (let r = zero_scaled (value_at n p) (along n a) z in omega (arith, linear, r)) in
    crossing_off (face_of t) a p e ∙ sym (ap (λ (b : Bool). cond (b && all_negative (edge_planes t a) p) (sign (along n a)) (pos 0)) e) in
    by_sign (along n a) (λ l. on (λ z. omega (arith, linear))) off (λ l. on (λ z. omega (arith, linear)))

-- ---- by the sign of the normal's entry along the axis
minus_times : (s : Sign) → is_neg (times s Neg) ≡ is_pos s
minus_times Neg = refl
minus_times Zero = refl
minus_times Pos = refl

-- the planes through the edges along a, without the triangle's sign
abbrev edge : Corner → Corner → Axis → Spot → ℤ
edge u v a p = value_at (edge_through u v (unit a)) p

abbrev pub low : Axis → Spot → Tri → Bool
low a p t =
    is_negative (value_at (support_of t) p) && (is_negative (edge t.a t.b a p) && (is_negative (edge t.b t.c a p) && is_negative (edge t.c t.a a p)))

abbrev pub high : Axis → Spot → Tri → Bool
high a p t =
    is_positive (value_at (support_of t) p) && (is_positive (edge t.a t.b a p) && (is_positive (edge t.b t.c a p) && is_positive (edge t.c t.a a p)))

kept_plane : (k : ℤ) (g : Plane) (p : Spot) → pos 0 <ℤ k → is_negative (value_at (times_plane (sign k) g) p) ≡ is_negative (value_at g p)
kept_plane k g p l = ap is_negative (value_times (sign k) g p ∙ ap (λ (s : ℤ). s *ℤ value_at g p) (sign_pos l) ∙ one-*ℤ (value_at g p))

turned_plane : (k : ℤ) (g : Plane) (p : Spot) → k <ℤ pos 0 → is_negative (value_at (times_plane (sign k) g) p) ≡ is_positive (value_at g p)
turned_plane k g p l =
    ap is_neg (ap sgn (value_times (sign k) g p ∙ ap (λ (s : ℤ). s *ℤ value_at g p) (sign_neg l))
    ∙ sgn-mul (negsuc 0) (value_at g p)) ∙ is_neg-flip (sgn (value_at g p))

-- a triangle whose plane rises along the axis is crossed upward or not at all
pub rising_plane_crosses_up : (a : Axis) (p : Spot) (t : Tri) → pos 0 <ℤ along (support_of t) a → crossing_by_signs a p t ≡ cond (low a p t) (pos 1) (pos 0)
rising_plane_crosses_up a p t l =
    let k = along (support_of t) a in let s = value_at (support_of t) p in
    let x = ap is_neg (ap sgn (*ℤ_comm s k) ∙ sgn_scaled s l) in
    let e = kept_plane k (edge_through t.a t.b (unit a)) p l in let f = kept_plane k (edge_through t.b t.c (unit a)) p l in
    let g = and_true (is_negative (value_at (times_plane (sign k) (edge_through t.c t.a (unit a))) p)) ∙ kept_plane k (edge_through t.c t.a (unit a)) p l in
    let v = sign_pos l in λ i. cond (x i && (e i && (f i && g i))) (v i) (pos 0)

-- a triangle whose plane falls along the axis is crossed downward or not at all
pub falling_plane_crosses_down : (a : Axis) (p : Spot) (t : Tri) → along (support_of t) a <ℤ pos 0 →
    crossing_by_signs a p t ≡ cond (high a p t) (negsuc 0) (pos 0)
falling_plane_crosses_down a p t l =
    let k = along (support_of t) a in let s = value_at (support_of t) p in
    let x = ap is_neg (sgn-mul s k ∙ ap (λ (q : Sign). times (sgn s) q) (sgn_neg l)) ∙ minus_times (sgn s) in
    let e = turned_plane k (edge_through t.a t.b (unit a)) p l in let f = turned_plane k (edge_through t.b t.c (unit a)) p l in
    let g = and_true (is_negative (value_at (times_plane (sign k) (edge_through t.c t.a (unit a))) p)) ∙ turned_plane k (edge_through t.c t.a (unit a)) p l in
    let v = sign_neg l in λ i. cond (x i && (e i && (f i && g i))) (v i) (pos 0)

-- a ray parallel to the triangle's plane has no crossing
pub level_plane_is_not_crossed : (a : Axis) (p : Spot) (t : Tri) → along (support_of t) a ≡ pos 0 → crossing_by_signs a p t ≡ pos 0
level_plane_is_not_crossed a p t z =
    let k = along (support_of t) a in let s = value_at (support_of t) p in
    let x = ap is_negative (zero_scaled s k z) in
    λ i. cond (x i && all_negative (edge_planes t a) p) (sign k) (pos 0)
