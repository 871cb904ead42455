-- The crossing of a triangle's face by the signs of its corners seen from the point: the main axis plays no part.
use Rattle.std.proofs.Common.{◌≡◌, ◌≢◌, refl, sym, ap, ◌∙◌, arith, Bool, true, false, cond, not, T, ◌&&◌, [], ◌∷◌, ℤ}
use Rattle.std.proofs.Common.{pos, negsuc, zero, suc, ◌+ℤ◌, ◌-ℤ◌, ◌*ℤ◌, neg_ℤ, ◌<ℤ◌, unsigned_abs, leb, ◌≤◌}
use borrow.Author.Tests.{true-leb, false-leb}
use Rattle.ember_algebra.specs.Vector.{Vector, dot, cross, det, normal}
use Rattle.ember_algebra.specs.declared.Sign.{Sign}
use Rattle.ember_algebra.specs.declared.Sign.TheVariants.{Zero}
use Rattle.ember_algebra.specs.Sign.{sign, sgn, number, flip, times, is_neg, is_nil, same_sgn}
use Rattle.ember_algebra.proofs.Laws.{linear}
use Rattle.ember_algebra.proofs.Order.{by_sign, pos_mul}
use Rattle.ember_algebra.proofs.Ring.{◌⊕◌, ◌⊖◌, ◌⊗◌, ◌≈◌, neg, solve, cancels}
use Rattle.ember_algebra.proofs.Vectors.{vector, tuple, identity, dotE, crossE, normalE, vector_partE, valueE}
use Rattle.ember_algebra.proofs.Signs.{sgn-mul, sgn-neg, sum3, sum3_from, not_null, signs, same_z, same_z_out, ◌⇒◌, use_if}
use Rattle.ember_algebra.proofs.Quadrant.{crossing as sign_crossing}
use Rattle.ember_algebra.proofs.QuadrantLaw.{crossing_along}
use Rattle.ember_model.specs.declared.tri.Tri.{Tri}
use Rattle.ember_model.specs.declared.plane.Plane.{Plane}
use Rattle.ember_model.specs.declared.point.Spot.{Spot}
use Rattle.ember_model.specs.declared.point.Axis.{Axis}
use Rattle.ember_model.specs.declared.point.Axis.TheVariants.{X, Y, Z}
use Rattle.ember_model.specs.Planes.{vector_of, unit, value_at, along, main_axis, times_plane, support_of, edge_through}
use Rattle.ember_model.specs.Faces.{hit, face_of, crossing}
use Rattle.ember_model.proofs.SignTests.{ap2, sgn_scaled, same_sgn_out, zero_scaled, negative_not}
use Rattle.ember_model.proofs.PlaneValues.{value_times, value_hit, size-is, sign-number, sgn-sign, along_dot}
use Rattle.ember_model.proofs.PlaneValues.{cross_product, seen, tuple_of, seenE, supportE, edgeE, support_value}
use Rattle.ember_model.proofs.PlaneValues.{normal_value}
use Rattle.ember_model.proofs.Hits.{crossing_off, crossing_across}

-- ---- an edge plane at the hit
-- the identity behind it, for each of the three edges
pub first_edge : (t : Tri) (p : Spot) (f g : Vector) →
    dot (cross_product (support_of t)) f *ℤ (p.w *ℤ value_at (edge_through t.a t.b g) p) -ℤ value_at (support_of t) p *ℤ
    (p.w *ℤ dot (cross_product (edge_through t.a t.b g)) f) ≡ neg_ℤ
    (dot (cross_product (support_of t)) g *ℤ dot f (cross (seen p t.a) (seen p t.b)))
first_edge t p f g =
    identity (vector ∷ vector ∷ vector ∷ tuple ∷ vector ∷ vector ∷ [])
    (λ a b c p f g. dotE (vector_partE (supportE a b c)) f ⊗ (p.w ⊗ valueE (edgeE a b g) p) ⊖ valueE (supportE a b c)
    p ⊗ (p.w ⊗ dotE (vector_partE (edgeE a b g)) f) ≈ neg
    (dotE (vector_partE (supportE a b c)) g ⊗ dotE f (crossE (seenE p a) (seenE p b)))) cancels (vector_of t.a)
    (vector_of t.b) (vector_of t.c) (tuple_of p) f g

-- the same for the second edge
pub second_edge : (t : Tri) (p : Spot) (f g : Vector) →
    dot (cross_product (support_of t)) f *ℤ (p.w *ℤ value_at (edge_through t.b t.c g) p) -ℤ value_at (support_of t) p *ℤ
    (p.w *ℤ dot (cross_product (edge_through t.b t.c g)) f) ≡ neg_ℤ
    (dot (cross_product (support_of t)) g *ℤ dot f (cross (seen p t.b) (seen p t.c)))
second_edge t p f g =
    identity (vector ∷ vector ∷ vector ∷ tuple ∷ vector ∷ vector ∷ [])
    (λ a b c p f g. dotE (vector_partE (supportE a b c)) f ⊗ (p.w ⊗ valueE (edgeE b c g) p) ⊖ valueE (supportE a b c)
    p ⊗ (p.w ⊗ dotE (vector_partE (edgeE b c g)) f) ≈ neg
    (dotE (vector_partE (supportE a b c)) g ⊗ dotE f (crossE (seenE p b) (seenE p c)))) cancels (vector_of t.a)
    (vector_of t.b) (vector_of t.c) (tuple_of p) f g

-- the same for the third edge
pub third_edge : (t : Tri) (p : Spot) (f g : Vector) →
    dot (cross_product (support_of t)) f *ℤ (p.w *ℤ value_at (edge_through t.c t.a g) p) -ℤ value_at (support_of t) p *ℤ
    (p.w *ℤ dot (cross_product (edge_through t.c t.a g)) f) ≡ neg_ℤ
    (dot (cross_product (support_of t)) g *ℤ dot f (cross (seen p t.c) (seen p t.a)))
third_edge t p f g =
    identity (vector ∷ vector ∷ vector ∷ tuple ∷ vector ∷ vector ∷ [])
    (λ a b c p f g. dotE (vector_partE (supportE a b c)) f ⊗ (p.w ⊗ valueE (edgeE c a g) p) ⊖ valueE (supportE a b c)
    p ⊗ (p.w ⊗ dotE (vector_partE (edgeE c a g)) f) ≈ neg
    (dotE (vector_partE (supportE a b c)) g ⊗ dotE f (crossE (seenE p c) (seenE p a)))) cancels (vector_of t.a)
    (vector_of t.b) (vector_of t.c) (tuple_of p) f g

-- the value of any plane q with that identity, times the weight
at_hit : (n q : Plane) (p : Spot) (a k : Axis) (x : ℤ) →
    dot (cross_product n) (unit a) *ℤ (p.w *ℤ value_at q p) -ℤ value_at n p *ℤ (p.w *ℤ dot (cross_product q) (unit a))
    ≡ neg_ℤ (dot (cross_product n) (unit k) *ℤ x) →
    p.w *ℤ value_at q (hit n a p) ≡ neg_ℤ (sign (along n a) *ℤ (along n k *ℤ x))
at_hit n q p a k x h =
    let e = value_hit q n a p in
    rw (e, size-is (along n a), along_dot q a, along_dot n k)
    (omega (
      arith,
      linear,
      ap (λ (z : ℤ). sign (along n a) *ℤ z) h,
      solve 6 (λ w s na v sv qa. w ⊗ (s ⊗ na ⊗ v ⊖ s ⊗ sv ⊗ qa) ≈ s ⊗ (na ⊗ (w ⊗ v) ⊖ sv ⊗ (w ⊗ qa))) cancels p.w
          (sign (along n a)) (along n a) (value_at q p) (value_at n p) (dot (cross_product q) (unit a)),
      along_dot n a,
      ap (λ (z : ℤ). sign (along n a) *ℤ (z *ℤ (p.w *ℤ value_at q p) -ℤ value_at n p *ℤ
          (p.w *ℤ dot (cross_product q) (unit a)))) (along_dot n a),
      solve 3 (λ s k x. s ⊗ neg (k ⊗ x) ≈ neg (s ⊗ (k ⊗ x))) cancels (sign (along n a)) (dot (cross_product n) (unit k))
          x,
    ))

twice : (k a x : Sign) → T (not (is_nil k)) → times k (flip (times a (times k x))) ≡ flip (times a x)
twice k a x t =
    same_sgn_out _ _ (use_if (not (is_nil k)) _ (signs 3
    (λ k a x. not (is_nil k) ⇒ same_sgn (times k (flip (times a (times k x)))) (flip (times a x))) tt k a x) t)

-- its sign, with the factor that the edge plane has
pub edge_sign : (n q : Plane) (p : Spot) (a k : Axis) (x : ℤ) → pos 0 <ℤ p.w → along n k ≢ pos 0 →
    dot (cross_product n) (unit a) *ℤ (p.w *ℤ value_at q p) -ℤ value_at n p *ℤ (p.w *ℤ dot (cross_product q) (unit a))
    ≡ neg_ℤ (dot (cross_product n) (unit k) *ℤ x) →
    sgn (value_at (times_plane (sign (along n k)) q) (hit n a p)) ≡ flip (times (sgn (along n a)) (sgn x))
edge_sign n q p a k x w nk h =
    let c = sign (along n k) in let v = value_at q (hit n a p) in
    ap sgn (value_times c q (hit n a p)) ∙ sgn-mul c v
    ∙ ap2 times (sgn-sign (along n k)) (sym (sgn_scaled v w) ∙ ap sgn (at_hit n q p a k x h)
    ∙ sgn-neg (sign (along n a) *ℤ (along n k *ℤ x))
    ∙ ap flip (sgn-mul (sign (along n a)) (along n k *ℤ x)
    ∙ ap2 times (sgn-sign (along n a)) (sgn-mul (along n k) x)))
    ∙ twice (sgn (along n k)) (sgn (along n a)) (sgn x) (not_null (along n k) nk)

-- ---- the crossing as a function of signs
abbrev form : Sign → Sign → Sign → Sign → ℤ → ℤ
form m g0 g1 g2 v = cond (is_neg m && (is_neg g0 && (is_neg g1 && (is_neg g2 && true)))) v (pos 0)

form_same : {m m' g g' h h' k k' : Sign} {v v' : ℤ} → m ≡ m' → g ≡ g' → h ≡ h' → k ≡ k' → v ≡ v' → form m g h k v ≡ form m' g' h' k' v'
form_same m g h k v = λ i. form (m i) (g i) (h i) (k i) (v i)

by_signs : (s n a b c : Sign) → T (sum3 a b c n) →
    form (times s n) (flip (times n a)) (flip (times n b)) (flip (times n c)) (number n) ≡ sign_crossing (flip s) n a b c
by_signs s n a b c t =
    same_z_out _ _ (use_if (sum3 a b c n) _ (signs 5
    (λ s n a b c. sum3 a b c n ⇒ same_z (form (times s n) (flip (times n a)) (flip (times n b)) (flip (times n c))
    (number n)) (sign_crossing (flip s) n a b c)) tt s n a b c) t)

-- a direction in the plane of a triangle has no crossing
pub no_slope : (d a b c : Sign) → sign_crossing d Zero a b c ≡ pos 0
no_slope d a b c = same_z_out _ _ (signs 4 (λ d a b c. same_z (sign_crossing d Zero a b c) (pos 0)) tt d a b c)

-- ---- the main axis
abs_zero : (z : ℤ) → unsigned_abs z ≤ 0 → z ≡ pos 0
abs_zero (pos zero) l = refl
abs_zero (pos (suc n)) l = absurd (omega arith)
abs_zero (negsuc n) l = absurd (omega arith)

-- a plane whose coefficient along its main axis is 0 has no normal
pub main_zero : (n : Plane) (k : Axis) → along n (main_axis n) ≡ pos 0 → along n k ≡ pos 0
main_zero n k z =
    by (leb (unsigned_abs n.b) (unsigned_abs n.a)) (leb (unsigned_abs n.c) (unsigned_abs n.a)) (leb (unsigned_abs n.c) (unsigned_abs n.b)) refl refl refl z k
  where
    all : n.a ≡ pos 0 → n.b ≡ pos 0 → n.c ≡ pos 0 → (k : Axis) → along n k ≡ pos 0
    all x y z X = x
    all x y z Y = y
    all x y z Z = z

    by : (r s t : Bool) → leb (unsigned_abs n.b) (unsigned_abs n.a) ≡ r →
        leb (unsigned_abs n.c) (unsigned_abs n.a) ≡ s → leb (unsigned_abs n.c) (unsigned_abs n.b) ≡ t →
        along n (cond (r && s) X (cond t Y Z)) ≡ pos 0 → (k : Axis) → along n k ≡ pos 0
    by true true t e f g z =
        let o = ap unsigned_abs z in let e = true-leb _ _ (sym e) in let f = true-leb _ _ (sym f) in
        all z (abs_zero n.b (omega (arith, o, e))) (abs_zero n.c (omega (arith, o, f)))
    by true false true e f g z =
        let o = ap unsigned_abs z in let e = true-leb _ _ (sym e) in let f = false-leb _ _ (sym f) in let g =
        true-leb _ _ (sym g) in all (abs_zero n.a (omega (arith, o, e, f, g))) z (abs_zero n.c (omega (arith, o, g)))
    by true false false e f g z =
        let o = ap unsigned_abs z in let e = true-leb _ _ (sym e) in let f = false-leb _ _ (sym f) in let g =
        false-leb _ _ (sym g) in all (abs_zero n.a (omega (arith, o, e, f, g)))
        (abs_zero n.b (omega (arith, o, e, f, g))) z
    by false s true e f g z =
        let o = ap unsigned_abs z in let e = false-leb _ _ (sym e) in let g = true-leb _ _ (sym g) in
        all (abs_zero n.a (omega (arith, o, e, g))) z (abs_zero n.c (omega (arith, o, g)))
    by false s false e f g z =
        let o = ap unsigned_abs z in let e = false-leb _ _ (sym e) in let g = false-leb _ _ (sym g) in
        all (abs_zero n.a (omega (arith, o, e, g))) (abs_zero n.b (omega (arith, o, e, g))) z

-- ---- the crossing along a direction, by the corners seen from the point
abbrev pub seen_crossing : Vector → Spot → Tri → ℤ
seen_crossing f p t = crossing_along f (seen p t.a) (seen p t.b) (seen p t.c)

pub sum_of : (u v w f : Vector) → dot f (cross u v) +ℤ dot f (cross v w) +ℤ dot f (cross w u) ≡ dot f (normal u v w)
sum_of = identity (vector ∷ vector ∷ vector ∷ vector ∷ [])
    (λ u v w f. dotE f (crossE u v) ⊕ dotE f (crossE v w) ⊕ dotE f (crossE w u) ≈ dotE f (normalE u v w)) cancels

-- the crossing of a triangle's face is the one by the signs of its corners seen from the point
pub crossing_seen : (a : Axis) (p : Spot) (t : Tri) → pos 0 <ℤ p.w → crossing (face_of t) a p ≡ seen_crossing (unit a) p t
unfolding face_of
crossing_seen a p t w =
    let n = support_of t in let k = main_axis n in let f = unit a in
    let u = seen p t.a in let v = seen p t.b in let y = seen p t.c in
    let ww = pos_mul w w in
    let en : sgn (dot f (normal u v y)) ≡ sgn (along n a) =
    ap sgn (normal_value t f p) ∙ sgn_scaled (dot (cross_product n) f) ww ∙ ap sgn (sym (along_dot n a)) in
    let ed : sgn (det u v y) ≡ flip (sgn (value_at n p)) =
    ap sgn (support_value t p) ∙ sgn-neg (p.w *ℤ p.w *ℤ value_at n p) ∙ ap flip (sgn_scaled (value_at n p) ww) in
    let off : along n a ≡ pos 0 → crossing (face_of t) a p ≡ seen_crossing f p t = λ z.
    crossing_off (face_of t) a p (negative_not (value_at n p *ℤ along n a) (let r =
    zero_scaled (value_at n p) (along n a) z in omega (arith, linear, r)))
    ∙ sym (ap (λ (s : Sign). sign_crossing (sgn (det u v y)) s (sgn (dot f (cross u v))) (sgn (dot f (cross v y)))
    (sgn (dot f (cross y u)))) (en ∙ ap sgn z)
    ∙ no_slope (sgn (det u v y)) (sgn (dot f (cross u v))) (sgn (dot f (cross v y))) (sgn (dot f (cross y u)))) in
    let on : along n a ≢ pos 0 → crossing (face_of t) a p ≡ seen_crossing f p t = λ na.
    let nz : along n k ≢ pos 0 = λ z. na (main_zero n a z) in
    crossing_across (face_of t) a p w na ∙ form_same (sgn-mul (value_at n p) (along n a))
    (edge_sign n (edge_through t.a t.b (unit k)) p a k (dot f (cross u v)) w nz (first_edge t p f (unit k)))
    (edge_sign n (edge_through t.b t.c (unit k)) p a k (dot f (cross v y)) w nz (second_edge t p f (unit k)))
    (edge_sign n (edge_through t.c t.a (unit k)) p a k (dot f (cross y u)) w nz (third_edge t p f (unit k)))
    (sign-number (along n a)) ∙ by_signs (sgn (value_at n p)) (sgn (along n a)) (sgn (dot f (cross u v)))
    (sgn (dot f (cross v y))) (sgn (dot f (cross y u)))
    (rw (← en) (sum3_from (dot f (cross u v)) (dot f (cross v y)) (dot f (cross y u)) (dot f (normal u v y))
    (sum_of u v y f))) ∙ sym (λ i. sign_crossing (ed i) (en i) (sgn (dot f (cross u v))) (sgn (dot f (cross v y)))
    (sgn (dot f (cross y u)))) in
    by_sign (along n a) (λ l. on (λ z. omega (arith, linear))) off (λ l. on (λ z. omega (arith, linear)))
