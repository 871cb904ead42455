-- Near a clear point the crossings are those of the point: for any face.
use Rattle.std.proofs.Common.{◌≡◌, ◌≢◌, refl, sym, ap, ◌∙◌, arith, Bool, true, false, cond, not, ◌&&◌, List, [], ◌∷◌, ℤ, pos, negsuc, ◌*ℤ◌, neg_ℤ, ◌<ℤ◌, ◌≤ℤ◌}
use borrow.Author.Differences.{ints}
use lib.IntN.{*ℤ-zero, zero-*ℤ}
use Rattle.std.proofs.lemmas.Bool.{and_parts}
use Rattle.ember_algebra.specs.Sign.{sign, is_negative, is_positive}
use Rattle.ember_algebra.proofs.Laws.{linear}
use Rattle.ember_algebra.proofs.Order.{by_sign, pos_mul, mul_pos_neg, mul_neg_pos, mul_neg_neg, sign_pos, sign_neg}
use Rattle.ember_algebra.proofs.Ring.{◌⊗◌, ◌≈◌, num, solve, cancels}
use Rattle.ember_model.specs.declared.plane.Plane.{Plane}
use Rattle.ember_model.specs.declared.point.Spot.{Spot}
use Rattle.ember_model.specs.declared.point.Axis.{Axis}
use Rattle.ember_model.specs.declared.face.Face.{Face}
use Rattle.ember_model.specs.Planes.{value_at, along}
use Rattle.ember_model.specs.Faces.{size, hit, crossing}
use Rattle.ember_model.specs.Clear.{IsClear}
use Rattle.ember_model.specs.ClearTest.{none_positive, all_negative}
use Rattle.ember_model.proofs.SignTests.{negative_in, negative_not, negative_out, positive_in, positive_from_not}
use Rattle.ember_model.proofs.SignTests.{and_false, size_positive, positive_nonzero, negative_nonzero}
use Rattle.ember_model.proofs.PlaneValues.{value_hit}
use Rattle.ember_model.proofs.Hits.{hit_inside, hit_closed, closed_on, crossing_off, crossing_on, crossing_across, slope_nonzero}

-- q has the strict signs that p has
pub record Follows (p q : Spot) (h : Plane) : Type 0 where
  pub up : pos 0 <ℤ value_at h p → pos 0 <ℤ value_at h q
  pub down : value_at h p <ℤ pos 0 → value_at h q <ℤ pos 0

abbrev pub FollowsEach : Spot → Spot → List Plane → Type 0
FollowsEach p q [] = Unit {0}
FollowsEach p q (h ∷ hs) = Follows p q h × FollowsEach p q hs

-- ---- lists of edges at two points
abbrev pub StaysUp : Spot → Spot → List Plane → Type 0
StaysUp x y [] = Unit {0}
StaysUp x y (e ∷ es) = (pos 0 <ℤ value_at e x → pos 0 <ℤ value_at e y) × StaysUp x y es

-- a point that follows one above an edge isn't inside the edges
pub not_below : (x y : Spot) (es : List Plane) → StaysUp x y es → none_positive es x ≡ false → all_negative es y ≡ false
not_below x y [] f h = cc
not_below x y (e ∷ es) f h = by (not (is_positive (value_at e x))) refl h (not_below x y es f.1)
  where
    by : (b : Bool) → not (is_positive (value_at e x)) ≡ b → b && none_positive es x ≡ false →
        (none_positive es x ≡ false → all_negative es y ≡ false) → all_negative (e ∷ es) y ≡ false
    by true q h r = and_false (is_negative (value_at e y)) (all_negative es y) (r h)
    by false q h r = let u = f.0 (positive_from_not (value_at e x) q) in
        ap (λ (b : Bool). b && all_negative es y) (negative_not (value_at e y) (omega (arith, linear)))

-- a point that follows one inside the edges is inside them
pub all_below : (x y : Spot) (es : List Plane) → FollowsEach x y es → all_negative es x ≡ true → all_negative es y ≡ true
all_below x y [] f h = refl
all_below x y (e ∷ es) f h =
    let p = and_parts (is_negative (value_at e x)) (all_negative es x) h in
    rw (negative_in (f.0.down (negative_out (value_at e x) p.0))) (all_below x y es f.1 p.1)

-- if y has the strict signs of x for each plane, planes that are above 0 at x are above 0 at y
pub following_points_stay_above : (x y : Spot) (es : List Plane) → FollowsEach x y es → StaysUp x y es
following_points_stay_above x y [] f = tt
following_points_stay_above x y (e ∷ es) f = (f.0.up, following_points_stay_above x y es f.1)

self_up : (x : Spot) (es : List Plane) → StaysUp x x es
self_up x [] = tt
self_up x (e ∷ es) = (λ p. p, self_up x es)

same_below : (x y : Spot) (es : List Plane) → FollowsEach x y es →
    (none_positive es x ≡ true → all_negative es x ≡ true) → all_negative es x ≡ all_negative es y
same_below x y es f h = by (none_positive es x) refl
  where
    by : (b : Bool) → none_positive es x ≡ b → all_negative es x ≡ all_negative es y
    by true e = let p = h e in p ∙ sym (all_below x y es f p)
    by false e = not_below x x es (self_up x es) e ∙ sym (not_below x y es (following_points_stay_above x y es f) e)

-- ---- the crossing where the hit is not inside
crossing_out : (f : Face) (a : Axis) (p : Spot) → pos 0 <ℤ p.w → along f.support a ≢ pos 0 →
    all_negative f.edges (hit f.support a p) ≡ false → crossing f a p ≡ pos 0
crossing_out f a p w nz e =
    crossing_across f a p w nz ∙ ap (λ (b : Bool). cond (is_negative (value_at f.support p *ℤ along f.support a) && b)
    (sign (along f.support a)) (pos 0)) e ∙ drop (is_negative (value_at f.support p *ℤ along f.support a))
  where
    drop : (b : Bool) → cond (b && false) (sign (along f.support a)) (pos 0) ≡ pos 0
    drop true = refl
    drop false = refl

-- ---- local constancy
-- if a plane is above 0 at a point of the support plane, it is above 0 at the hit from there
pub hit_stays_above : (e n : Plane) (a : Axis) (p : Spot) → along n a ≢ pos 0 → value_at n p ≡ pos 0 → pos 0 <ℤ value_at e p → pos 0 <ℤ value_at e (hit n a p)
hit_stays_above e n a p nz z u =
    let s = size_positive (along n a) nz in
    let w = ap (λ (v : ℤ). sign (along n a) *ℤ v *ℤ along e a) z in
    let v : sign (along n a) *ℤ pos 0 *ℤ along e a ≡ pos 0 = solve 2 (λ s k. s ⊗ num (pos 0) ⊗ k ≈ num (pos 0)) cancels (sign (along n a)) (along e a) in
    omega (arith, linear, value_hit e n a p, pos_mul s u, w, v)

stays_from : (n : Plane) (es : List Plane) (a : Axis) (p q : Spot) → along n a ≢ pos 0 → value_at n p ≡ pos 0 →
    FollowsEach (hit n a p) (hit n a q) es → StaysUp p (hit n a q) es
stays_from n [] a p q nz z f = tt
stays_from n (e ∷ es) a p q nz z f = (λ u. f.0.up (hit_stays_above e n a p nz z u), stays_from n es a p q nz z f.1)

data Case (s na s' : ℤ) : Type 0 where
  off : is_negative (s *ℤ na) ≡ false → is_negative (s' *ℤ na) ≡ false → Case s na s'
  on : is_negative (s *ℤ na) ≡ true → is_negative (s' *ℤ na) ≡ true → pos 0 <ℤ size na → pos 0 ≤ℤ neg_ℤ (sign na *ℤ s) → Case s na s'
  flat : is_negative (s *ℤ na) ≡ false → s ≡ pos 0 → na ≢ pos 0 → Case s na s'

cases : (s na s' : ℤ) → (pos 0 <ℤ s → pos 0 <ℤ s') → (s <ℤ pos 0 → s' <ℤ pos 0) → Case s na s'
cases s na s' up down =
    by_sign na
    (λ p. by_sign s
    (λ q. off (negative_not (s *ℤ na) (weak (pos_mul q p))) (negative_not (s' *ℤ na) (weak (pos_mul (up q) p))))
    (λ z. flat (negative_not (s *ℤ na) (zero_left z)) z (positive_nonzero p))
    (λ q. on (negative_in (mul_neg_pos q p)) (negative_in (mul_neg_pos (down q) p))
    (size_positive na (positive_nonzero p)) (rw (sign_pos p) (let e : pos 1 *ℤ s ≡ s = omega (arith, ints) in
    omega (arith, linear, e)))))
    (λ z. off (negative_not (s *ℤ na) (zero_right s z)) (negative_not (s' *ℤ na) (zero_right s' z)))
    (λ p. by_sign s
    (λ q. on (negative_in (mul_pos_neg q p)) (negative_in (mul_pos_neg (up q) p))
    (size_positive na (negative_nonzero p)) (rw (sign_neg p) (let e : negsuc 0 *ℤ s ≡ neg_ℤ s = omega (arith, ints) in
    omega (arith, linear, e))))
    (λ z. flat (negative_not (s *ℤ na) (zero_left z)) z (negative_nonzero p))
    (λ q. off (negative_not (s *ℤ na) (weak (mul_neg_neg q p))) (negative_not (s' *ℤ na) (weak (mul_neg_neg (down q) p)))))
  where
    weak : {z : ℤ} → pos 0 <ℤ z → pos 0 ≤ℤ z
    weak p = omega (arith, linear)

    zero_left : s ≡ pos 0 → pos 0 ≤ℤ (s *ℤ na)
    zero_left z = let e = ap (λ (x : ℤ). x *ℤ na) z in omega (arith, linear, e, zero-*ℤ na)

    zero_right : (t : ℤ) → na ≡ pos 0 → pos 0 ≤ℤ (t *ℤ na)
    zero_right t z = let e = ap (λ (x : ℤ). t *ℤ x) z in omega (arith, linear, e, *ℤ-zero t)

-- if q has the strict signs that the clear point p has, a ray from either crosses the face alike
pub same_crossing : (f : Face) (a : Axis) (p q : Spot) → pos 0 <ℤ p.w → pos 0 <ℤ q.w → IsClear f p →
    Follows p q f.support → FollowsEach (hit f.support a p) (hit f.support a q) f.edges → crossing f a p ≡ crossing f a q
same_crossing f a p q wp wq c s g = by (cases (value_at f.support p) (along f.support a) (value_at f.support q) s.up s.down)
  where
    by : Case (value_at f.support p) (along f.support a) (value_at f.support q) → crossing f a p ≡ crossing f a q
    by (off x y) = crossing_off f a p x ∙ sym (crossing_off f a q y)
    by (on x y m s) =
        let n = f.support in let es = f.edges in let nz = slope_nonzero (value_at n p) (along n a) x in
        let i = same_below (hit n a p) (hit n a q) es g
        (λ h. sym (hit_inside f a p nz wp) ∙ c.rays a (size (along n a)) (neg_ℤ (sign (along n a) *ℤ value_at n p)) m
        s (hit_closed f a p nz wp ∙ h)) in
        crossing_on f a p (all_negative es (hit n a q)) wp x i ∙ sym (crossing_on f a q (all_negative es (hit n a q)) wq y refl)
    by (flat x z nz) =
        let n = f.support in let es = f.edges in
        let o : none_positive es p ≡ false = sym (closed_on f p (positive_in wp) z) ∙ c.outside in
        crossing_off f a p x ∙ sym (crossing_out f a q wq nz (not_below p (hit n a q) es (stays_from n es a p q nz z g) o))
