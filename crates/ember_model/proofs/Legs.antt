-- Segments along an axis: the crossing of the ray from p less that from q is the crossing of the segment from p to q, for any face.
use Rattle.std.proofs.Common.{◌≡◌, ◌≢◌, refl, sym, ap, ◌∙◌, arith, Bool, true, false, cond, ◌&&◌, List, [], ◌∷◌, ℤ, pos, negsuc, ◌+ℤ◌, ◌-ℤ◌, ◌*ℤ◌, neg_ℤ, ◌<ℤ◌}
use borrow.Author.Differences.{ints}
use lib.IntN.{zero-*ℤ}
use Rattle.ember_algebra.specs.Sign.{sign, is_negative, is_positive}
use Rattle.ember_algebra.proofs.Laws.{linear, one-*ℤ}
use Rattle.ember_algebra.proofs.Order.{by_sign, pos_mul, mul_pos_neg, mul_neg_pos, mul_neg_neg, sign_pos, sign_neg, square_nonneg}
use Rattle.ember_algebra.proofs.Ring.{◌⊕◌, ◌⊖◌, ◌⊗◌, ◌≈◌, num, neg, solve, cancels}
use Rattle.ember_model.specs.declared.plane.Plane.{Plane}
use Rattle.ember_model.specs.declared.point.Spot.{Spot}
use Rattle.ember_model.specs.declared.point.Axis.{Axis}
use Rattle.ember_model.specs.declared.face.Face.{Face}
use Rattle.ember_model.specs.Planes.{value_at, along}
use Rattle.ember_model.specs.Points.{scaled, moved}
use Rattle.ember_model.specs.Faces.{size, is_inside, hit, crossing, between, leg}
use Rattle.ember_model.specs.Clear.{IsClear}
use Rattle.ember_model.specs.ClearTest.{none_positive, all_negative}
use Rattle.ember_model.proofs.SignTests.{negative_in, negative_not, negative_out, positive_in, positive_nonzero}
use Rattle.ember_model.proofs.SignTests.{negative_nonzero, zero_scaled, zero_times, size_positive, clash}
use Rattle.ember_model.proofs.SignTests.{positive_not_negative}
use Rattle.ember_model.proofs.PlaneValues.{value_scaled, value_moved, value_plus, value_hit, size-is}
use Rattle.ember_model.proofs.Hits.{Scales, same_all_negative, inside_on, closed_on, crossing_off, crossing_on, moved_weight}
use Rattle.ember_model.proofs.NearClearPoints.{StaysUp, hit_stays_above, not_below}

-- ---- the hits from two points of one line
-- the hit of a line doesn't depend on which of its points it is seen from
pub hit_moved : (g n : Plane) (a : Axis) (p : Spot) (c : ℤ) → value_at g (hit n a (moved p a c)) ≡ value_at g (hit n a p)
hit_moved g n a p c =
    rw (value_hit g n a (moved p a c), value_hit g n a p, value_moved g p a c, value_moved n p a c, size-is (along n a))
    (solve 6 (λ s na vg vn c ga. s ⊗ na ⊗ (vg ⊕ c ⊗ ga) ⊖ s ⊗ (vn ⊕ c ⊗ na) ⊗ ga ≈ s ⊗ na ⊗ vg ⊖ s ⊗ vn ⊗ ga) cancels
    (sign (along n a)) (along n a) (value_at g p) (value_at n p) c (along g a))

-- ---- the point between p and q, where the plane has different signs at p and q
-- the value of a plane at the point where a segment meets the support plane
pub value_between : (g n : Plane) (p q : Spot) → value_at g (between n p q) ≡ size (value_at n q) *ℤ value_at g p +ℤ size (value_at n p) *ℤ value_at g q
value_between g n p q =
    let k = size (value_at n q) in let m = size (value_at n p) in
    value_plus g (scaled k p) (scaled m q) ∙ (let x = value_scaled k g p in let y = value_scaled m g q in λ i. x i +ℤ y i)

-- a positive number is its own size
pub size_is_pos : (z : ℤ) → pos 0 <ℤ z → size z ≡ z
size_is_pos (pos n) p = refl
size_is_pos (negsuc n) p = absurd (omega (arith, ints))

-- the size of a negative number is its opposite
pub size_is_neg : (z : ℤ) → z <ℤ pos 0 → size z ≡ neg_ℤ z
size_is_neg (pos n) p = absurd (omega (arith, ints))
size_is_neg (negsuc n) p = refl

-- on opposite sides of the plane
opposite : (s t : ℤ) → (s *ℤ t) <ℤ pos 0 → size t *ℤ s +ℤ size s *ℤ t ≡ pos 0
opposite s t l =
    by_sign s
    (λ p. by_sign t (λ q. absurd (let r = pos_mul p q in omega (arith, linear, l, r)))
    (λ z. absurd (let r = zero_scaled s t z in omega (arith, linear, l, r))) (λ q. let x = size_is_pos s p in let y =
    size_is_neg t q in (λ i. y i *ℤ s +ℤ x i *ℤ t) ∙ solve 2 (λ s t. neg t ⊗ s ⊕ s ⊗ t ≈ num (pos 0)) cancels s t))
    (λ z. absurd (let r = ap (λ (x : ℤ). x *ℤ t) z in omega (arith, linear, l, r, zero-*ℤ t)))
    (λ p. by_sign t (λ q. let x = size_is_neg s p in let y = size_is_pos t q in
    (λ i. y i *ℤ s +ℤ x i *ℤ t) ∙ solve 2 (λ s t. t ⊗ s ⊕ neg s ⊗ t ≈ num (pos 0)) cancels s t)
    (λ z. absurd (let r = zero_scaled s t z in omega (arith, linear, l, r)))
    (λ q. absurd (let r = mul_neg_neg p q in omega (arith, linear, l, r))))

-- neither factor of a negative product is 0
pub ends_nonzero : (s t : ℤ) → is_negative (s *ℤ t) ≡ true → (s ≢ pos 0) × (t ≢ pos 0)
ends_nonzero s t e = (λ z. clash e (ap is_negative (zero_times s t z)), λ z. clash e (ap is_negative (zero_scaled s t z)))

-- if a plane has opposite signs at two points, the point between them has a positive weight
pub between_weight : (n : Plane) (p q : Spot) → pos 0 <ℤ p.w → pos 0 <ℤ q.w →
    is_negative (value_at n p *ℤ value_at n q) ≡ true → is_positive (between n p q).w ≡ true
between_weight n p q wp wq e =
    let z = ends_nonzero (value_at n p) (value_at n q) e in
    let a = pos_mul (size_positive (value_at n q) z.1) wp in let b = pos_mul (size_positive (value_at n p) z.0) wq in
    positive_in (let c : pos 0 <ℤ (size (value_at n q) *ℤ p.w +ℤ size (value_at n p) *ℤ q.w) = omega (arith, linear, a, b) in c)

-- where a segment passes a face's plane is inside the face exactly if it is below the edges
pub between_inside : (f : Face) (p q : Spot) → pos 0 <ℤ p.w → pos 0 <ℤ q.w →
    is_negative (value_at f.support p *ℤ value_at f.support q) ≡ true →
    is_inside f (between f.support p q) ≡ all_negative f.edges (between f.support p q)
between_inside f p q wp wq h =
    let n = f.support in
    inside_on f (between n p q) (between_weight n p q wp wq h)
    (value_between n n p q ∙ opposite (value_at n p) (value_at n q) (negative_out (value_at n p *ℤ value_at n q) h))

-- a segment with both ends on one side of a face's plane doesn't cross the face
pub leg_off : (f : Face) (p q : Spot) → is_negative (value_at f.support p *ℤ value_at f.support q) ≡ false → leg f p q ≡ pos 0
unfolding leg
leg_off f p q e = ap (λ (b : Bool). cond (b && is_inside f (between f.support p q)) (sign (value_at f.support q)) (pos 0)) e

-- a segment whose ends are parted by a face's plane crosses the face exactly if it meets the plane inside the edges
pub leg_on : (f : Face) (p q : Spot) (b : Bool) (v : ℤ) → pos 0 <ℤ p.w → pos 0 <ℤ q.w →
    is_negative (value_at f.support p *ℤ value_at f.support q) ≡ true → all_negative f.edges (between f.support p q) ≡ b →
    sign (value_at f.support q) ≡ v → leg f p q ≡ cond b v (pos 0)
unfolding leg
leg_on f p q b v wp wq e g s = let h = between_inside f p q wp wq e ∙ g in λ i. cond (e i && h i) (s i) (pos 0)

-- ---- the cases of a leg
pub data LegCase (s na s' : ℤ) : Type 0 where
  off : is_negative (s *ℤ na) ≡ false → is_negative (s' *ℤ na) ≡ false → is_negative (s *ℤ s') ≡ false → LegCase s na s'
  stay : is_negative (s *ℤ na) ≡ true → is_negative (s' *ℤ na) ≡ true → is_negative (s *ℤ s') ≡ false → LegCase s na s'
  touch : is_negative (s *ℤ na) ≡ true → is_negative (s' *ℤ na) ≡ false → is_negative (s *ℤ s') ≡ false → s' ≡ pos 0 → na ≢ pos 0 → LegCase s na s'
  pass : is_negative (s *ℤ na) ≡ true → is_negative (s' *ℤ na) ≡ false → is_negative (s *ℤ s') ≡ true →
      sign s' ≡ sign na → size s ≡ neg_ℤ (sign na *ℤ s) → LegCase s na s'

not_zero_l : (s t : ℤ) → s ≡ pos 0 → is_negative (s *ℤ t) ≡ false
not_zero_l s t z = negative_not (s *ℤ t) (let r = ap (λ (x : ℤ). x *ℤ t) z in omega (arith, linear, r, zero-*ℤ t))

not_zero_r : (s t : ℤ) → t ≡ pos 0 → is_negative (s *ℤ t) ≡ false
not_zero_r s t z = negative_not (s *ℤ t) (let r = zero_scaled s t z in omega (arith, linear, r))

square_not : (s : ℤ) → is_negative (s *ℤ s) ≡ false
square_not s = negative_not (s *ℤ s) (square_nonneg s)

pub leg_cases : (s na s' c : ℤ) → pos 0 <ℤ c → s' ≡ s +ℤ c *ℤ na → LegCase s na s'
leg_cases s na s' c pc e =
    by_sign na
    (λ p. let up = pos_mul pc p in
    by_sign s
    (λ q. let r : pos 0 <ℤ s' = omega (arith, linear, up, q, e) in
    off (positive_not_negative (pos_mul q p)) (positive_not_negative (pos_mul r p)) (positive_not_negative (pos_mul q r)))
    (λ z. let r : pos 0 <ℤ s' = omega (arith, linear, up, z, e) in off (not_zero_l s na z) (positive_not_negative (pos_mul r p)) (not_zero_l s s' z))
    (λ q. by_sign s'
    (λ r. pass (negative_in (mul_neg_pos q p)) (positive_not_negative (pos_mul r p)) (negative_in (mul_neg_pos q r))
    (sign_pos r ∙ sym (sign_pos p)) (size-is s
    ∙ rw (sign_neg q, sign_pos p) (solve 1 (λ s. num (negsuc 0) ⊗ s ≈ neg (num (pos 1) ⊗ s)) cancels s)))
    (λ z. touch (negative_in (mul_neg_pos q p)) (not_zero_l s' na z) (not_zero_r s s' z) z (positive_nonzero p))
    (λ r. stay (negative_in (mul_neg_pos q p)) (negative_in (mul_neg_pos r p)) (positive_not_negative (mul_neg_neg q r)))))
    (λ z. let same : s' ≡ s = let r = zero_scaled c na z in omega (arith, linear, r, e) in
    off (not_zero_r s na z) (not_zero_r s' na z) (ap (λ (x : ℤ). is_negative (s *ℤ x)) same ∙ square_not s))
    (λ p. let down = mul_pos_neg pc p in
    by_sign s
    (λ q. by_sign s'
    (λ r. stay (negative_in (mul_pos_neg q p)) (negative_in (mul_pos_neg r p)) (positive_not_negative (pos_mul q r)))
    (λ z. touch (negative_in (mul_pos_neg q p)) (not_zero_l s' na z) (not_zero_r s s' z) z (negative_nonzero p))
    (λ r. pass (negative_in (mul_pos_neg q p)) (positive_not_negative (mul_neg_neg r p)) (negative_in (mul_pos_neg q r))
    (sign_neg r ∙ sym (sign_neg p)) (size-is s
    ∙ rw (sign_pos q, sign_neg p) (solve 1 (λ s. num (pos 1) ⊗ s ≈ neg (num (negsuc 0) ⊗ s)) cancels s))))
    (λ z. let r : s' <ℤ pos 0 = omega (arith, linear, down, z, e) in off (not_zero_l s na z) (positive_not_negative (mul_neg_neg r p)) (not_zero_l s s' z))
    (λ q. let r : s' <ℤ pos 0 = omega (arith, linear, down, q, e) in
    off (positive_not_negative (mul_neg_neg q p)) (positive_not_negative (mul_neg_neg r p)) (positive_not_negative (mul_neg_neg q r))))

-- ---- one face
pub between_scales : (n : Plane) (a : Axis) (p : Spot) (c : ℤ) → sign (value_at n (moved p a c)) ≡ sign (along n a) →
    size (value_at n p) ≡ neg_ℤ (sign (along n a) *ℤ value_at n p) → Scales c (hit n a p) (between n p (moved p a c))
between_scales n a p c sg sz g =
    let k = sign (along n a) in let na = along n a in let s = value_at n p in let vg = value_at g p in let ga = along g a in
    let x : size (value_at n (moved p a c)) ≡ k *ℤ (s +ℤ c *ℤ na) = size-is (value_at n (moved p a c)) ∙ (let y = value_moved n p a c in λ i. sg i *ℤ y i) in
    value_between g n p (moved p a c) ∙ (let y = value_moved g p a c in λ i. x i *ℤ vg +ℤ sz i *ℤ y i)
    ∙ solve 6 (λ k na s vg ga c. k ⊗ (s ⊕ c ⊗ na) ⊗ vg ⊕ neg (k ⊗ s) ⊗ (vg ⊕ c ⊗ ga) ≈ c ⊗ (k ⊗ na ⊗ vg ⊖ k ⊗ s ⊗ ga))
    cancels k na s vg ga c ∙ ap (λ (z : ℤ). c *ℤ z)
    (sym (value_hit g n a p ∙ ap (λ (m : ℤ). m *ℤ vg -ℤ k *ℤ s *ℤ ga) (size-is na)))

touch_up : (n : Plane) (es : List Plane) (a : Axis) (p : Spot) (c : ℤ) → along n a ≢ pos 0 →
    value_at n (moved p a c) ≡ pos 0 → StaysUp (moved p a c) (hit n a p) es
touch_up n [] a p c nz z = tt
touch_up n (e ∷ es) a p c nz z =
    (λ u. let h = hit_stays_above e n a (moved p a c) nz z u in let m = hit_moved e n a p c in omega (arith, linear, h, m), touch_up n es a p c nz z)

-- the crossing of the ray from p less that of the ray from a later point q, clear of the face, is that of the segment
-- from p to q
pub face_leg : (f : Face) (a : Axis) (p : Spot) (c : ℤ) → pos 0 <ℤ p.w → pos 0 <ℤ c → IsClear f (moved p a c) →
    crossing f a p -ℤ crossing f a (moved p a c) ≡ leg f p (moved p a c)
face_leg f a p c wp pc clear =
    by (leg_cases (value_at f.support p) (along f.support a) (value_at f.support (moved p a c)) c pc (value_moved f.support p a c))
  where
    wq : pos 0 <ℤ (moved p a c).w
    wq = let e = moved_weight p a c in omega (arith, linear, e, wp)

    same : all_negative f.edges (hit f.support a (moved p a c)) ≡ all_negative f.edges (hit f.support a p)
    same =
        same_all_negative (pos 1) (hit f.support a p) (hit f.support a (moved p a c)) f.edges (omega (arith, linear))
        (λ g. hit_moved g f.support a p c ∙ sym (one-*ℤ (value_at g (hit f.support a p))))

    by : LegCase (value_at f.support p) (along f.support a) (value_at f.support (moved p a c)) →
        crossing f a p -ℤ crossing f a (moved p a c) ≡ leg f p (moved p a c)
    by (off x y z) =
        let u = crossing_off f a p x in let v = crossing_off f a (moved p a c) y in let w = leg_off f p (moved p a c) z in omega (arith, linear, u, v, w)
    by (stay x y z) =
        let b = all_negative f.edges (hit f.support a p) in
        let u = crossing_on f a p b wp x refl in let v = crossing_on f a (moved p a c) b wq y same in let w =
        leg_off f p (moved p a c) z in omega (arith, linear, u, v, w)
    by (touch x y z t nz) =
        let n = f.support in let es = f.edges in
        let o : none_positive es (moved p a c) ≡ false = sym (closed_on f (moved p a c) (positive_in wq) t) ∙ clear.outside in
        let u = crossing_on f a p false wp x (not_below (moved p a c) (hit n a p) es (touch_up n es a p c nz t) o) in
        let v = crossing_off f a (moved p a c) y in let w = leg_off f p (moved p a c) z in omega (arith, linear, u, v, w)
    by (pass x y z sg sz) =
        let n = f.support in let es = f.edges in let b = all_negative es (hit n a p) in
        let u = crossing_on f a p b wp x refl in let v = crossing_off f a (moved p a c) y in
        let w = leg_on f p (moved p a c) b (sign (along n a)) wp wq z
        (same_all_negative c (hit n a p) (between n p (moved p a c)) es pc (between_scales n a p c sg sz)) sg in
        omega (arith, linear, u, v, w)
