-- Crossings, legs and clearness depend on the place alone, and not on the weight.
use Rattle.std.proofs.Common.{◌≡◌, refl, sym, ap, ◌∙◌, arith, Bool, true, false, cond, ◌&&◌, ℤ, pos, ◌+ℤ◌, ◌-ℤ◌, ◌*ℤ◌, neg_ℤ, ◌<ℤ◌}
use lib.IntN.{*ℤ-zero, zero-*ℤ, *ℤ_comm, +ℤ_comm}
use Rattle.ember_algebra.specs.Sign.{sign, sgn, is_neg, is_negative}
use Rattle.ember_algebra.proofs.Laws.{linear, *ℤ_assoc, one-*ℤ}
use Rattle.ember_algebra.proofs.Order.{by_sign, pos_mul, mul_neg_neg, sign_pos, sign_neg, sign_scaled}
use Rattle.ember_algebra.proofs.Ring.{◌⊕◌, ◌⊖◌, ◌⊗◌, ◌≈◌, solve, cancels}
use Rattle.ember_model.specs.declared.plane.Plane.{Plane}
use Rattle.ember_model.specs.declared.point.Spot.{Spot}
use Rattle.ember_model.specs.declared.point.Axis.{Axis}
use Rattle.ember_model.specs.declared.face.Face.{Face}
use Rattle.ember_model.specs.Planes.{value_at, along}
use Rattle.ember_model.specs.Points.{scaled, moved}
use Rattle.ember_model.specs.Faces.{size, is_inside, is_in_closed, hit, crossing, between, leg}
use Rattle.ember_model.specs.Clear.{IsClear}
use Rattle.ember_model.specs.ClearTest.{all_negative}
use Rattle.ember_model.proofs.SignTests.{sgn_scaled, negative_out}
use Rattle.ember_model.proofs.PlaneValues.{value_scaled, value_hit, size-is}
use Rattle.ember_model.proofs.Hits.{Scales, scaled_point_scales, same_all_negative, closed_scaled, inside_scaled}
use Rattle.ember_model.proofs.Legs.{value_between, leg_off, leg_on}

-- ---- crossings
hit_scales : (n : Plane) (a : Axis) (k : ℤ) (p : Spot) → Scales k (hit n a p) (hit n a (scaled k p))
hit_scales n a k p g =
    let x = value_scaled k g p in let y = value_scaled k n p in
    value_hit g n a (scaled k p) ∙ (λ i. size (along n a) *ℤ x i -ℤ sign (along n a) *ℤ y i *ℤ along g a)
    ∙ solve 6 (λ m s vg vn k ga. m ⊗ (k ⊗ vg) ⊖ s ⊗ (k ⊗ vn) ⊗ ga ≈ k ⊗ (m ⊗ vg ⊖ s ⊗ vn ⊗ ga)) cancels
    (size (along n a)) (sign (along n a)) (value_at g p) (value_at n p) k (along g a)
    ∙ ap (λ (z : ℤ). k *ℤ z) (sym (value_hit g n a p))

-- a positive factor of a point's numbers doesn't change the crossing
pub crossing_scaled : (f : Face) (a : Axis) (k : ℤ) (p : Spot) → pos 0 <ℤ k → crossing f a (scaled k p) ≡ crossing f a p
unfolding crossing
crossing_scaled f a k p l =
    let n = f.support in
    let x = ap is_neg (ap sgn (ap (λ (v : ℤ). v *ℤ along n a) (value_scaled k n p)
    ∙ *ℤ_assoc k (value_at n p) (along n a)) ∙ sgn_scaled (value_at n p *ℤ along n a) l) in
    let y = inside_scaled k (hit n a p) (hit n a (scaled k p)) f l (hit_scales n a k p) in
    λ i. cond (x i && y i) (sign (along n a)) (pos 0)

-- ---- clear points
twice_scaled : (m k : ℤ) (p : Spot) → scaled m (scaled k p) ≡ scaled (m *ℤ k) p
twice_scaled m k p =
    let x = *ℤ_assoc m k p.x in let y = *ℤ_assoc m k p.y in let z = *ℤ_assoc m k p.z in let w = *ℤ_assoc m k p.w in
    sym (λ i. record { x = x i; y = y i; z = z i; w = w i })

-- a positive factor of a point's numbers leaves it clear
pub clear_scaled : (f : Face) (k : ℤ) (p : Spot) → pos 0 <ℤ k → IsClear f p → IsClear f (scaled k p)
clear_scaled f k p l c =
    record {
      outside = closed_scaled k p (scaled k p) f l (scaled_point_scales k p) ∙ c.outside;
      rays = λ a m s pm ps h.
          let e : moved (scaled m (scaled k p)) a s ≡ moved (scaled (m *ℤ k) p) a s = ap (λ (q : Spot). moved q a s) (twice_scaled m k p) in
          ap (is_inside f) e ∙ c.rays a (m *ℤ k) s (pos_mul pm l) ps (sym (ap (is_in_closed f) e) ∙ h);
    }

-- ---- legs
size_scaled : (m z : ℤ) → pos 0 <ℤ m → size (m *ℤ z) ≡ m *ℤ size z
size_scaled m z l =
    size-is (m *ℤ z) ∙ ap (λ (s : ℤ). s *ℤ (m *ℤ z)) (sign_scaled z l)
    ∙ solve 3 (λ s m z. s ⊗ (m ⊗ z) ≈ m ⊗ (s ⊗ z)) cancels (sign z) m z ∙ ap (λ (s : ℤ). m *ℤ s) (sym (size-is z))

between_scaled : (n : Plane) (k m : ℤ) (p q : Spot) → pos 0 <ℤ k → pos 0 <ℤ m → Scales (k *ℤ m) (between n p q) (between n (scaled k p) (scaled m q))
between_scaled n k m p q lk lm g =
    let sp = size (value_at n p) in let sq = size (value_at n q) in let vp = value_at g p in let vq = value_at g q in
    let a : size (value_at n (scaled k p)) ≡ k *ℤ sp = ap size (value_scaled k n p) ∙ size_scaled k (value_at n p) lk in
    let b : size (value_at n (scaled m q)) ≡ m *ℤ sq = ap size (value_scaled m n q) ∙ size_scaled m (value_at n q) lm in
    let c = value_scaled k g p in let d = value_scaled m g q in
    value_between g n (scaled k p) (scaled m q) ∙ (λ i. b i *ℤ c i +ℤ a i *ℤ d i)
    ∙ solve 6 (λ k m sp sq vp vq. m ⊗ sq ⊗ (k ⊗ vp) ⊕ k ⊗ sp ⊗ (m ⊗ vq) ≈ k ⊗ m ⊗ (sq ⊗ vp ⊕ sp ⊗ vq)) cancels k m sp
    sq vp vq ∙ ap (λ (z : ℤ). k *ℤ m *ℤ z) (sym (value_between g n p q))

-- a segment between the same points, written with other weights, crosses a face alike
pub leg_scaled : (f : Face) (k m : ℤ) (p q : Spot) → pos 0 <ℤ k → pos 0 <ℤ m → leg f (scaled k p) (scaled m q) ≡ leg f p q
unfolding leg
leg_scaled f k m p q lk lm =
    let n = f.support in
    let v : value_at n (scaled k p) *ℤ value_at n (scaled m q) ≡ (k *ℤ m) *ℤ (value_at n p *ℤ value_at n q) =
    (let x = value_scaled k n p in let y = value_scaled m n q in λ i. x i *ℤ y i)
    ∙ solve 4 (λ k m a b. k ⊗ a ⊗ (m ⊗ b) ≈ k ⊗ m ⊗ (a ⊗ b)) cancels k m (value_at n p) (value_at n q) in
    let x = ap is_neg (ap sgn v ∙ sgn_scaled (value_at n p *ℤ value_at n q) (pos_mul lk lm)) in
    let y = inside_scaled (k *ℤ m) (between n p q) (between n (scaled k p) (scaled m q)) f (pos_mul lk lm) (between_scaled n k m p q lk lm) in
    let z = ap sign (value_scaled m n q) ∙ sign_scaled (value_at n q) lm in
    λ i. cond (x i && y i) (z i) (pos 0)

-- the other way round
opposite_signs : (s t : ℤ) → (s *ℤ t) <ℤ pos 0 → sign s ≡ neg_ℤ (sign t)
opposite_signs s t l =
    by_sign s
    (λ p. by_sign t (λ q. absurd (let r = pos_mul p q in omega (arith, linear, l, r)))
    (λ z. absurd (let r = ap (λ (x : ℤ). s *ℤ x) z ∙ *ℤ-zero s in omega (arith, linear, l, r)))
    (λ q. sign_pos p ∙ ap neg_ℤ (sym (sign_neg q))))
    (λ z. absurd (let r = ap (λ (x : ℤ). x *ℤ t) z ∙ zero-*ℤ t in omega (arith, linear, l, r)))
    (λ p. by_sign t (λ q. sign_neg p ∙ ap neg_ℤ (sym (sign_pos q)))
    (λ z. absurd (let r = ap (λ (x : ℤ). s *ℤ x) z ∙ *ℤ-zero s in omega (arith, linear, l, r)))
    (λ q. absurd (let r = mul_neg_neg p q in omega (arith, linear, l, r))))

-- a condition on a number and its opposite
pub neg_cond : (b : Bool) (v : ℤ) → cond b (neg_ℤ v) (pos 0) ≡ neg_ℤ (cond b v (pos 0))
neg_cond true v = refl
neg_cond false v = refl

-- a segment the other way round has the opposite crossing
pub leg_back : (f : Face) (p q : Spot) → pos 0 <ℤ p.w → pos 0 <ℤ q.w → leg f q p ≡ neg_ℤ (leg f p q)
leg_back f p q wp wq = by (is_negative (value_at f.support p *ℤ value_at f.support q)) refl
  where
    turn : value_at f.support q *ℤ value_at f.support p ≡ value_at f.support p *ℤ value_at f.support q
    turn = *ℤ_comm (value_at f.support q) (value_at f.support p)

    places : Scales (pos 1) (between f.support p q) (between f.support q p)
    places g =
        let n = f.support in
        value_between g n q p ∙ +ℤ_comm (size (value_at n p) *ℤ value_at g q) (size (value_at n q) *ℤ value_at g p)
        ∙ sym (value_between g n p q) ∙ sym (one-*ℤ (value_at g (between n p q)))

    by : (b : Bool) → is_negative (value_at f.support p *ℤ value_at f.support q) ≡ b → leg f q p ≡ neg_ℤ (leg f p q)
    by true e =
        let n = f.support in let low = all_negative f.edges (between n p q) in
        let x = leg_on f p q low (sign (value_at n q)) wp wq e refl refl in
        let y = leg_on f q p low (neg_ℤ (sign (value_at n q))) wq wp (ap is_negative turn ∙ e)
        (same_all_negative (pos 1) (between n p q) (between n q p) f.edges (omega (arith, linear)) places)
        (opposite_signs (value_at n p) (value_at n q) (negative_out (value_at n p *ℤ value_at n q) e)) in
        y ∙ neg_cond low (sign (value_at n q)) ∙ ap neg_ℤ (sym x)
    by false e = leg_off f q p (ap is_negative turn ∙ e) ∙ ap neg_ℤ (sym (leg_off f p q e))
