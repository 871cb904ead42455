-- Division by the greatest common divisor gives the same point, in lowest terms.
use Rattle.std.proofs.Common.{◌≡◌, ℕ, zero, suc, ◌*◌, ◌<◌, ◌≤◌, ℤ, pos, negsuc, ◌*ℤ◌, ◌<ℤ◌, neg_ℤ, unsigned_abs}
use Rattle.std.proofs.Common.{int_div, int_rem, refl, sym, ap, subst, ◌∙◌, arith, mul-le-mul}
use Rattle.std.specs.Int.{IsGcd, ◌∣◌}
use Rattle.std.proofs.lemmas.Int.{ints, quot-rem, unsigned_abs-mul}
use Rattle.std.proofs.lemmas.Nat.Gcd.{mod-eq-zero_of_dvd, dvd_antisymm, dvd_trans, le_of_dvd}
use Rattle.std.proofs.Math.Nat.{mul-dvd-mul_right, dvd_of_mul-dvd-mul_right, one-dvd}
use mir.Syntax.{w128}
use mir.Val.{to_z, of_z}
use Rattle.ember_algebra.specs.Size.{Small}
use Rattle.ember_algebra.proofs.Ring.{◌⊗◌, ◌≈◌, solve, cancels}
use Rattle.ember_algebra.proofs.Order.{by_sign, mul_neg_pos}
use Rattle.ember_algebra.proofs.Exact.{kept, ◌&◌, done, exact}
use Rattle.ember_algebra.proofs.Laws.{linear}
use Rattle.ember_model.specs.declared.point.Spot.{Spot}
use Rattle.ember_model.specs.Valid.{IsValidMeet}
use Rattle.ember_model.specs.Edges.{SamePoint}
use Rattle.ember_model.specs.FaceFiles.{IsLowest}
use Rattle.ember_point.specs.Points.{IsGreatestDivisor}

no-rest : (v : ℤ) (g : ℕ) → g ∣ unsigned_abs v → int_rem v (pos g) ≡ pos 0
no-rest (pos n) g d = ap pos (mod-eq-zero_of_dvd g d)
no-rest (negsuc n) g d = ap (λ (m : ℕ). neg_ℤ (pos m)) (mod-eq-zero_of_dvd g d)

exact-quotient : (v : ℤ) (g : ℕ) → g ∣ unsigned_abs v → int_div v (pos g) *ℤ pos g ≡ v
exact-quotient v g d = let e = quot-rem v (pos g) in let z = no-rest v g d in omega (arith, e, z, ints)

exact-division : (v d : ℤ) → pos 0 <ℤ d → unsigned_abs d ∣ unsigned_abs v → int_div v d *ℤ d ≡ v
exact-division v (pos n) p h = exact-quotient v n h
exact-division v (negsuc n) p h = absurd (omega (arith, p, ints))

-- a quotient is no larger
factor-small : {m : ℕ} (q d n : ℤ) → pos 0 <ℤ d → q *ℤ d ≡ n → Small m n → Small m q
factor-small {m} q d n p e s =
    let l : 1 ≤ unsigned_abs d = omega (arith, p, ints) in
    let f : unsigned_abs q * unsigned_abs d ≡ unsigned_abs n = sym (unsigned_abs-mul q d) ∙ ap unsigned_abs e in
    let k : unsigned_abs q * 1 ≤ unsigned_abs q * unsigned_abs d = mul-le-mul (omega arith) l in
    record { small = omega (arith, k, f, s.small) }

-- the quotient as the code keeps it
pub stored-quotient : (x d q : ℤ) → Small 4951760157141521099596496895 x → Small 302231454903657293676543 d →
    pos 0 <ℤ d → unsigned_abs d ∣ unsigned_abs x → q ≡ int_div (to_z w128 (of_z w128 x)) (to_z w128 (of_z w128 d)) →
    to_z w128 (of_z w128 q) *ℤ d ≡ x
stored-quotient x d q sx sd p h e =
    let i : q ≡ int_div x d = e ∙ rw (exact (sx & done) (kept 0) tt, exact (sd & done) (kept 0) tt) refl in
    let f : q *ℤ d ≡ x = ap (λ a. a *ℤ d) i ∙ exact-division x d p h in
    ap (λ a. a *ℤ d) (exact (factor-small q d x p f sx & done) (kept 0) tt) ∙ f

-- v times d is u
pub record IsQuotient (u v : Spot) (d : ℤ) : Type 0 where
  pub x : v.x *ℤ d ≡ u.x
  pub y : v.y *ℤ d ≡ u.y
  pub z : v.z *ℤ d ≡ u.z
  pub w : v.w *ℤ d ≡ u.w

positive_factor : (q d n : ℤ) → pos 0 <ℤ d → q *ℤ d ≡ n → pos 0 <ℤ n → pos 0 <ℤ q
positive_factor q d n p e l =
    by_sign q (λ h. h) (λ z. absurd (omega (arith, linear, l, e, ap (λ a. a *ℤ d) z))) (λ h. absurd (omega (arith, linear, l, e, mul_neg_pos h p)))

-- a valid meet divided by a positive divisor is valid
pub quotient_valid : {u v : Spot} {d : ℤ} → IsValidMeet u → pos 0 <ℤ d → IsQuotient u v d → IsValidMeet v
quotient_valid {u} {v} {d} s p q =
    record {
      x = factor-small v.x d u.x p q.x s.x;
      y = factor-small v.y d u.y p q.y s.y;
      z =
          factor-small v.z d u.z p q.z s.z;
      w = factor-small v.w d u.w p q.w s.w;
      weight =
          positive_factor v.w d u.w p q.w s.weight;
    }

same_ratio : (a b x w d : ℤ) → a *ℤ d ≡ x → b *ℤ d ≡ w → b *ℤ x ≡ w *ℤ a
same_ratio a b x w d e f =
    rw (← e, ← f) (solve 3 (λ a b d. b ⊗ (a ⊗ d) ≈ (b ⊗ d) ⊗ a) cancels a b d)

-- a point divided by a divisor is the same point
pub quotient_same : {u v : Spot} {d : ℤ} → IsQuotient u v d → SamePoint u v
quotient_same {u} {v} {d} q =
    record { x = same_ratio v.x v.w u.x u.w d q.x q.w; y = same_ratio v.y v.w u.y u.w d q.y q.w; z = same_ratio v.z v.w u.z u.w d q.z q.w }

-- a point divided by the greatest common divisor is in lowest terms
pub quotient_lowest : {u v : Spot} {d : ℤ} → IsGreatestDivisor u d → IsQuotient u v d → IsLowest v
quotient_lowest {u} {v} {d} g q =
    record {
      lowest = λ k x y z w. dvd_antisymm (only_one k
          (g.greatest (k * unsigned_abs d) (up v.x u.x k x q.x) (up v.y u.y k y q.y) (up v.z u.z k z q.z)
          (up v.w u.w k w q.w))) (one-dvd k);
    }
  where
    up : (a b : ℤ) (k : ℕ) → k ∣ unsigned_abs a → a *ℤ d ≡ b → (k * unsigned_abs d) ∣ unsigned_abs b
    up a b k h e =
        subst (λ n. (k * unsigned_abs d) ∣ n) (sym (unsigned_abs-mul a d) ∙ ap unsigned_abs e) (mul-dvd-mul_right k h (unsigned_abs d))

    only_one : (k : ℕ) → (k * unsigned_abs d) ∣ unsigned_abs d → k ∣ 1
    only_one k h =
        let l : 0 < unsigned_abs d = omega (arith, g.positive, ints) in
        dvd_of_mul-dvd-mul_right k l (subst (λ n. (k * unsigned_abs d) ∣ n) (omega arith) h)

-- it is one already if nothing but 1 divides it
pub lowest_if_one : {u : Spot} {d : ℤ} → IsGreatestDivisor u d → d ≡ pos 1 → IsLowest u
lowest_if_one {u} {d} g e =
    record { lowest = λ k x y z w. dvd_antisymm (subst (λ (n : ℤ). k ∣ unsigned_abs n) e (g.greatest k x y z w)) (one-dvd k) }

-- ---- the greatest common divisor of four
module _ (u : Spot) (valid : IsValidMeet u) (w x y z a b g : ℕ) (ew : w ≡ unsigned_abs u.w) (ex : x ≡ unsigned_abs u.x)
    (ey : y ≡ unsigned_abs u.y) (ez : z ≡ unsigned_abs u.z) (first : IsGcd w x a) (second : IsGcd a y b)
    (third : IsGcd b z g) where
  in_b : g ∣ b
  in_b = third.0

  in_a : g ∣ a
  in_a = dvd_trans g in_b second.0

  in_w : g ∣ unsigned_abs u.w
  in_w = subst (λ n. g ∣ n) ew (dvd_trans g in_a first.0)

  pub divisor_small : Small 302231454903657293676543 (pos g)
  divisor_small =
      let l : 0 < unsigned_abs u.w = omega (arith, valid.weight, ints) in
      record { small = omega (arith, le_of_dvd l in_w, valid.w.small) }

  divisor_positive : pos 0 <ℤ pos g
  divisor_positive = positive g in_w
    where
      positive : (k : ℕ) → k ∣ unsigned_abs u.w → pos 0 <ℤ pos k
      positive zero h = absurd (omega (arith, valid.weight, mod-eq-zero_of_dvd zero h, ints))
      positive (suc k) h = omega (arith, ints)

  pub greatest_divisor : IsGreatestDivisor u (pos g)
  greatest_divisor =
      record {
        positive = divisor_positive;
        small = divisor_small;
        x =
            subst (λ n. g ∣ n) ex (dvd_trans g in_a first.1);
        y = subst (λ n. g ∣ n) ey (dvd_trans g in_b second.1);
        z =
            subst (λ n. g ∣ n) ez third.1;
        w = in_w;
        greatest =
            λ k kx ky kz kw. third.2 k (second.2 k (first.2 k (subst (λ n. k ∣ n) (sym ew) kw)
            (subst (λ n. k ∣ n) (sym ex) kx)) (subst (λ n. k ∣ n) (sym ey) ky)) (subst (λ n. k ∣ n) (sym ez) kz);
      }
