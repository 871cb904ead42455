-- Numbers alone: the crossings of the four sides of a small rectangle with a half plane, added up.
use Rattle.std.proofs.Common.{◌≡◌, ◌≢◌, sym, ap, ◌∙◌, arith, Bool, true, false, cond, ◌&&◌, ℤ, pos, negsuc, ◌+ℤ◌, ◌-ℤ◌, ◌*ℤ◌, neg_ℤ, ◌<ℤ◌}
use Rattle.ember_algebra.specs.Sign.{sign, is_negative}
use Rattle.ember_algebra.proofs.Laws.{linear}
use Rattle.ember_algebra.proofs.Order.{by_sign, pos_mul, mul_pos_neg, mul_neg_pos, mul_neg_neg, sign_pos, sign_neg}
use Rattle.ember_algebra.proofs.Ring.{◌⊕◌, ◌⊖◌, ◌⊗◌, ◌≈◌, neg, solve, cancels}
use Rattle.ember_algebra.proofs.Numbers.{neg_positive}
use Rattle.ember_model.specs.Faces.{size}
use Rattle.ember_model.proofs.SignTests.{negative_in, positive_not_negative}
use Rattle.ember_model.proofs.Legs.{size_is_pos, size_is_neg}

-- the crossing of the way from s to t, where the half's plane goes from g to h and is negative at the crossing
abbrev pub cut : ℤ → ℤ → ℤ → ℤ → ℤ
cut s t g h =
    cond (is_negative (s *ℤ t) && is_negative (size t *ℤ g +ℤ size s *ℤ h)) (sign t) (pos 0)

-- that with the whole plane
abbrev pub passed : ℤ → ℤ → ℤ
passed s t = cond (is_negative (s *ℤ t)) (sign t) (pos 0)

-- ---- one side
cut_off : (s t g h : ℤ) → pos 0 <ℤ (s *ℤ t) → cut s t g h ≡ pos 0
cut_off s t g h l =
    ap (λ (b : Bool). cond (b && is_negative (size t *ℤ g +ℤ size s *ℤ h)) (sign t) (pos 0)) (positive_not_negative l)

passed_off : (s t : ℤ) → pos 0 <ℤ (s *ℤ t) → passed s t ≡ pos 0
passed_off s t l = ap (λ (b : Bool). cond b (sign t) (pos 0)) (positive_not_negative l)

-- from below to above, and from above to below
cut_up : (s t g h : ℤ) {e : ℤ} → s <ℤ pos 0 → pos 0 <ℤ t → t *ℤ g +ℤ neg_ℤ s *ℤ h ≡ e → cut s t g h ≡ cond (is_negative e) (pos 1) (pos 0)
cut_up s t g h l m p =
    let n = negative_in (mul_neg_pos l m) in let x = size_is_pos t m in let y = size_is_neg s l in let k = sign_pos m in
    (λ i. cond (n i && is_negative (x i *ℤ g +ℤ y i *ℤ h)) (k i) (pos 0)) ∙ ap (λ (e : ℤ). cond (is_negative e) (pos 1) (pos 0)) p

cut_down : (s t g h : ℤ) {e : ℤ} → pos 0 <ℤ s → t <ℤ pos 0 → neg_ℤ t *ℤ g +ℤ s *ℤ h ≡ e → cut s t g h ≡ cond (is_negative e) (negsuc 0) (pos 0)
cut_down s t g h l m p =
    let n = negative_in (mul_pos_neg l m) in let x = size_is_neg t m in let y = size_is_pos s l in let k = sign_neg m in
    (λ i. cond (n i && is_negative (x i *ℤ g +ℤ y i *ℤ h)) (k i) (pos 0)) ∙ ap (λ (e : ℤ). cond (is_negative e) (negsuc 0) (pos 0)) p

passed_up : (s t : ℤ) → s <ℤ pos 0 → pos 0 <ℤ t → passed s t ≡ pos 1
passed_up s t l m = let n = negative_in (mul_neg_pos l m) in let k = sign_pos m in λ i. cond (n i) (k i) (pos 0)

passed_down : (s t : ℤ) → pos 0 <ℤ s → t <ℤ pos 0 → passed s t ≡ negsuc 0
passed_down s t l m = let n = negative_in (mul_pos_neg l m) in let k = sign_neg m in λ i. cond (n i) (k i) (pos 0)

-- a crossing up on one side of the plane, and one down on the other
two_halves : (e : ℤ) → cond (is_negative (neg_ℤ e)) (pos 1) (pos 0) +ℤ cond (is_negative e) (negsuc 0) (pos 0) ≡ sign e
two_halves e =
    by_sign e
    (λ l. let x : is_negative (neg_ℤ e) ≡ true = negative_in (omega (arith, linear)) in let y = positive_not_negative l in
    (λ i. cond (x i) (pos 1) (pos 0) +ℤ cond (y i) (negsuc 0) (pos 0)) ∙ sym (sign_pos l))
    (λ z. (λ i. cond (is_negative (neg_ℤ (z i))) (pos 1) (pos 0) +ℤ cond (is_negative (z i)) (negsuc 0) (pos 0)) ∙ ap sign (sym z))
    (λ l. let x : is_negative (neg_ℤ e) ≡ false = positive_not_negative (omega (arith, linear)) in let y = negative_in l in
    (λ i. cond (x i) (pos 1) (pos 0) +ℤ cond (y i) (negsuc 0) (pos 0)) ∙ sym (sign_neg l))

-- ---- four sides: the support plane is -y, x, y, -x at the corners, and the edge plane -v, u, v, -u
abbrev pub cuts_round : ℤ → ℤ → ℤ → ℤ → ℤ
cuts_round x y u v =
    cut (neg_ℤ y) x (neg_ℤ v) u +ℤ cut x y u v +ℤ cut y (neg_ℤ x) v (neg_ℤ u) +ℤ cut (neg_ℤ x) (neg_ℤ y) (neg_ℤ u) (neg_ℤ v)

abbrev pub passed_round : ℤ → ℤ → ℤ
passed_round x y = passed (neg_ℤ y) x +ℤ passed x y +ℤ passed y (neg_ℤ x) +ℤ passed (neg_ℤ x) (neg_ℤ y)

-- a number and its negative
below : {x : ℤ} → pos 0 <ℤ x → neg_ℤ x <ℤ pos 0
below l = omega (arith, linear)

module _ (x y u v : ℤ) where
  abbrev turn : ℤ
  turn = x *ℤ v -ℤ y *ℤ u

  cuts_high : pos 0 <ℤ x → pos 0 <ℤ y → cuts_round x y u v ≡ sign turn
  cuts_high l m =
      let a = cut_up (neg_ℤ y) x (neg_ℤ v) u {e =
      neg_ℤ turn} (below m) l (solve 4 (λ x y u v. x ⊗ neg v ⊕ neg (neg y) ⊗ u ≈ neg (x ⊗ v ⊖ y ⊗ u)) cancels x y u v)
      in
      let b = cut_off x y u v (pos_mul l m) in
      let c = cut_down y (neg_ℤ x) v (neg_ℤ u) {e = turn} m (below l) (solve 4 (λ x y u v. neg (neg x) ⊗ v ⊕ y ⊗ neg u ≈ x ⊗ v ⊖ y ⊗ u) cancels x y u v) in
      let d = cut_off (neg_ℤ x) (neg_ℤ y) (neg_ℤ u) (neg_ℤ v) (mul_neg_neg (below l) (below m)) in
      omega (arith, linear, a, b, c, d, two_halves turn)

  cuts_low : x <ℤ pos 0 → y <ℤ pos 0 → cuts_round x y u v ≡ sign turn
  cuts_low l m =
      let a = cut_down (neg_ℤ y) x (neg_ℤ v) u {e = turn} (neg_positive m) l (solve 4 (λ x y u v. neg x ⊗ neg v ⊕ neg y ⊗ u ≈ x ⊗ v ⊖ y ⊗ u) cancels x y u v) in
      let b = cut_off x y u v (mul_neg_neg l m) in
      let c = cut_up y (neg_ℤ x) v (neg_ℤ u) {e =
      neg_ℤ turn} m (neg_positive l) (solve 4 (λ x y u v. neg x ⊗ v ⊕ neg y ⊗ neg u ≈ neg (x ⊗ v ⊖ y ⊗ u)) cancels x y u v)
      in
      let d = cut_off (neg_ℤ x) (neg_ℤ y) (neg_ℤ u) (neg_ℤ v) (pos_mul (neg_positive l) (neg_positive m)) in
      omega (arith, linear, a, b, c, d, two_halves turn)

  cuts_right : pos 0 <ℤ x → y <ℤ pos 0 → cuts_round x y u v ≡ sign turn
  cuts_right l m =
      let a = cut_off (neg_ℤ y) x (neg_ℤ v) u (pos_mul (neg_positive m) l) in
      let b = cut_down x y u v {e = turn} l m (solve 4 (λ x y u v. neg y ⊗ u ⊕ x ⊗ v ≈ x ⊗ v ⊖ y ⊗ u) cancels x y u v) in
      let c = cut_off y (neg_ℤ x) v (neg_ℤ u) (mul_neg_neg m (below l)) in
      let d = cut_up (neg_ℤ x) (neg_ℤ y) (neg_ℤ u) (neg_ℤ v) {e =
      neg_ℤ turn} (below l) (neg_positive m) (solve 4 (λ x y u v. neg y ⊗ neg u ⊕ neg (neg x) ⊗ neg v ≈ neg (x ⊗ v ⊖ y ⊗ u))
      cancels x y u v) in
      omega (arith, linear, a, b, c, d, two_halves turn)

  cuts_left : x <ℤ pos 0 → pos 0 <ℤ y → cuts_round x y u v ≡ sign turn
  cuts_left l m =
      let a = cut_off (neg_ℤ y) x (neg_ℤ v) u (mul_neg_neg (below m) l) in
      let b = cut_up x y u v {e = neg_ℤ turn} l m (solve 4 (λ x y u v. y ⊗ u ⊕ neg x ⊗ v ≈ neg (x ⊗ v ⊖ y ⊗ u)) cancels x y u v) in
      let c = cut_off y (neg_ℤ x) v (neg_ℤ u) (pos_mul m (neg_positive l)) in
      let d = cut_down (neg_ℤ x) (neg_ℤ y) (neg_ℤ u) (neg_ℤ v) {e =
      turn} (neg_positive l) (below m) (solve 4 (λ x y u v. neg (neg y) ⊗ neg u ⊕ neg x ⊗ neg v ≈ x ⊗ v ⊖ y ⊗ u) cancels x y
      u v) in
      omega (arith, linear, a, b, c, d, two_halves turn)

-- round a rectangle whose corners are off the support plane, the crossings with a half of it add up to the sign of the turn
pub quad_turns : (x y u v : ℤ) → x ≢ pos 0 → y ≢ pos 0 → cuts_round x y u v ≡ sign (x *ℤ v -ℤ y *ℤ u)
quad_turns x y u v nx ny =
    by_sign x
    (λ l. by_sign y (λ m. cuts_high x y u v l m) (λ z. absurd (ny z)) (λ m. cuts_right x y u v l m))
    (λ z. absurd (nx z))
    (λ l. by_sign y (λ m. cuts_left x y u v l m) (λ z. absurd (ny z)) (λ m. cuts_low x y u v l m))

-- those with the whole support plane cancel
pub quad_passes : (x y : ℤ) → x ≢ pos 0 → y ≢ pos 0 → passed_round x y ≡ pos 0
quad_passes x y nx ny =
    by_sign x
    (λ l. by_sign y
    (λ m. let a = passed_up (neg_ℤ y) x (below m) l in let b = passed_off x y (pos_mul l m) in let c =
    passed_down y (neg_ℤ x) m (below l) in let d = passed_off (neg_ℤ x) (neg_ℤ y) (mul_neg_neg (below l) (below m)) in
    omega (arith, linear, a, b, c, d))
    (λ z. absurd (ny z))
    (λ m. let a = passed_off (neg_ℤ y) x (pos_mul (neg_positive m) l) in let b = passed_down x y l m in let c =
    passed_off y (neg_ℤ x) (mul_neg_neg m (below l)) in let d = passed_up (neg_ℤ x) (neg_ℤ y) (below l) (neg_positive m) in
    omega (arith, linear, a, b, c, d)))
    (λ z. absurd (nx z))
    (λ l. by_sign y
    (λ m. let a = passed_off (neg_ℤ y) x (mul_neg_neg (below m) l) in let b = passed_up x y l m in let c =
    passed_off y (neg_ℤ x) (pos_mul m (neg_positive l)) in let d = passed_down (neg_ℤ x) (neg_ℤ y) (neg_positive l) (below m) in
    omega (arith, linear, a, b, c, d))
    (λ z. absurd (ny z))
    (λ m. let a = passed_down (neg_ℤ y) x (neg_positive m) l in let b = passed_off x y (mul_neg_neg l m) in let c =
    passed_up y (neg_ℤ x) m (neg_positive l) in let d = passed_off (neg_ℤ x) (neg_ℤ y) (pos_mul (neg_positive l) (neg_positive m)) in
    omega (arith, linear, a, b, c, d)))
