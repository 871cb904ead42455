-- The first sign of a list, under a factor.
use Rattle.std.proofs.Common.{◌≡◌, ◌≢◌, ◌⊎◌, inl, inr, ⊎_elim, true, false, zero, suc, List, [], ◌∷◌, ℤ, pos, negsuc, ◌*ℤ◌, ◌<ℤ◌, refl, sym, ap, ◌∙◌, arith}
use lib.IntN.{*ℤ-zero}
use Rattle.ember_algebra.specs.Large.{first_sign}
use Rattle.ember_algebra.specs.Sign.{sign, is_negative}
use Rattle.ember_algebra.specs.Relations.{Every}
use Rattle.ember_algebra.proofs.Laws.{linear}
use Rattle.ember_algebra.proofs.Order.{by_sign, zero_product, sign-mul, sign_pos, sign_neg, pos_from_sign}
use Rattle.mesh_certificate.proofs.Divisors.{AreMultiples}

first_nonzero : (u : ℤ) (us : List ℤ) → u ≢ pos 0 → first_sign (u ∷ us) ≡ sign u
first_nonzero (pos zero) us n = absurd (n refl)
first_nonzero (pos (suc u)) us n = refl
first_nonzero (negsuc u) us n = refl

first_zero : (u : ℤ) (us : List ℤ) → u ≡ pos 0 → first_sign (u ∷ us) ≡ first_sign us
first_zero u us e = ap (λ (z : ℤ). first_sign (z ∷ us)) e

-- a factor's sign is a factor of the first sign
first_sign_scaled : (f : ℤ) (us vs : List ℤ) → f ≢ pos 0 → AreMultiples f us vs → first_sign vs ≡ sign f *ℤ first_sign us
first_sign_scaled f [] [] n m = sym (*ℤ-zero (sign f))
first_sign_scaled f [] (v ∷ vs) n m = absurd m
first_sign_scaled f (u ∷ us) [] n m = absurd m
first_sign_scaled f (u ∷ us) (v ∷ vs) n m =
    by_sign u
    (λ p. some (λ e. omega (arith, linear)))
    (λ e. first_zero v vs (sym m.0 ∙ ap (λ (z : ℤ). f *ℤ z) e ∙ *ℤ-zero f) ∙ first_sign_scaled f us vs n m.1
    ∙ ap (λ (z : ℤ). sign f *ℤ z) (sym (first_zero u us e)))
    (λ p. some (λ e. omega (arith, linear)))
  where
    some : u ≢ pos 0 → first_sign (v ∷ vs) ≡ sign f *ℤ first_sign (u ∷ us)
    some k = first_nonzero v vs (λ z. ⊎_elim n k (zero_product (m.0 ∙ z))) ∙ ap sign (sym m.0) ∙ sign-mul f u
        ∙ ap (λ (z : ℤ). sign f *ℤ z) (sym (first_nonzero u us k))

-- the factor turns the first sign to 1 if it has that sign
pub forward_where_same_sign : (f : ℤ) (us vs : List ℤ) → f ≢ pos 0 → AreMultiples f us vs → sign f ≡ first_sign vs → first_sign us ≡ pos 1
forward_where_same_sign f us vs n m e =
    by_sign f
    (λ p. let s = sign_pos p in by (first_sign us) s (e ∙ first_sign_scaled f us vs n m))
    (λ z. absurd (n z))
    (λ p. let s = sign_neg p in by_neg (first_sign us) s (e ∙ first_sign_scaled f us vs n m))
  where
    by : (x : ℤ) → sign f ≡ pos 1 → sign f ≡ sign f *ℤ x → x ≡ pos 1
    by x s h = let k = h ∙ ap (λ (z : ℤ). z *ℤ x) s in omega (arith, linear)

    by_neg : (x : ℤ) → sign f ≡ negsuc 0 → sign f ≡ sign f *ℤ x → x ≡ pos 1
    by_neg x s h = let k = h ∙ ap (λ (z : ℤ). z *ℤ x) s in omega (arith, linear)

-- two lists with the first sign 1 that have a common multiple: the factors have one sign
pub forward_factor : (j n : ℤ) (us vs ws : List ℤ) → j ≢ pos 0 → pos 0 <ℤ n → AreMultiples j us ws →
    AreMultiples n vs ws → first_sign us ≡ pos 1 → first_sign vs ≡ pos 1 → pos 0 <ℤ j
forward_factor j n us vs ws p q mu mv eu ev =
    let a = first_sign_scaled j us ws p mu ∙ ap (λ (z : ℤ). sign j *ℤ z) eu in
    let b = first_sign_scaled n vs ws (λ e. omega (arith, linear)) mv ∙ ap (λ (z : ℤ). sign n *ℤ z) ev in
    let s = sign_pos q in
    pos_from_sign j (omega (arith, linear, a, b, s))

-- ---- what the sign of a list is
-- a first sign that is negative is -1
pub backward_is_minus_one : (us : List ℤ) → is_negative (first_sign us) ≡ true → first_sign us ≡ negsuc 0
backward_is_minus_one [] h = cc
backward_is_minus_one (pos zero ∷ us) h = backward_is_minus_one us h
backward_is_minus_one (pos (suc n) ∷ us) h = cc
backward_is_minus_one (negsuc n ∷ us) h = refl

-- a first sign that isn't negative is 1, or all integers are 0
pub forward_or_zero : (us : List ℤ) → is_negative (first_sign us) ≡ false → (first_sign us ≡ pos 1) ⊎ Every (λ z. z ≡ pos 0) us
forward_or_zero [] h = inr tt
forward_or_zero (pos zero ∷ us) h = ⊎_elim (λ e. inl e) (λ z. inr (refl, z)) (forward_or_zero us h)
forward_or_zero (pos (suc n) ∷ us) h = inl refl
forward_or_zero (negsuc n ∷ us) h = cc
