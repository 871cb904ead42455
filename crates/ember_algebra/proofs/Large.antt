-- What holds for every large number.
use Rattle.std.proofs.Common.{◌≡◌, ℕ, zero, suc, ◌+◌, ◌<◌, max, refl, ap, ◌∙◌, arith, List, [], ◌∷◌, ℤ, pos, negsuc, ◌+ℤ◌, ◌*ℤ◌, ◌<ℤ◌, unsigned_abs, le_refl}
use borrow.Author.Differences.{ints}
use Rattle.ember_algebra.specs.Size.{Small}
use Rattle.ember_algebra.specs.Sign.{sign}
use Rattle.ember_algebra.specs.Large.{Eventually, horner, first_sign, EachSmall}
use Rattle.ember_algebra.proofs.Order.{large_pos, large_neg, sign_pos, sign_neg}

-- what holds of all large numbers separately holds of them together
pub eventually_both : {P Q : ℕ → Type 0} → Eventually P → Eventually Q → Eventually (λ n. P n × Q n)
eventually_both p q =
    record { from = max p.from q.from; holds = λ n h. (p.holds n (omega arith), q.holds n (omega arith)) }

-- what follows from a fact of all large numbers holds of all large numbers too
pub eventually_map : {P Q : ℕ → Type 0} → ((n : ℕ) → P n → Q n) → Eventually P → Eventually Q
eventually_map f p = record { from = p.from; holds = λ n h. f n (p.holds n h) }

-- a linear function that rises is positive at all large numbers
pub eventually_pos : {a : ℤ} (v : ℤ) → pos 0 <ℤ a → Eventually (λ n. pos 0 <ℤ (a *ℤ pos n +ℤ v))
eventually_pos v p =
    record { from = unsigned_abs v + 1; holds = λ n h. large_pos (own v) (omega arith) p }
  where
    own : (v : ℤ) → Small (unsigned_abs v) v
    own v = record { small = le_refl (unsigned_abs v) }

-- a polynomial with small coefficients and a positive leading one is positive at a large number
pub horner_pos : {m n : ℕ} (vs : List ℤ) (a : ℤ) → m < n → EachSmall m vs → pos 0 <ℤ a → pos 0 <ℤ horner (pos n) a vs
horner_pos [] a l s p = p
horner_pos {n = n} (v ∷ vs) a l s p = horner_pos vs (a *ℤ pos n +ℤ v) l s.1 (large_pos s.0 l p)

-- a polynomial with small coefficients and a negative leading one is negative at a large number
pub horner_neg : {m n : ℕ} (vs : List ℤ) (a : ℤ) → m < n → EachSmall m vs → a <ℤ pos 0 → (horner (pos n) a vs) <ℤ pos 0
horner_neg [] a l s p = p
horner_neg {n = n} (v ∷ vs) a l s p = horner_neg vs (a *ℤ pos n +ℤ v) l s.1 (large_neg s.0 l p)

-- at a number above the coefficients' sizes, a polynomial has the sign of its first coefficient that is not 0
pub sign-horner : {m n : ℕ} (vs : List ℤ) → m < n → EachSmall m vs → sign (horner (pos n) (pos 0) vs) ≡ first_sign vs
sign-horner [] l s = refl
sign-horner {n = n} (pos zero ∷ vs) l s =
    let e : pos 0 *ℤ pos n +ℤ pos 0 ≡ pos 0 = omega (arith, ints) in ap (λ (a : ℤ). sign (horner (pos n) a vs)) e ∙ sign-horner vs l s.1
sign-horner {n = n} (pos (suc k) ∷ vs) l s =
    sign_pos (horner_pos vs (pos 0 *ℤ pos n +ℤ pos (suc k)) l s.1 (omega (arith, ints)))
sign-horner {n = n} (negsuc k ∷ vs) l s =
    sign_neg (horner_neg vs (pos 0 *ℤ pos n +ℤ negsuc k) l s.1 (omega (arith, ints)))
