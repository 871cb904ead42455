-- Quotients that are rounded down or up.
use Rattle.std.proofs.Common.{◌≡◌, ◌≤◌, ◌<◌, ℕ, zero, suc, Bool, true, false, ◌+◌, ◌-◌, ◌*◌, ◌/◌, ◌∙◌, sym, ap, ⊎_elim, arith}
use Rattle.std.proofs.lemmas.Bool.{cases_lt}
use Rattle.std.proofs.Math.Nat.{add-mul-div_left, add-mul-div_right, div-div-eq-div-mul, div-eq_of_lt, div-eq_of_lt-le, div-le_of_le-mul, div-lt_iff_lt-mul}
use Rattle.mesh_number.specs.Number.Quotients.{quotient}

-- two cases
pub by_lt : {P : Type 0} (a b : ℕ) → (a < b → P) → (b ≤ a → P) → P
by_lt a b below reached = ⊎_elim below reached (cases_lt a b)

-- a sum over a quotient, divided
quotient_chain_down : (x b y d : ℕ) → 0 < b → (x / b + y) / d ≡ (x + b * y) / (b * d)
quotient_chain_down x b y d p = ap (λ (n : ℕ). n / d) (sym (add-mul-div_left x y p)) ∙ div-div-eq-div-mul (x + b * y) b d

spares : (a b c d e f : ℕ) → b ≡ e + 1 → d ≡ f + 1 → a + e + b * (c + f) ≡ a + b * c + (b * d - 1)
spares a b c d e f p q = rw (p, q) (omega arith)

-- to round twice in one direction is to round once
pub quotient_chain : (up : Bool) (a b c d : ℕ) → 0 < b → 0 < d → quotient up (quotient up a b + c) d ≡ quotient up (a + b * c) (b * d)
quotient_chain false a b c d p q = quotient_chain_down a b c d p
quotient_chain true a b c d p q =
    let sums : a + (b - 1) + b * (c + (d - 1)) ≡ a + b * c + (b * d - 1) = spares a b c d (b - 1) (d - 1) (omega arith) (omega arith) in
    let left : (a + (b - 1)) / b + c + (d - 1) ≡ (a + (b - 1)) / b + (c + (d - 1)) = omega arith in
    ap (λ (n : ℕ). n / d) left ∙ quotient_chain_down (a + (b - 1)) b (c + (d - 1)) d p ∙ ap (λ (n : ℕ). n / (b * d)) sums

-- a multiple of the divisor more
pub quotient_more : (up : Bool) (x y k : ℕ) → 0 < k → quotient up (x + y * k) k ≡ quotient up x k + y
quotient_more false x y k p = add-mul-div_right x y p
quotient_more true x y k p =
    let sums : x + y * k + (k - 1) ≡ x + (k - 1) + y * k = omega arith in
    ap (λ (n : ℕ). n / k) sums ∙ add-mul-div_right (x + (k - 1)) y p

-- a number above 0, rounded up
pub quotient_up_of_more : (x d : ℕ) → 0 < x → 0 < d → (x - 1) / d + 1 ≡ quotient true x d
quotient_up_of_more x d h p =
    let sums : x - 1 + 1 * d ≡ x + (d - 1) = omega arith in
    sym (add-mul-div_right (x - 1) 1 p) ∙ ap (λ (n : ℕ). n / d) sums

-- a quotient of 0 is 0
pub quotient_of_zero : (up : Bool) (k : ℕ) → 0 < k → quotient up 0 k ≡ 0
quotient_of_zero false k p = div-eq_of_lt p
quotient_of_zero true k p = let small : 0 + (k - 1) < k = omega arith in div-eq_of_lt small

-- a multiple of k, divided by k, isn't rounded
pub quotient_exact : (up : Bool) (x k : ℕ) → 0 < k → quotient up (x * k) k ≡ x
quotient_exact up x k p =
    let front : x * k ≡ 0 + x * k = omega arith in
    ap (λ (n : ℕ). quotient up n k) front ∙ quotient_more up 0 x k p ∙ ap (λ (n : ℕ). n + x) (quotient_of_zero up k p) ∙ (omega arith)

-- a common factor doesn't matter
pub quotient_cancel : (up : Bool) (x k c : ℕ) → 0 < k → 0 < c → quotient up (x * c) (k * c) ≡ quotient up x k
quotient_cancel up x k c p q =
    let over : x * c ≡ x * c + c * 0 = omega arith in
    let under : k * c ≡ c * k = omega arith in
    let whole : quotient up (x * c) c + 0 ≡ x = omega (arith, quotient_exact up x c q) in
    ap (λ (n : ℕ). quotient up n (k * c)) over ∙ ap (λ (n : ℕ). quotient up (x * c + c * 0) n) under
    ∙ sym (quotient_chain up (x * c) c 0 k q p) ∙ ap (λ (n : ℕ). quotient up n k) whole

-- a number below its divisor is rounded to 0 or 1
quotient_small : (up : Bool) (x d : ℕ) → suc x < d → (quotient false (suc x) d ≡ 0) × (quotient true (suc x) d ≡ 1)
quotient_small up x d h =
    let low : 1 * d ≤ suc x + (d - 1) = omega arith in
    let high : suc x + (d - 1) < (1 + 1) * d = omega arith in
    (div-eq_of_lt h, div-eq_of_lt-le {k = 1} d {m = suc x + (d - 1)} low high)

-- by how much a divisor is larger doesn't matter
pub quotient_far : (up : Bool) (x d e : ℕ) → x < d → x < e → quotient up x d ≡ quotient up x e
quotient_far up zero d e p q = quotient_of_zero up d p ∙ sym (quotient_of_zero up e q)
quotient_far false (suc x) d e p q = (quotient_small false x d p).0 ∙ sym (quotient_small false x e q).0
quotient_far true (suc x) d e p q = (quotient_small true x d p).1 ∙ sym (quotient_small true x e q).1

-- a quotient is at most any whole number that reaches it
pub quotient_le : (up : Bool) (x d k : ℕ) → 0 < d → x ≤ k * d → quotient up x d ≤ k
quotient_le up x d k p h = by up
  where
    by : (up : Bool) → quotient up x d ≤ k
    by false = let under : x ≤ d * k = omega arith in div-le_of_le-mul d under
    by true = let under : x + (d - 1) < (k + 1) * d = omega arith in omega (arith, (div-lt_iff_lt-mul p).1 under)
