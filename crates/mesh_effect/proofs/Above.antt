-- Quotients that are rounded up.
use Rattle.std.proofs.Common.{◌≡◌, ◌≤◌, ◌<◌, true, ℕ, zero, suc, ◌+◌, ◌-◌, ◌*◌, ◌/◌, ◌^◌, min, sym, ◌∙◌, mul-le-mul, mul-pos, arith}
use Rattle.std.proofs.lemmas.Nat.{pow_pos}
use Rattle.std.proofs.Math.Nat.{lt-div-mul-add, div-mul-le_self, div-eq_of_lt-le, le_of_mul-le-mul_right, lt_of_mul-lt-mul_left}
use Rattle.std.proofs.Math.Pow.{pow_mono}
use Rattle.mesh_number.specs.Number.Quotients.{quotient}

-- q is the least whole number that isn't below x / d
pub record IsAbove (x d q : ℕ) : Type 0 where
  pub enough : x ≤ d * q
  pub least : d * q < x + d

pub above_is : (x d : ℕ) → 0 < d → IsAbove x d (quotient true x d)
above_is x d p =
    let high : x + (d - 1) < (x + (d - 1)) / d * d + d = lt-div-mul-add p in
    let low : (x + (d - 1)) / d * d ≤ x + (d - 1) = div-mul-le_self (x + (d - 1)) d in
    record { enough = omega (arith, p, high); least = omega (arith, p, low) }

pub only_above : (x d q : ℕ) → 0 < d → IsAbove x d q → q ≡ quotient true x d
only_above x d q p is =
    let low : q * d ≤ x + (d - 1) = omega (arith, is.least, p) in
    let high : x + (d - 1) < (q + 1) * d = omega (arith, is.enough, p) in
    sym (div-eq_of_lt-le {k = q} d {m = x + (d - 1)} low high)

-- equal fractions have equal quotients
pub same_quotient : (x d y e : ℕ) → 0 < d → 0 < e → x * e ≡ y * d → quotient true x d ≡ quotient true y e
same_quotient x d y e p q same =
    let is = above_is y e q in
    let n = quotient true y e in
    let most : y * d ≤ e * n * d = mul-le-mul is.enough (omega arith) in
    let enough : x * e ≤ d * n * e = omega (arith, most, same) in
    let next : e * n + 1 ≤ y + e = omega (arith, is.least) in
    let more : (e * n + 1) * d ≤ (y + e) * d = mul-le-mul next (omega arith) in
    let less : e * (d * n) < e * (x + d) = omega (arith, more, same, p) in
    sym (only_above x d n p (record { enough = le_of_mul-le-mul_right enough q; least = lt_of_mul-lt-mul_left e less }))

-- a quotient divided again
pub quotient_of_quotient : (x d k : ℕ) → 0 < d → 0 < k → quotient true (quotient true x d) k ≡ quotient true x (d * k)
quotient_of_quotient x d k p q =
    let w = quotient true x d in
    let n = quotient true w k in
    let inner = above_is x d p in
    let outer = above_is w k q in
    let most : d * w ≤ d * (k * n) = mul-le-mul (omega arith) outer.enough in
    let next : k * n + 1 ≤ w + k = omega (arith, outer.least) in
    let more : d * (k * n + 1) ≤ d * (w + k) = mul-le-mul (omega arith) next in
    only_above x (d * k) n (mul-pos p q) (record {
      enough = omega (arith, most, inner.enough);
      least = omega (arith, more, inner.least);
    })

-- a quotient is at most b if the number is at most d times b
pub quotient_most : (x d b : ℕ) → 0 < d → x ≤ d * b → quotient true x d ≤ b
quotient_most x d b p h =
    let is = above_is x d p in
    let same : d * (b + 1) ≡ d * b + d = omega arith in
    let less : d * quotient true x d < d * (b + 1) = omega (arith, is.least, h, same) in
    let next : quotient true x d < b + 1 = lt_of_mul-lt-mul_left d less in
    omega (arith, next)

-- a greater number has no lesser quotient
pub quotient_grows : (x y d : ℕ) → 0 < d → x ≤ y → quotient true x d ≤ quotient true y d
quotient_grows x y d p h = quotient_most x d (quotient true y d) p (omega (arith, h, (above_is y d p).enough))

-- a number that has a quotient below b is below d times b
pub quotient_less : (x d b : ℕ) → 0 < d → quotient true x d < b → x ≤ d * b
quotient_less x d b p h =
    let is = above_is x d p in
    let most : d * quotient true x d ≤ d * b = mul-le-mul (omega arith) (omega (arith, h)) in
    omega (arith, most, is.enough)

-- ---- from a quotient that is rounded down, and its rest
pub no_rest : (n d whole rest : ℕ) → 0 < d → whole * d + rest ≡ n → rest ≡ 0 → whole ≡ quotient true n d
no_rest n d whole rest p e z = only_above n d whole p (record { enough = omega (arith, e, z); least = omega (arith, e, z, p) })

pub some_rest : (n d whole rest : ℕ) → 0 < d → whole * d + rest ≡ n → rest < d → 0 < rest → whole + 1 ≡ quotient true n d
some_rest n d whole rest p e l s =
    only_above n d (whole + 1) p (record { enough = omega (arith, e, l); least = omega (arith, e, s) })

-- a number divided by a power that isn't less
pub one_if_any : (n bits : ℕ) → n ≤ 2 ^ bits → min n 1 ≡ quotient true n (2 ^ bits)
one_if_any zero bits h =
    let p = pow_pos bits in
    only_above 0 (2 ^ bits) (min 0 1) p (record { enough = omega arith; least = omega (arith, p) })
one_if_any (suc n) bits h =
    let one : min (suc n) 1 ≡ 1 = omega arith in
    one ∙ only_above (suc n) (2 ^ bits) 1 (pow_pos bits) (record { enough = omega (arith, h); least = omega arith })

pub one_of_great_power : (n bits : ℕ) → n < 2 ^ 127 → 127 ≤ bits → min n 1 ≡ quotient true n (2 ^ bits)
one_of_great_power n bits h l =
    let power : 2 ^ 127 ≤ 2 ^ bits = pow_mono {j = bits} l in
    one_if_any n bits (omega (arith, h, power))
