-- Division without a rest, and what the code keeps of it.
use Rattle.std.proofs.Common.{◌≡◌, ◌≢◌, ℕ, zero, suc, ◌*◌, ◌^◌, ◌<◌, ◌≤◌, T, ltb, ℤ, pos, negsuc, ◌*ℤ◌, ◌-ℤ◌, ◌<ℤ◌}
use Rattle.std.proofs.Common.{neg_ℤ, unsigned_abs, int_div, int_rem, SFits, to_z, of_z, to_z-of_z, refl, sym, ap, ◌∙◌}
use Rattle.std.proofs.Common.{arith, mul-le-mul}
use Rattle.std.specs.Int.{◌∣◌}
use Rattle.std.proofs.lemmas.Int.{ints, quot-rem, quot_is, unsigned_abs-mul}
use Rattle.std.proofs.lemmas.Nat.Gcd.{mod-eq-zero_of_dvd}
use lib.IntN.{*ℤ_comm}
use mir.Syntax.{Width, w64, w128}
use mir.Val.{hbits}
use Rattle.ember_algebra.specs.Size.{Small}
use Rattle.ember_algebra.proofs.Size.{fits_small}
use Rattle.ember_algebra.proofs.Exact.{kept, ◌&◌, done, exact}

no_rest : (v d : ℤ) → unsigned_abs d ∣ unsigned_abs v → int_rem v d ≡ pos 0
no_rest (pos n) (pos d) h = ap pos (mod-eq-zero_of_dvd d h)
no_rest (pos n) (negsuc d) h = ap pos (mod-eq-zero_of_dvd (suc d) h)
no_rest (negsuc n) (pos d) h = ap (λ (m : ℕ). neg_ℤ (pos m)) (mod-eq-zero_of_dvd d h)
no_rest (negsuc n) (negsuc d) h = ap (λ (m : ℕ). neg_ℤ (pos m)) (mod-eq-zero_of_dvd (suc d) h)

exact_division : (v d : ℤ) → unsigned_abs d ∣ unsigned_abs v → int_div v d *ℤ d ≡ v
exact_division v d h = let e = quot-rem v d in let z = no_rest v d h in omega (arith, e, z, ints)

-- the size of a number other than 0 is positive
pub size_positive : (d : ℤ) → d ≢ pos 0 → 0 < unsigned_abs d
size_positive (pos zero) n = absurd (n refl)
size_positive (pos (suc d)) n = omega (arith, ints)
size_positive (negsuc d) n = omega (arith, ints)

-- a quotient is no larger
pub quotient_small : {m : ℕ} (q d n : ℤ) → d ≢ pos 0 → q *ℤ d ≡ n → Small m n → Small m q
quotient_small {m} q d n p e s =
    let l = size_positive d p in
    let f : unsigned_abs q * unsigned_abs d ≡ unsigned_abs n = sym (unsigned_abs-mul q d) ∙ ap unsigned_abs e in
    let k : unsigned_abs q * 1 ≤ unsigned_abs q * unsigned_abs d = mul-le-mul (omega arith) l in
    record { small = omega (arith, k, f, s.small) }

-- the quotient as the code keeps it
pub stored_quotient : (w : Width) {m : ℕ} (n d : ℤ) → SFits w n → SFits w d → d ≢ pos 0 →
    unsigned_abs d ∣ unsigned_abs n → Small m n → T (ltb m (2 ^ hbits w)) →
    to_z w (of_z w (int_div (to_z w (of_z w n)) (to_z w (of_z w d)))) *ℤ d ≡ n
stored_quotient w {m} n d fn fd p h s t =
    let e = exact_division n d h in
    let i = quot_is w n d fn fd (fits_small w (quotient_small (int_div n d) d n p e s) t) in
    ap (λ (q : ℤ). q *ℤ d) i ∙ e

-- of numbers of 128 bits that fit into 64
pub narrow_quotient : (n d : ℤ) → d ≢ pos 0 → unsigned_abs d ∣ unsigned_abs n → Small 4611686018427387903 n →
    Small 4611686018427387903 d → to_z w128 (of_z w128 (to_z w64 (of_z w64
    (int_div (to_z w64 (of_z w64 (to_z w128 (of_z w128 n)))) (to_z w64 (of_z w64 (to_z w128 (of_z w128 d)))))))) *ℤ d ≡ n
narrow_quotient n d p h s t =
    let k : to_z w128 (of_z w128 n) ≡ n = exact (s & done) (kept 0) tt in
    let l : to_z w128 (of_z w128 d) ≡ d = exact (t & done) (kept 0) tt in
    let e = stored_quotient w64 n d (fits_small w64 s tt) (fits_small w64 t tt) p h s tt in
    rw (k, l) (ap (λ (q : ℤ). q *ℤ d) (exact (quotient_small _ d n p e s & done) (kept 0) tt) ∙ e)

-- ---- what the code reads and keeps
-- a divisor still divides once both numbers are stored and read
pub divides_read : (w : Width) {d n : ℤ} → SFits w d → to_z w (of_z w n) ≡ n → unsigned_abs d ∣ unsigned_abs n →
    unsigned_abs (to_z w (of_z w d)) ∣ unsigned_abs (to_z w (of_z w n))
divides_read w f e h = rw (to_z-of_z f, e) h

-- a quotient that fits is kept as the code stores it
pub quotient_kept : (w : Width) (d q n : ℤ) → SFits w d → SFits w q → to_z w (of_z w n) ≡ n →
    q *ℤ to_z w (of_z w d) ≡ to_z w (of_z w n) → d *ℤ to_z w (of_z w q) ≡ n
quotient_kept w d q n fd fq en e =
    ap (λ (x : ℤ). d *ℤ x) (to_z-of_z fq) ∙ *ℤ_comm d q ∙ ap (λ (x : ℤ). q *ℤ x) (sym (to_z-of_z fd)) ∙ e ∙ en

-- a negative divisor
pub minus_size : (g : ℕ) (r : ℤ) → r ≡ pos 0 -ℤ pos g → unsigned_abs r ≡ g
minus_size g r e = omega (arith, ints)

-- a natural number whose negative is 0 is 0
pub minus_zero : (g : ℕ) (r : ℤ) → r ≡ pos 0 -ℤ pos g → r ≡ pos 0 → g ≡ 0
minus_zero g r e z = omega (arith, ints)

-- the negative of a natural number that isn't 0 is negative
pub minus_negative : (g : ℕ) (r : ℤ) → r ≡ pos 0 -ℤ pos g → g ≢ 0 → r <ℤ pos 0
minus_negative g r e n = omega (arith, ints)

-- a natural number that isn't 0 is positive
pub plus_positive : (g : ℕ) (r : ℤ) → r ≡ pos g → g ≢ 0 → pos 0 <ℤ r
plus_positive g r e n = omega (arith, ints)

-- a natural number that is 0 as an integer is 0
pub plus_zero : (g : ℕ) (r : ℤ) → r ≡ pos g → r ≡ pos 0 → g ≡ 0
plus_zero g r e z = omega (arith, ints)
