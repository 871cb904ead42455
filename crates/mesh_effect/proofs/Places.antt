-- Decimal places: how many there are of a move.
use Rattle.std.proofs.Common.{◌≡◌, ◌≤◌, ◌<◌, ⊎_elim, Bool, true, false, cond, ℕ, zero, suc, ◌+◌, ◌-◌, ◌*◌, ◌^◌, nat_lt, sym, ap, ◌∙◌, mul-le-mul, arith}
use Rattle.std.proofs.lemmas.Bool.{cases_lt, lt-ltb, le-ltb}
use Rattle.std.proofs.lemmas.Grind.{pow_more}
use Rattle.std.proofs.Math.Nat.{pow-le-pow_right}
use Rattle.mesh_effect.specs.declared.rounding.tick.Tick.{Tick}
use Rattle.mesh_effect.specs.Rounding.Ticks.{IsTick}
use Rattle.mesh_effect.specs.Rounding.Shown.{rounded_up, places_up_to}
use Rattle.mesh_effect.proofs.Above.{quotient_grows, quotient_most}

-- powers of ten
pub tens_grow : (i j : ℕ) → i ≤ j → 10 ^ i ≤ 10 ^ j
tens_grow i j l = pow-le-pow_right {n = 10} (omega arith) {i = i} {j = j} l

module _ (root : ℕ) (tick : Tick) (p : 0 < tick.denominator) where
  more_places : (i j : ℕ) → i ≤ j → rounded_up root tick i ≤ rounded_up root tick j
  more_places i j l =
      let most : root * tick.numerator * 10 ^ i ≤ root * tick.numerator * 10 ^ j = mul-le-mul (omega arith) (tens_grow i j l) in
      quotient_grows (root * tick.numerator * 10 ^ i) (root * tick.numerator * 10 ^ j) tick.denominator p most

  places_with : (most : ℕ) (b : Bool) → nat_lt (rounded_up root tick (suc most)) (10 ^ 9) ≡ b →
      places_up_to root tick (suc most) ≡ cond b (suc most) (places_up_to root tick most)
  unfolding places_up_to
  places_with most b e = ap (λ (t : Bool). cond t (suc most) (places_up_to root tick most)) e

  is_short : (places : ℕ) → rounded_up root tick places < 10 ^ 9 → nat_lt (rounded_up root tick places) (10 ^ 9) ≡ true
  is_short places l = lt-ltb (rounded_up root tick places) (10 ^ 9) l

  -- with so many places there are at most nine digits, and with one more there are more
  pub places_are : (most places : ℕ) → places ≤ most → (0 < places → rounded_up root tick places < 10 ^ 9) →
      (places < most → 10 ^ 9 ≤ rounded_up root tick (places + 1)) → places ≡ places_up_to root tick most
  unfolding places_up_to
  places_are zero places few short long = omega (arith, few)
  places_are (suc most) places few short long =
      ⊎_elim
      (λ l.
      let next : places + 1 ≤ suc most = omega (arith, l) in
      let least : 10 ^ 9 ≤ rounded_up root tick (places + 1) = long (omega (arith, l)) in
      let grows = more_places (places + 1) (suc most) next in
      let test : nat_lt (rounded_up root tick (suc most)) (10 ^ 9) ≡ false = le-ltb (rounded_up root tick (suc most)) (10 ^ 9) (omega (arith, least, grows)) in
      places_are most places (omega (arith, l)) short (λ k. least) ∙ sym (places_with most false test))
      (λ g.
      let same : places ≡ suc most = omega (arith, few, g) in
      let least : rounded_up root tick places < 10 ^ 9 = short (omega (arith, same)) in
      let test : nat_lt (rounded_up root tick (suc most)) (10 ^ 9) ≡ true = rw (sym same) (is_short places least) in
      same ∙ sym (places_with most true test))
      (cases_lt places (suc most))

-- ---- moves with and without an exponent
-- a move of at least 10^-4 has few places
pub few_places : (size places : ℕ) → 10 ^ places ≤ 10 ^ 4 * size → (0 < places → size < 10 ^ 9) → places ≤ 17
few_places size places large short =
    ⊎_elim
    (λ l. absurd (let power = tens_grow 18 places (omega (arith, l)) in let less : size < 10 ^ 9 =
    short (omega (arith, l)) in omega (arith, power, large, less)))
    (λ l. l)
    (cases_lt 17 places)

-- and one below that has some
pub some_places : (size places : ℕ) → 0 < size → 10 ^ 4 * size < 10 ^ places → 0 < places
some_places size zero some small = absurd (omega (arith, some, small))
some_places size (suc places) some small = omega arith

-- ---- sizes
under_own : (x d : ℕ) → 0 < d → x ≤ d * x
under_own x d p = let most : 1 * x ≤ d * x = mul-le-mul p (omega arith) in omega (arith, most)

-- the size of a move is small, with places and without
pub size_small : (root : ℕ) (tick : Tick) (places : ℕ) → root ≤ 2 ^ 64 → IsTick tick →
    (0 < places → rounded_up root tick places < 10 ^ 9) → rounded_up root tick places < 2 ^ 108
size_small root tick zero small is short =
    let over = root * tick.numerator * 10 ^ 0 in
    let numerator : tick.numerator ≤ 2 ^ 44 - 1 = omega (arith, is.numerator_small) in
    let most : root * tick.numerator ≤ 2 ^ 64 * (2 ^ 44 - 1) = mul-le-mul small numerator in
    let whole = quotient_most over tick.denominator over is.denominator_positive (under_own over tick.denominator is.denominator_positive) in
    omega (arith, whole, most)
size_small root tick (suc places) small is short = let few : rounded_up root tick (suc places) < 10 ^ 9 = short (omega arith) in omega (arith, few)

-- ---- one place more
pub next_over : (root : ℕ) (tick : Tick) (places over next : ℕ) → over ≡ root * tick.numerator * 10 ^ places →
    next ≡ over * 10 → next ≡ root * tick.numerator * 10 ^ (places + 1)
next_over root tick places over next e f =
    let power : 10 ^ (places + 1) ≡ 10 ^ places * 10 = pow_more 10 places in
    f ∙ rw (e, power) (omega arith)
