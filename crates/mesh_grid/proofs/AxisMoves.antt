-- How far a number is from its cell, in ticks.
use Rattle.std.proofs.Common.{◌≡◌, ◌≤◌, ◌<◌, ◌⊎◌, ⊎_elim, inl, inr, true, max, ℕ, suc, ◌+◌, ◌-◌, ◌*◌, ◌/◌, ◌%◌}
use Rattle.std.proofs.Common.{refl, sym, ap, ◌∙◌, arith, ℤ, pos, negsuc, neg_ℤ, ◌+ℤ◌, ◌-ℤ◌, ◌*ℤ◌, ◌<ℤ◌, ◌≤ℤ◌, mul-pos}
use borrow.Author.Differences.{ints}
use Rattle.std.specs.Int.{int_div_euclid, int_rem_euclid}
use Rattle.std.specs.Int.RustNames.{unsigned_abs}
use Rattle.std.proofs.lemmas.Bool.{cases_lt}
use Rattle.std.proofs.Math.Nat.{div-add-mod, lt-div-mul-add, div-eq_of_lt-le, mul-le-mul_left, lt_of_mul-lt-mul_left}
use Rattle.std.proofs.Math.Nat.{le-max_left, le-max_right, max-eq_left, max-eq_right}
use Rattle.ember_algebra.proofs.Laws.{linear, *ℤ-neg}
use Rattle.ember_algebra.proofs.Order.{mul_le, mul_lt}
use Rattle.ember_algebra.proofs.Ring.{◌⊕◌, ◌⊖◌, ◌⊗◌, ◌≈◌, num, solve, cancels}
use Rattle.ember_algebra.proofs.Numbers.{unsigned_abs-neg}
use Rattle.mesh_number.specs.Number.Fractions.{Fraction, is_below_limit, floor_of_multiple}
use Rattle.mesh_number.specs.Number.Quotients.{quotient}
use Rattle.mesh_grid.specs.declared.snap.steps.GridStep.{GridStep}
use Rattle.mesh_grid.specs.Snap.Cells.{scaled_number, scaled_step, scaled_half, cell_of}
use Rattle.mesh_grid.specs.Snap.Decimals.{negated}
use Rattle.mesh_grid.proofs.Floors.{floor_low, floor_high, floor_is, floor_chain}
use Rattle.mesh_grid.proofs.Nearest.{cell_nearest}
use Rattle.mesh_grid.specs.Moves.Moves.{scaled_distance, ticks_of, ceiling_of_multiple}

-- ---- sizes
size_of_multiple : (k : ℕ) (z : ℤ) → unsigned_abs (pos k *ℤ z) ≡ k * unsigned_abs z
size_of_multiple k (pos n) = refl
size_of_multiple k (negsuc n) = unsigned_abs-neg (pos (k * suc n))

-- a number with the other sign is below the limit if the number is
pub negated_is_below : (v : Fraction) → is_below_limit v ≡ true → is_below_limit (negated v) ≡ true
negated_is_below v h = rw (unsigned_abs-neg v.numerator) h

size_is_most : (z : ℤ) (n : ℕ) → z ≤ℤ pos n → neg_ℤ z ≤ℤ pos n → unsigned_abs z ≤ n
size_is_most (pos m) n low high = omega (arith, ints, low)
size_is_most (negsuc m) n low high = omega (arith, ints, high)

below_size : (x : ℤ) → x ≤ℤ pos (unsigned_abs x)
below_size (pos m) = omega (arith, ints)
below_size (negsuc m) = omega (arith, ints)

-- a quotient that is rounded up is less than 1 above the quotient in size
rounded_size : (d : ℕ) (x t : ℤ) → 0 < d → t ≤ℤ (pos d *ℤ x) → (pos d *ℤ x) <ℤ (t +ℤ pos d) → d * unsigned_abs x < unsigned_abs t + d
rounded_size d (pos x) (pos t) p low high = omega (arith, ints, low, high)
rounded_size d (pos x) (negsuc t) p low high = omega (arith, ints, low, high)
rounded_size d (negsuc x) (pos t) p low high = omega (arith, ints, p, low, high)
rounded_size d (negsuc x) (negsuc t) p low high = omega (arith, ints, p, low, high)

-- the greater of two numbers is one of them
one_of_two : (m n : ℕ) → (max m n ≡ m) ⊎ (max m n ≡ n)
one_of_two m n = ⊎_elim (λ l. inr (max-eq_right (omega (arith, l)))) (λ l. inl (max-eq_left l)) (cases_lt m n)

-- ---- quotients
-- a quotient that is rounded up isn't below the quotient
pub above_quotient : (x d : ℕ) → 0 < d → x ≤ d * quotient true x d
above_quotient x d p =
    let m : x + (d - 1) < (x + (d - 1)) / d * d + d = lt-div-mul-add p in
    omega (arith, p, m)

-- a quotient times its divisor, and the rest
rest_is : (a : ℤ) (w : ℕ) → 0 < w → int_rem_euclid a (pos w) ≡ a -ℤ pos w *ℤ int_div_euclid a (pos w)
rest_is (pos x) w p = let e = div-add-mod x w in omega (arith, ints, e)
rest_is (negsuc x) w p =
    let e = div-add-mod x w in
    let m : x < x / w * w + w = lt-div-mul-add p in
    let small : x % w < w = omega (arith, e, m) in
    omega (arith, ints, e, small)

-- a factor of both doesn't change a quotient
scaled_floor : (k : ℕ) (a : ℤ) (b : ℕ) → 0 < k → 0 < b → int_div_euclid (pos k *ℤ a) (pos (k * b)) ≡ int_div_euclid a (pos b)
scaled_floor k a b p q =
    let y = int_div_euclid a (pos b) in
    let some : pos 0 <ℤ pos k = omega (arith, ints, p) in
    let least : pos 0 ≤ℤ pos k = omega (arith, ints) in
    let low = mul_le least (floor_low a b q) in
    let high = mul_lt some (floor_high a b q) in
    let e = solve 3 (λ k b y. k ⊗ (b ⊗ y) ≈ k ⊗ b ⊗ y) cancels (pos k) (pos b) y in
    let f = solve 3 (λ k b y. k ⊗ (b ⊗ y ⊕ b) ≈ k ⊗ b ⊗ y ⊕ k ⊗ b) cancels (pos k) (pos b) y in
    floor_is (pos k *ℤ a) y (k * b) (mul-pos p q) (omega (arith, linear, low, e)) (omega (arith, linear, high, f))

module _ (s : GridStep) (k : ℕ) (v : Fraction) (some : 0 < k) (p : 0 < v.denominator) (q : 0 < s.numerator) where
  -- the cell of a multiple that is rounded down is that of the number
  cell_is : int_div_euclid (floor_of_multiple (2 * (s.denominator * k)) v +ℤ pos (s.numerator * k)) (pos (2 * (s.numerator * k))) ≡ cell_of s v
  cell_is =
      let x = v.numerator in
      let b = v.denominator in
      let half : 0 < s.numerator * k = mul-pos q some in
      let whole : 0 < 2 * (s.numerator * k) = omega (arith, half) in
      let chain = floor_chain (pos (2 * (s.denominator * k)) *ℤ x) b (s.numerator * k) (2 * (s.numerator * k)) p whole in
      let over : (pos (2 * (s.denominator * k)) *ℤ x +ℤ pos (b * (s.numerator * k))) ≡ pos k *ℤ (scaled_number s v +ℤ scaled_half s v) =
      solve 5 (λ d k x b n. num (pos 2) ⊗ (d ⊗ k) ⊗ x ⊕ b ⊗ (n ⊗ k) ≈ k ⊗ (num (pos 2) ⊗ d ⊗ x ⊕ b ⊗ n)) cancels
      (pos s.denominator) (pos k) x (pos b) (pos s.numerator) in
      let under : pos (b * (2 * (s.numerator * k))) ≡ pos (k * (b * (2 * s.numerator))) =
      solve 3 (λ k b n. b ⊗ (num (pos 2) ⊗ (n ⊗ k)) ≈ k ⊗ (b ⊗ (num (pos 2) ⊗ n))) cancels (pos k) (pos b) (pos s.numerator) in
      chain ∙ (λ i. int_div_euclid (over i) (under i))
      ∙ scaled_floor k (scaled_number s v +ℤ scaled_half s v) (b * (2 * s.numerator)) some
      (mul-pos p (omega (arith, q)))

  -- what is left above the lower end of the cell tells where its middle is
  middle_is : (low rest : ℤ) → low ≡ floor_of_multiple (2 * (s.denominator * k)) v →
      rest ≡ int_rem_euclid (low +ℤ pos (s.numerator * k)) (pos (2 * (s.numerator * k))) →
      (low +ℤ (pos (s.numerator * k) -ℤ rest)) ≡ pos (2 * (s.numerator * k)) *ℤ cell_of s v
  middle_is low rest e r =
      let half : 0 < s.numerator * k = mul-pos q some in
      let whole : 0 < 2 * (s.numerator * k) = omega (arith, half) in
      let left = r ∙ rest_is (low +ℤ pos (s.numerator * k)) (2 * (s.numerator * k)) whole in
      let cell : int_div_euclid (low +ℤ pos (s.numerator * k)) (pos (2 * (s.numerator * k))) ≡ cell_of s v = rw e cell_is in
      let same = ap (λ (c : ℤ). pos (2 * (s.numerator * k)) *ℤ c) cell in
      omega (arith, linear, left, same)

  -- how far the number is from its cell, times its denominator and the fineness
  apart_is : (cell : ℤ) → cell ≡ pos (2 * (s.numerator * k)) *ℤ cell_of s v →
      pos k *ℤ (scaled_number s v -ℤ scaled_step s v *ℤ cell_of s v) ≡ pos (2 * (s.denominator * k)) *ℤ v.numerator -ℤ pos
      v.denominator *ℤ cell
  apart_is cell e = rw e
      (solve 6 (λ d k x b n c. k ⊗ (num (pos 2) ⊗ d ⊗ x ⊖ b ⊗ (num (pos 2) ⊗ n) ⊗ c) ≈ num (pos 2) ⊗ (d ⊗ k) ⊗ x ⊖ b ⊗
      (num (pos 2) ⊗ (n ⊗ k) ⊗ c)) cancels (pos s.denominator) (pos k) v.numerator (pos v.denominator)
      (pos s.numerator) (cell_of s v))

  -- ---- the bounds of both floors
  above_low : (low : ℤ) → low ≡ floor_of_multiple (2 * (s.denominator * k)) v → (pos v.denominator *ℤ low) ≤ℤ (pos (2 * (s.denominator * k)) *ℤ v.numerator)
  above_low low e = rw e (floor_low (pos (2 * (s.denominator * k)) *ℤ v.numerator) v.denominator p)

  below_low : (low : ℤ) → low ≡ floor_of_multiple (2 * (s.denominator * k)) v →
      (pos (2 * (s.denominator * k)) *ℤ v.numerator) <ℤ (pos v.denominator *ℤ low +ℤ pos v.denominator)
  below_low low e = rw e (floor_high (pos (2 * (s.denominator * k)) *ℤ v.numerator) v.denominator p)

  below_high : (high : ℤ) → high ≡ ceiling_of_multiple (2 * (s.denominator * k)) v →
      (pos (2 * (s.denominator * k)) *ℤ v.numerator) ≤ℤ (pos v.denominator *ℤ high)
  below_high high e =
      let factor = pos (2 * (s.denominator * k)) in
      let floor = floor_of_multiple (2 * (s.denominator * k)) (negated v) in
      let low = floor_low (factor *ℤ neg_ℤ v.numerator) v.denominator p in
      rw e (omega (arith, linear, low, *ℤ-neg factor v.numerator, *ℤ-neg (pos v.denominator) floor))

  above_high : (high : ℤ) → high ≡ ceiling_of_multiple (2 * (s.denominator * k)) v →
      (pos v.denominator *ℤ high) <ℤ (pos (2 * (s.denominator * k)) *ℤ v.numerator +ℤ pos v.denominator)
  above_high high e =
      let factor = pos (2 * (s.denominator * k)) in
      let floor = floor_of_multiple (2 * (s.denominator * k)) (negated v) in
      let less = floor_high (factor *ℤ neg_ℤ v.numerator) v.denominator p in
      rw e (omega (arith, linear, less, *ℤ-neg factor v.numerator, *ℤ-neg (pos v.denominator) floor))

-- a factor that isn't negative keeps the order of a whole number's size and another
times_size : (d : ℕ) (x : ℤ) (m : ℕ) → unsigned_abs x ≤ m → (pos d *ℤ x) ≤ℤ pos (d * m)
times_size d x m h =
    let least : pos 0 ≤ℤ pos d = omega (arith, ints) in
    let below = below_size x in
    let most : x ≤ℤ pos m = omega (arith, ints, below, h) in
    mul_le least most

-- m is the move if it is the greater of the distances of both floors: z is a distance, times k it is d times a
-- number between x and -y
greater_is_move : (d k : ℕ) (z x y : ℤ) (m : ℕ) → 0 < d → (pos k *ℤ z) ≤ℤ (pos d *ℤ x) →
    (pos d *ℤ x) <ℤ (pos k *ℤ z +ℤ pos d) → neg_ℤ (pos k *ℤ z) ≤ℤ (pos d *ℤ y) →
    (pos d *ℤ y) <ℤ (neg_ℤ (pos k *ℤ z) +ℤ pos d) → m ≡ max (unsigned_abs x) (unsigned_abs y) →
    (k * unsigned_abs z ≤ d * m) × (d * m < k * unsigned_abs z + d)
greater_is_move d k z x y m p xl xh yl yh e =
    let t = pos k *ℤ z in
    let size = size_of_multiple k z in
    let first : unsigned_abs x ≤ m = rw e (le-max_left (unsigned_abs x) (unsigned_abs y)) in
    let second : unsigned_abs y ≤ m = rw e (le-max_right (unsigned_abs x) (unsigned_abs y)) in
    let up : t ≤ℤ pos (d * m) = omega (arith, linear, xl, times_size d x m first) in
    let down : neg_ℤ t ≤ℤ pos (d * m) = omega (arith, linear, yl, times_size d y m second) in
    let enough = size_is_most t (d * m) up down in
    let over_x = rounded_size d x t p xl xh in
    let over_y = rounded_size d y (neg_ℤ t) p yl yh in
    let turned = unsigned_abs-neg t in
    let least : d * m < k * unsigned_abs z + d =
    ⊎_elim
    (λ (is : max (unsigned_abs x) (unsigned_abs y) ≡ unsigned_abs x). rw (e, is) (omega (arith, over_x, size)))
    (λ (is : max (unsigned_abs x) (unsigned_abs y) ≡ unsigned_abs y). rw (e, is) (omega (arith, over_y, turned, size)))
    (one_of_two (unsigned_abs x) (unsigned_abs y)) in
    (omega (arith, enough, size), least)

-- the number is at most m ticks from its cell, and m is the least such number
record IsMove (s : GridStep) (k : ℕ) (v : Fraction) (m : ℕ) : Type 0 where
  enough : k * scaled_distance s v ≤ v.denominator * m
  least : v.denominator * m < k * scaled_distance s v + v.denominator

-- the greater of the distances of both floors from the middle of the cell is the move
move_is : (s : GridStep) (k : ℕ) (v : Fraction) (low high rest : ℤ) (m : ℕ) → 0 < k → 0 < v.denominator → 0 < s.numerator →
    low ≡ floor_of_multiple (2 * (s.denominator * k)) v → high ≡ ceiling_of_multiple (2 * (s.denominator * k)) v →
    rest ≡ int_rem_euclid (low +ℤ pos (s.numerator * k)) (pos (2 * (s.numerator * k))) →
    m ≡ max (unsigned_abs (high -ℤ (low +ℤ (pos (s.numerator * k) -ℤ rest))))
    (unsigned_abs (pos (s.numerator * k) -ℤ rest)) → IsMove s k v m
move_is s k v low high rest m some p q e f r is =
    let d = v.denominator in
    let z = scaled_number s v -ℤ scaled_step s v *ℤ cell_of s v in
    let down = pos (s.numerator * k) -ℤ rest in
    let cell = low +ℤ down in
    let up = high -ℤ cell in
    let apart = apart_is s k v some p q cell (middle_is s k v some p q low rest e r) in
    let split_up = solve 3 (λ d h c. d ⊗ (h ⊖ c) ≈ d ⊗ h ⊖ d ⊗ c) cancels (pos d) high cell in
    let split_down = solve 3 (λ d l y. d ⊗ (l ⊕ y) ≈ d ⊗ l ⊕ d ⊗ y) cancels (pos d) low down in
    let xl : (pos k *ℤ z) ≤ℤ (pos d *ℤ up) = omega (arith, linear, below_high s k v some p q high f, apart, split_up) in
    let xh : (pos d *ℤ up) <ℤ (pos k *ℤ z +ℤ pos d) = omega (arith, linear, above_high s k v some p q high f, apart, split_up) in
    let yl : neg_ℤ (pos k *ℤ z) ≤ℤ (pos d *ℤ down) = omega (arith, linear, above_low s k v some p q low e, apart, split_down) in
    let yh : (pos d *ℤ down) <ℤ (neg_ℤ (pos k *ℤ z) +ℤ pos d) = omega (arith, linear, below_low s k v some p q low e, apart, split_down) in
    let both = greater_is_move d k z up down m p xl xh yl yh is in
    record { enough = both.0; least = both.1 }

-- there is only one such number
ticks_are : (s : GridStep) (k : ℕ) (v : Fraction) (m : ℕ) → 0 < v.denominator → IsMove s k v m → m ≡ ticks_of s k v
ticks_are s k v m p move =
    let d = v.denominator in
    let low : m * d ≤ k * scaled_distance s v + (d - 1) = omega (arith, move.least, p) in
    let high : k * scaled_distance s v + (d - 1) < (m + 1) * d = omega (arith, move.enough, p) in
    sym (div-eq_of_lt-le {k = m} d {m = k * scaled_distance s v + (d - 1)} low high)

-- ---- how far at most
distance_is_most : (s : GridStep) (v : Fraction) → 0 < v.denominator → 0 < s.numerator → scaled_distance s v ≤ v.denominator * s.numerator
distance_is_most s v p q =
    let near = cell_nearest s v p q in
    size_is_most (scaled_number s v -ℤ scaled_step s v *ℤ cell_of s v) (v.denominator * s.numerator)
    (omega (arith, linear, near.below)) (omega (arith, linear, near.above))

-- a move is at most half a step
move_is_most : (s : GridStep) (k : ℕ) (v : Fraction) (m : ℕ) → 0 < v.denominator → 0 < s.numerator → IsMove s k v m → m ≤ s.numerator * k
move_is_most s k v m p q move =
    let d = v.denominator in
    let most : k * scaled_distance s v ≤ k * (d * s.numerator) = mul-le-mul_left k (distance_is_most s v p q) in
    let same : k * (d * s.numerator) + d ≡ d * (s.numerator * k + 1) = omega arith in
    let less : d * m < d * (s.numerator * k + 1) = omega (arith, move.least, most, same) in
    let next : m < s.numerator * k + 1 = lt_of_mul-lt-mul_left d less in
    omega (arith, next)

-- the greater of the distances of both floors from the middle of the cell, in ticks
pub distance_is_ticks : (s : GridStep) (k : ℕ) (v : Fraction) (low high rest : ℤ) (m : ℕ) → 0 < k → 0 < v.denominator →
    0 < s.numerator → low ≡ floor_of_multiple (2 * (s.denominator * k)) v →
    high ≡ ceiling_of_multiple (2 * (s.denominator * k)) v →
    rest ≡ int_rem_euclid (low +ℤ pos (s.numerator * k)) (pos (2 * (s.numerator * k))) →
    m ≡ max (unsigned_abs (high -ℤ (low +ℤ (pos (s.numerator * k) -ℤ rest))))
    (unsigned_abs (pos (s.numerator * k) -ℤ rest)) → (m ≡ ticks_of s k v) × (m ≤ s.numerator * k)
distance_is_ticks s k v low high rest m some p q e f r is =
    let move = move_is s k v low high rest m some p q e f r is in
    (ticks_are s k v m p move, move_is_most s k v m p q move)

-- ticks aren't below the distance
pub ticks_not_below : (s : GridStep) (k : ℕ) (v : Fraction) → 0 < v.denominator → k * scaled_distance s v ≤ v.denominator * ticks_of s k v
ticks_not_below s k v p = above_quotient (k * scaled_distance s v) v.denominator p
