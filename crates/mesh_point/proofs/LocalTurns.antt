-- Turns of points from their least floors on.
use Rattle.std.proofs.Common.{◌≡◌, ℕ, ◌+◌, ◌*◌, ◌^◌, ◌<◌, ◌≤◌, ℤ, pos, ◌+ℤ◌, ◌-ℤ◌, ◌*ℤ◌, ◌<ℤ◌, ◌≤ℤ◌, unsigned_abs, mul-le-mul, sym, ap, ◌∙◌, arith}
use Rattle.std.proofs.lemmas.Nat.{pow-add}
use Rattle.std.proofs.Math.Pow.{pow_mono}
use borrow.Author.Differences.{ints}
use Rattle.ember_algebra.specs.Vector.{Vector}
use Rattle.ember_algebra.specs.Sign.{sgn}
use Rattle.ember_algebra.specs.Det.{det3}
use Rattle.ember_algebra.proofs.Laws.{linear}
use Rattle.ember_algebra.proofs.Ring.{◌⊕◌, ◌⊖◌, ◌⊗◌, ◌≈◌, solve, cancels}
use Rattle.mesh_point.specs.Triples.{Triple, IsFrom, breadth, diagonal_sum, local_orientation}
use Rattle.mesh_point.specs.Turns.{rows}

-- ---- another origin
-- the determinant of three points from (i, j) on
moved : (i j a b c d e f g h k : ℤ) → det3 (a -ℤ i *ℤ c) (b -ℤ j *ℤ c) c (d -ℤ i *ℤ f) (e -ℤ j *ℤ f) f (g -ℤ i *ℤ k) (h -ℤ j *ℤ k) k
    ≡ det3 a b c d e f g h k
moved =
    solve 11 (λ i j a b c d e f g h k. (a ⊖ i ⊗ c) ⊗ ((e ⊖ j ⊗ f) ⊗ k ⊖ f ⊗ (h ⊖ j ⊗ k)) ⊖
    (b ⊖ j ⊗ c) ⊗ ((d ⊖ i ⊗ f) ⊗ k ⊖ f ⊗ (g ⊖ i ⊗ k)) ⊕ c ⊗ ((d ⊖ i ⊗ f) ⊗ (h ⊖ j ⊗ k) ⊖ (e ⊖ j ⊗ f) ⊗ (g ⊖ i ⊗ k)) ≈
    a ⊗ (e ⊗ k ⊖ f ⊗ h) ⊖ b ⊗ (d ⊗ k ⊖ f ⊗ g) ⊕ c ⊗ (d ⊗ h ⊖ e ⊗ g)) cancels

-- the determinant of three points in whole numbers from 0
sums_apart : (p q r : Triple) → det3 (pos p.x) (pos p.y) (pos p.w) (pos q.x) (pos q.y) (pos q.w) (pos r.x) (pos r.y) (pos r.w)
    ≡ pos (diagonal_sum p q r) -ℤ pos (diagonal_sum r q p)
sums_apart p q r =
    solve 9 (λ a b c d e f g h k. a ⊗ (e ⊗ k ⊖ f ⊗ h) ⊖ b ⊗ (d ⊗ k ⊖ f ⊗ g) ⊕ c ⊗ (d ⊗ h ⊖ e ⊗ g) ≈
    (a ⊗ e ⊗ k ⊕ d ⊗ h ⊗ c ⊕ g ⊗ b ⊗ f) ⊖ (g ⊗ e ⊗ c ⊕ d ⊗ b ⊗ k ⊕ a ⊗ h ⊗ f)) cancels (pos p.x) (pos p.y) (pos p.w)
    (pos q.x) (pos q.y) (pos q.w) (pos r.x) (pos r.y) (pos r.w)

-- three points turn as they do from (i, j) on
pub local_turns : (i j : ℤ) (u v w : Vector) (p q r : Triple) → IsFrom i j u p → IsFrom i j v q → IsFrom i j w r →
    local_orientation p q r ≡ sgn (rows u v w)
local_turns i j u v w p q r hp hq hr =
    ap sgn (sym (sums_apart p q r)
    ∙ (λ n. det3 (hp.x n) (hp.y n) (hp.w n) (hq.x n) (hq.y n) (hq.w n) (hr.x n) (hr.y n) (hr.w n))
    ∙ moved i j u.x u.y u.z v.x v.y v.z w.x w.y w.z)

-- ---- in 128 bits
-- the product of three numbers, by their numbers of bits
pub short_product : (a b c i j k : ℕ) → a < 2 * 2 ^ i → b < 2 * 2 ^ j → c < 2 * 2 ^ k → i + j + k ≤ 125 → a * (b * c) < 2 ^ 128
short_product a b c i j k la lb lc s = below (a * (b * c)) (2 ^ i) (2 ^ j) (2 ^ k) (2 ^ (i + j + k)) m e p
  where
    m : a * (b * c) < (2 * 2 ^ i) * ((2 * 2 ^ j) * (2 * 2 ^ k))
    m = strict a (2 * 2 ^ i) (b * c) ((2 * 2 ^ j) * (2 * 2 ^ k)) la (strict b (2 * 2 ^ j) c (2 * 2 ^ k) lb lc)
      where
        strict : (x y z t : ℕ) → x < y → z < t → x * z < y * t
        strict x y z t l h = let n : x * z ≤ x * t = mul-le-mul (omega arith) (omega arith) in let o : (x + 1) * t ≤ y * t = mul-le-mul (omega arith) (omega arith) in omega (arith, n, o)

    e : 2 ^ (i + j + k) ≡ 2 ^ i * 2 ^ j * 2 ^ k
    e = pow-add 2 (i + j) k ∙ ap (λ (n : ℕ). n * 2 ^ k) (pow-add 2 i j)

    p : 2 ^ (i + j + k) ≤ 2 ^ 125
    p = pow_mono s

    below : (n x y z t : ℕ) → n < (2 * x) * ((2 * y) * (2 * z)) → t ≡ x * y * z → t ≤ 2 ^ 125 → n < 2 ^ 128
    below n x y z t m e p = omega (arith, m, e, p)

-- the sum is at most the product of the breadths
module _ (p q r : Triple) (l : breadth p * (breadth q * breadth r) < 2 ^ 128) where
  pub sum_fits : diagonal_sum p q r < 2 ^ 128
  sum_fits = omega (arith, l)

  pub two_fit : p.x * q.y * r.w + q.x * r.y * p.w < 2 ^ 128
  two_fit = omega (arith, sum_fits)

  -- in whatever order the points are
  pub turned_round : breadth r * (breadth q * breadth p) < 2 ^ 128
  turned_round = omega (arith, l)

-- ---- products of two or three of the numbers
-- a product of two numbers of two points
pub pair_fits : (a b p q r : ℕ) → a ≤ p → b ≤ q → 0 < r → p * (q * r) < 2 ^ 128 → a * b < 2 ^ 128
pair_fits a b p q r la lb l h =
    let e : a * b ≤ p * q = mul-le-mul la lb in let f : p * q * 1 ≤ p * q * r = mul-le-mul (omega arith) l in
    omega (arith, e, f, h)

-- a product of three numbers of three points
pub three_fit : (a b c p q r : ℕ) → a ≤ p → b ≤ q → c ≤ r → p * (q * r) < 2 ^ 128 → a * b * c < 2 ^ 128
three_fit a b c p q r la lb lc h =
    let e : a * b * c ≤ p * q * r = mul-le-mul (mul-le-mul la lb) lc in omega (arith, e, h)

-- ---- steps and remainders
-- a coordinate from i on
coordinate_from : (f x w i : ℤ) (n a d : ℕ) → i ≤ℤ f → pos 0 ≤ℤ x → pos 0 <ℤ w → n ≡ unsigned_abs (f -ℤ i) → a ≡ unsigned_abs x →
    d ≡ unsigned_abs w → pos (n * d + a) ≡ f *ℤ w +ℤ x -ℤ i *ℤ w
coordinate_from f x w i n a d l hx hw en ea ed =
    let steps : pos n ≡ f -ℤ i = omega (arith, ints, en, l) in let rest : pos a ≡ x = omega (arith, ints, ea, hx) in
    let weight : pos d ≡ w = omega (arith, ints, ed, hw) in
    let whole : pos (n * d + a) ≡ pos n *ℤ pos d +ℤ pos a = omega (arith, ints) in
    whole ∙ (λ k. steps k *ℤ weight k +ℤ rest k) ∙ solve 4 (λ f i w x. (f ⊖ i) ⊗ w ⊕ x ≈ f ⊗ w ⊕ x ⊖ i ⊗ w) cancels f i w x

-- a point of a plane from (i, j) on
pub local_is : (f g x y w i j : ℤ) (n m a b d : ℕ) → i ≤ℤ f → j ≤ℤ g → pos 0 ≤ℤ x → pos 0 ≤ℤ y → pos 0 <ℤ w →
    n ≡ unsigned_abs (f -ℤ i) → m ≡ unsigned_abs (g -ℤ j) → a ≡ unsigned_abs x → b ≡ unsigned_abs y → d ≡ unsigned_abs w →
    IsFrom i j (record { x = f *ℤ w +ℤ x; y = g *ℤ w +ℤ y; z = w }) (record { x = n * d + a; y = m * d + b; w = d })
local_is f g x y w i j n m a b d lf lg hx hy hw en em ea eb ed =
    record {
      x = coordinate_from f x w i n a d lf hx hw en ea ed;
      y = coordinate_from g y w j m b d lg hy hw em eb ed;
      w = omega (arith, ints, ed, hw);
    }
