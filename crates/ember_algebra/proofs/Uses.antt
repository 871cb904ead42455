-- One worked use of each tool of this crate, to copy from.
use Rattle.std.proofs.Common.{◌≡◌, ℕ, ◌^◌, ◌<◌, T, arith, List, [], ◌∷◌, ◌++◌, ℤ, pos, ◌+ℤ◌, ◌-ℤ◌, ◌*ℤ◌, neg_ℤ, ◌<ℤ◌, ◌≤ℤ◌, SFits}
use mir.Syntax.{w128}
use Rattle.ember_algebra.specs.Det.{det2, det3}
use Rattle.ember_algebra.specs.Large.{Eventually, EachSmall, horner, first_sign}
use Rattle.ember_algebra.specs.Sign.{Sign, sign, sgn, flip, times, same_sgn}
use Rattle.ember_algebra.specs.Size.{Small}
use Rattle.ember_algebra.specs.Sums.{total}
use Rattle.ember_algebra.specs.Vector.{Vector, minus_v, dot, cross}
use Rattle.ember_algebra.proofs.Laws.{linear, expand, from_two}
use Rattle.ember_algebra.proofs.Ring.{Expr, var, num, ◌⊕◌, ◌⊖◌, ◌⊗◌, neg, ring, solve, ◌≈◌, cancels}
use Rattle.ember_algebra.proofs.Cramer.{Det3}
use Rattle.ember_algebra.proofs.Vectors.{vector, identity, dotE, crossE, minusE, vector_identity, ◌≈v◌, cancels_v}
use Rattle.ember_algebra.proofs.Order.{by_sign, pos_mul, nonneg_mul, square_nonneg, mul_lt, cancel_lt}
use Rattle.ember_algebra.proofs.Large.{eventually_both, eventually_pos, sign-horner}
use Rattle.ember_algebra.proofs.Signs.{signs, sgn-mul, sgn-neg}
use Rattle.ember_algebra.proofs.Exact.{Code, ◌⊟◌, ◌⊠◌, stored, wide, run, ◌&◌, done, exact, bounded, no_overflow}
use Rattle.ember_algebra.proofs.Sums.{total-append, total-neg}

-- ---- `solve`: an identity of polynomials
difference_of_squares : (a b : ℤ) → (a +ℤ b) *ℤ (a -ℤ b) ≡ a *ℤ a -ℤ b *ℤ b
difference_of_squares = solve 2 (λ a b. (a ⊕ b) ⊗ (a ⊖ b) ≈ a ⊗ a ⊖ b ⊗ b) cancels

-- of any degree in each variable, and with constants
power_and_one : (m z : ℤ) → (m *ℤ m *ℤ m *ℤ z +ℤ pos 1) *ℤ m ≡ m *ℤ m *ℤ (m *ℤ z *ℤ m) +ℤ m
power_and_one = solve 2 (λ m z. (m ⊗ m ⊗ m ⊗ z ⊕ num (pos 1)) ⊗ m ≈ m ⊗ m ⊗ (m ⊗ z ⊗ m) ⊕ m) cancels

cube_and_square : (m x z : ℤ) → (m *ℤ x +ℤ pos 1) *ℤ (m *ℤ m) *ℤ (m *ℤ m *ℤ m *ℤ z +ℤ pos 1)
    ≡ (m *ℤ m *ℤ m *ℤ x +ℤ m *ℤ m) +ℤ m *ℤ m *ℤ m *ℤ m *ℤ m *ℤ z *ℤ (pos 1 +ℤ x *ℤ m)
cube_and_square =
    solve 3 (λ m x z. (m ⊗ x ⊕ num (pos 1)) ⊗ (m ⊗ m) ⊗ (m ⊗ m ⊗ m ⊗ z ⊕ num (pos 1)) ≈ (m ⊗ m ⊗ m ⊗ x ⊕ m ⊗ m) ⊕ m ⊗ m
    ⊗ m ⊗ m ⊗ m ⊗ z ⊗ (num (pos 1) ⊕ x ⊗ m)) cancels

-- with a definition's twin on expressions: the value of a fourth plane at the meet of three is a determinant of four rows
abbrev Det4 : Expr → Expr → Expr → Expr → Expr → Expr → Expr → Expr → Expr → Expr → Expr → Expr → Expr → Expr → Expr → Expr → Expr
Det4 a b c d e f g h i j k l m n o p = a ⊗ Det3 f g h j k l n o p ⊖ b ⊗ Det3 e g h i k l m o p ⊕ c ⊗ Det3 e f h i j l m n p ⊖ d ⊗ Det3 e f g i j k m n o

fourth_plane : (a1 b1 c1 d1 a2 b2 c2 d2 a3 b3 c3 d3 a b c d : ℤ) →
    a *ℤ det3 d1 b1 c1 d2 b2 c2 d3 b3 c3 +ℤ b *ℤ det3 a1 d1 c1 a2 d2 c2 a3 d3 c3 +ℤ c *ℤ det3 a1 b1 d1 a2 b2 d2 a3 b3 d3
    -ℤ d *ℤ det3 a1 b1 c1 a2 b2 c2 a3 b3 c3 ≡ neg_ℤ
    (a1 *ℤ det3 b2 c2 d2 b3 c3 d3 b c d -ℤ b1 *ℤ det3 a2 c2 d2 a3 c3 d3 a c d +ℤ c1 *ℤ det3 a2 b2 d2 a3 b3 d3 a b d -ℤ d1
    *ℤ det3 a2 b2 c2 a3 b3 c3 a b c)
fourth_plane =
    solve 16 (λ a1 b1 c1 d1 a2 b2 c2 d2 a3 b3 c3 d3 a b c d. a ⊗ Det3 d1 b1 c1 d2 b2 c2 d3 b3 c3 ⊕ b ⊗ Det3 a1 d1 c1 a2
    d2 c2 a3 d3 c3 ⊕ c ⊗ Det3 a1 b1 d1 a2 b2 d2 a3 b3 d3 ⊖ d ⊗ Det3 a1 b1 c1 a2 b2 c2 a3 b3 c3 ≈ neg
    (Det4 a1 b1 c1 d1 a2 b2 c2 d2 a3 b3 c3 d3 a b c d)) cancels

-- ---- `ring`: the same at one place, with the variables by number
square_of_sum : (a b : ℤ) → (a +ℤ b) *ℤ (a +ℤ b) ≡ a *ℤ a +ℤ pos 2 *ℤ (a *ℤ b) +ℤ b *ℤ b
square_of_sum a b =
    let x = var 0 in let y = var 1 in
    ring (a ∷ b ∷ []) ((x ⊕ y) ⊗ (x ⊕ y)) (x ⊗ x ⊕ num (pos 2) ⊗ (x ⊗ y) ⊕ y ⊗ y) cancels

-- ---- `identity`, `vector_identity`: the same of vectors and tuples
lagrange : (u v : Vector) → dot (cross u v) (cross u v) ≡ dot u u *ℤ dot v v -ℤ dot u v *ℤ dot u v
lagrange =
    identity (vector ∷ vector ∷ []) (λ u v. dotE (crossE u v) (crossE u v) ≈ dotE u u ⊗ dotE v v ⊖ dotE u v ⊗ dotE u v) cancels

cross_of_difference : (u v : Vector) → cross u (minus_v v u) ≡ cross u v
cross_of_difference = vector_identity (vector ∷ vector ∷ []) (λ u v. crossE u (minusE v u) ≈v crossE u v) cancels_v

-- ---- `from_two`: an equation from two others, by their cofactors
combined : (a b c d x y : ℤ) → a *ℤ x ≡ b *ℤ y → c *ℤ y ≡ d *ℤ x → (a *ℤ c) *ℤ (x *ℤ y) ≡ (b *ℤ d) *ℤ (x *ℤ y)
combined a b c d x y h k =
    from_two (c *ℤ y) (b *ℤ y) h k (solve 6 (λ a b c d x y. (a ⊗ c) ⊗ (x ⊗ y) ⊖ (b ⊗ d) ⊗ (x ⊗ y) ≈ (c ⊗ y) ⊗
    (a ⊗ x ⊖ b ⊗ y) ⊕ (b ⊗ y) ⊗ (c ⊗ y ⊖ d ⊗ x)) cancels a b c d x y)

-- ---- `linear`, `expand`: inequalities with products
cauchy : (a b c d : ℤ) → ((a *ℤ c +ℤ b *ℤ d) *ℤ (a *ℤ c +ℤ b *ℤ d)) ≤ℤ ((a *ℤ a +ℤ b *ℤ b) *ℤ (c *ℤ c +ℤ d *ℤ d))
cauchy a b c d = simp expand (omega (arith, linear, simp expand at (square_nonneg (a *ℤ d -ℤ b *ℤ c))))

-- fractions in order, by multiplying out
fractions_in_order : (a c e : ℤ) {b d f : ℤ} → pos 0 <ℤ b → pos 0 <ℤ d → pos 0 <ℤ f → (a *ℤ d) <ℤ (c *ℤ b) → (c *ℤ f) <ℤ (e *ℤ d) → (a *ℤ f) <ℤ (e *ℤ b)
fractions_in_order a c e pb pd pf h k =
    cancel_lt pd (simp expand (omega (arith, linear, simp expand at (mul_lt pf h), simp expand at (mul_lt pb k))))

-- by the sign of a number
weighted_sum : (u v s t : ℤ) → pos 0 <ℤ u → pos 0 <ℤ v → pos 0 ≤ℤ s → pos 0 ≤ℤ t → pos 0 <ℤ (s +ℤ t) → pos 0 <ℤ (s *ℤ u +ℤ t *ℤ v)
weighted_sum u v s t pu pv ps pt p =
    by_sign s
    (λ q. omega (arith, linear, pos_mul q pu, nonneg_mul pt (weak pv)))
    (λ z. let q : pos 0 <ℤ t = omega (arith, linear) in omega (arith, linear, pos_mul q pv, nonneg_mul ps (weak pu)))
    (λ q. omega (arith, linear))
  where
    weak : {a : ℤ} → pos 0 <ℤ a → pos 0 ≤ℤ a
    weak p = omega (arith, linear)

-- ---- `signs`: what holds of signs, by trying each
flip_both : (s t : Sign) → T (same_sgn (times (flip s) (flip t)) (times s t))
flip_both = signs 2 (λ s t. same_sgn (times (flip s) (flip t)) (times s t)) tt

opposites : (a b : ℤ) → T (same_sgn (sgn (neg_ℤ a *ℤ neg_ℤ b)) (sgn (a *ℤ b)))
opposites a b = rw (sgn-mul (neg_ℤ a) (neg_ℤ b), sgn-mul a b, sgn-neg a, sgn-neg b) (flip_both (sgn a) (sgn b))

-- ---- `sign-horner`, `Eventually`: a large number
shifted_sign : {m n : ℕ} (v a b c : ℤ) → m < n → EachSmall m (v ∷ a ∷ b ∷ c ∷ []) →
    sign (horner (pos n) (pos 0) (v ∷ a ∷ b ∷ c ∷ [])) ≡ first_sign (v ∷ a ∷ b ∷ c ∷ [])
shifted_sign v a b c l s = sign-horner (v ∷ a ∷ b ∷ c ∷ []) l s

both_positive : {a b : ℤ} (v w : ℤ) → pos 0 <ℤ a → pos 0 <ℤ b → Eventually (λ n. (pos 0 <ℤ (a *ℤ pos n +ℤ v)) × (pos 0 <ℤ (b *ℤ pos n +ℤ w)))
both_positive v w p q = eventually_both (eventually_pos v p) (eventually_pos w q)

-- ---- `exact`, `bounded`, `no_overflow`: the code `a as i128 * d as i128 - b as i128 * c as i128`
abbrev minor_code : Code
minor_code = stored w128 (wide 0 ⊠ wide 3) ⊟ stored w128 (wide 1 ⊠ wide 2)

minor_fits : {a b c d : ℤ} → Small (2 ^ 30) a → Small (2 ^ 30) b → Small (2 ^ 30) c → Small (2 ^ 30) d → SFits w128 (run (a ∷ b ∷ c ∷ d ∷ []) minor_code)
minor_fits p q r s = no_overflow (p & q & r & s & done) w128 minor_code tt

minor_exact : {a b c d : ℤ} → Small (2 ^ 30) a → Small (2 ^ 30) b → Small (2 ^ 30) c → Small (2 ^ 30) d →
    run (a ∷ b ∷ c ∷ d ∷ []) (stored w128 minor_code) ≡ det2 a b c d
minor_exact p q r s = exact (p & q & r & s & done) (stored w128 minor_code) tt

minor_small : {a b c d : ℤ} → Small (2 ^ 30) a → Small (2 ^ 30) b → Small (2 ^ 30) c → Small (2 ^ 30) d →
    Small (2 ^ 61) (run (a ∷ b ∷ c ∷ d ∷ []) (stored w128 minor_code))
minor_small p q r s = bounded (p & q & r & s & done) (2 ^ 61) (stored w128 minor_code) tt

-- ---- `total`: sums over lists
sum_and_opposite : {U : Type 0} (f : U → ℤ) (xs : List U) → total f xs +ℤ total (λ x. neg_ℤ (f x)) xs ≡ pos 0
sum_and_opposite f xs = omega (arith, linear, total-neg f xs)

twice_over : {U : Type 0} (f : U → ℤ) (xs : List U) → total f (xs ++ xs) ≡ pos 2 *ℤ total f xs
twice_over f xs = omega (arith, linear, total-append f xs xs)
