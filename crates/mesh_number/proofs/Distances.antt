-- The multiple of a number that is nearest to another number.
use Rattle.std.proofs.Common.{◌≡◌, ℕ, ◌+◌, ◌-◌, ◌*◌, ◌%◌, ◌<◌, ◌≤◌, mul-le-mul, arith}
use Rattle.mesh_number.specs.Round.Nearest.{IsNearest}
use Rattle.mesh_number.proofs.Rounding.{by_lt}

-- how far two numbers are apart
unfoldable pub gap : ℕ → ℕ → ℕ
gap x y = (x - y) + (y - x)

-- one multiple more
pub multiple_above : (k m d : ℕ) → k < m → k * d + d ≤ m * d
multiple_above k m d l = let p : (k + 1) * d ≤ m * d = mul-le-mul (omega arith) (omega arith) in omega (arith, p)

-- a number x whose nearest multiple of d is a, at b which is another multiple
nearer_below : (x d a b : ℕ) → b + d ≤ a → 2 * a ≤ 2 * x + d → gap x a ≤ gap x b
unfolding gap
nearer_below x d a b far from = omega (arith, far, from)

nearer_above : (x d a b : ℕ) → a + d ≤ b → 2 * x ≤ 2 * a + d → gap x a ≤ gap x b
unfolding gap
nearer_above x d a b far to = omega (arith, far, to)

tie_below : (x d a b : ℕ) → 0 < d → b + d ≤ a → 2 * a ≤ 2 * x + d → gap x b ≤ gap x a → 2 * a ≡ 2 * x + d
unfolding gap
tie_below x d a b p far from near = omega (arith, p, far, from, near)

tie_above : (x d a b : ℕ) → 0 < d → a + d ≤ b → 2 * x ≤ 2 * a + d → gap x b ≤ gap x a → 2 * x ≡ 2 * a + d
unfolding gap
tie_above x d a b p far to near = omega (arith, p, far, to, near)

same_multiple : (x d k m : ℕ) → k ≤ m → m ≤ k → gap x (m * d) ≤ gap x (k * d)
same_multiple x d k m l h = let e : k ≡ m = omega arith in rw e (omega arith)

module _ (x d m : ℕ) (near : IsNearest x d m) where
  from : 2 * (m * d) ≤ 2 * x + d
  from = omega (arith, near.from)

  to : 2 * x ≤ 2 * (m * d) + d
  to = omega (arith, near.to)

  -- no multiple is nearer
  pub nearest_multiple : (k : ℕ) → gap x (m * d) ≤ gap x (k * d)
  nearest_multiple k =
      by_lt k m
      (λ l. nearer_below x d (m * d) (k * d) (multiple_above k m d l) from)
      (λ h. by_lt m k (λ l. nearer_above x d (m * d) (k * d) (multiple_above m k d l) to) (λ l. same_multiple x d k m l h))

  -- if another is as near, it is an even one
  pub nearest_of_two : (k : ℕ) → 0 < d → (k ≡ m → ⊥) → gap x (k * d) ≤ gap x (m * d) → m % 2 ≡ 0
  nearest_of_two k p other as_near =
      by_lt k m
      (λ l. near.even_below (let e : 2 * (m * d) ≡ 2 * x + d = tie_below x d (m * d) (k * d) p (multiple_above k m d l) from as_near in omega (arith, e)))
      (λ h.
      by_lt m k
      (λ l. near.even_above (let e : 2 * x ≡ 2 * (m * d) + d = tie_above x d (m * d) (k * d) p (multiple_above m k d l) to as_near in omega (arith, e)))
      (λ l. absurd (other (omega arith))))
