-- The nearest whole number to a fraction; of two, the even one
use Rattle.std.specs.Prelude.{◌≡◌, ℕ, ◌+◌, ◌*◌, ◌/◌, ◌%◌, ◌≤◌, Bool, ◌&&◌, ◌||◌, nat_lt, ◌==◌, if◌then◌else◌}

-- whether whole + rest / d is nearer to whole + 1, or as near to it and whole + 1 is even
abbrev pub rounds_up : ℕ → ℕ → ℕ → Bool
rounds_up whole rest d = nat_lt d (2 * rest) || (2 * rest == d && whole % 2 == 1)

abbrev pub nearest_whole : ℕ → ℕ → ℕ
nearest_whole n d = n / d + (if rounds_up (n / d) (n % d) d then 1 else 0)

-- n / d lies within a half of m, and m is even if it lies at a half
pub record IsNearest (n d m : ℕ) : Type 0 where
  pub from : 2 * m * d ≤ 2 * n + d
  pub to : 2 * n ≤ 2 * m * d + d
  pub even_below : 2 * m * d ≡ 2 * n + d → m % 2 ≡ 0
  pub even_above : 2 * n ≡ 2 * m * d + d → m % 2 ≡ 0
