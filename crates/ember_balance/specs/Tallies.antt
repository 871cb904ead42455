-- What is kept of two-way numbers that were looked at
use Rattle.std.specs.Prelude.{◌≡◌, ℕ, ◌+◌, ◌*◌, nat_eq, false, if◌then◌else◌, List}
use Rattle.ember_balance.specs.declared.two_way.Tally.{Tally}
use Rattle.ember_balance.specs.Counts.{count}
use Rattle.ember_balance.specs.Numbers.{has_one_end}

-- the edges before the tallied one are balanced: apart from what the tally counts, each edge with two different
-- ends occurs as often as its reverse
pub record IsTallied (ks : List ℕ) (t : Tally) : Type 0 where
  pub each : (n : ℕ) → has_one_end n ≡ false →
      count (2 * n) ks + (if nat_eq n t.number then t.back else 0) ≡ count (2 * n + 1) ks + (if nat_eq n t.number
      then t.there else 0)
