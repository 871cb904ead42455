-- Quotients of sizes, rounded down or up
use Rattle.std.specs.Prelude.{ℕ, ◌+◌, ◌-◌, ◌*◌, ◌/◌, ◌^◌, Bool, true, false, Option, Some, None, if◌then◌else◌, nat_lt}

-- the quotient of x by d, rounded up or down
abbrev pub quotient : Bool → ℕ → ℕ → ℕ
quotient false x d = x / d
quotient true x d = (x + (d - 1)) / d

-- the size of a multiple of a number, rounded up or down; none if the number is 10^15 or more
abbrev pub size_of_multiple : Bool → ℕ → ℕ → ℕ → Option ℕ
size_of_multiple up factor over under =
    if nat_lt over (10 ^ 15 * under) then Some (quotient up (factor * over) under) else None

-- a multiple of a whole number with a part after it; none if the number is 10^15 or more
abbrev pub whole_and_part : ℕ → ℕ → ℕ → Option ℕ
whole_and_part whole part factor = if nat_lt whole (10 ^ 15) then Some (whole * factor + part) else None
