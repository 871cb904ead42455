-- The steps of a grid
use Rattle.std.specs.Prelude.{ℕ, ◌+◌, ◌-◌, ◌*◌, ◌/◌, ◌%◌, ◌^◌, ◌<◌, ◌==◌, nat_lt, if◌then◌else◌}
use Rattle.mesh_grid.specs.declared.snap.steps.GridStep.{GridStep}

-- numerator and denominator are in range
pub record IsStep (s : GridStep) : Type 0 where
  pub numerator_positive : 0 < s.numerator
  pub denominator_positive : 0 < s.denominator
  pub numerator_small : s.numerator < 2 ^ 40
  pub denominator_small : s.denominator < 2 ^ 40

-- 1, 2, 5 and again 1
abbrev pub nice_digit : ℕ → ℕ
nice_digit rank = if rank % 3 == 0 then 1 else (if rank % 3 == 1 then 2 else 5)

-- the nice steps by their rank: 10^-12, 2 * 10^-12, 5 * 10^-12, 10^-11 ..
abbrev pub nice_of : ℕ → GridStep
nice_of rank = record {
  numerator = nice_digit rank * 10 ^ (rank / 3 - 12);
  denominator = 10 ^ (12 - rank / 3);
}

-- 1 to 9999 with the least power of ten, then 1000 to 9999 with each greater one
abbrev pub fine_number : ℕ → ℕ
fine_number rank = if nat_lt rank 999 then rank + 1 else 1000 + (rank - 999) % 9000

abbrev pub fine_decade : ℕ → ℕ
fine_decade rank = if nat_lt rank 999 then 0 else (rank - 999) / 9000

-- the steps of at most four digits by their rank: 1 * 10^-12, 2 * 10^-12, .. 9999 * 10^-12, 1000 * 10^-11 ..
abbrev pub fine_of : ℕ → GridStep
fine_of rank = record {
  numerator = fine_number rank * 10 ^ (fine_decade rank - 12);
  denominator = 10 ^ (12 - fine_decade rank);
}
