-- The numbers of a linear congruential generator
use Rattle.std.specs.Prelude.{ℕ, zero, suc, ◌+◌, ◌*◌, ◌/◌, ◌%◌, ◌^◌, ℤ, pos, ◌-ℤ◌}

-- the next state of the linear congruential generator
abbrev pub next : ℕ → ℕ
next s = (1103515245 * s + 12345) % 2 ^ 31

-- the state after j numbers
unfoldable pub state : ℕ → ℕ
state zero = 1
state (suc j) = next (state j)

-- what is drawn: the high bits
abbrev pub drawn : ℕ → ℕ
drawn s = s / 65536

abbrev pub draw : ℕ → ℕ
draw j = drawn (state j)

-- a coordinate from -1792 to 1791
abbrev pub place : ℕ → ℤ
place r = pos (r % 3584) -ℤ pos 1792

-- a side from 1 to 256
abbrev pub side : ℕ → ℕ
side r = 1 + r % 256
