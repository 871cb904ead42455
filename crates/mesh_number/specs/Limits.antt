-- The limits, by name
use Rattle.std.specs.Prelude.{ℕ}

-- a whole number of 64 bits: 2^63 - 1
abbrev pub word_limit : ℕ
word_limit = 9223372036854775807
