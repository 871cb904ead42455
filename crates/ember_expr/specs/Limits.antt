-- The limits, by name
use Rattle.std.specs.Prelude.{ℕ}

-- bytes of an expression, so tokens, too
abbrev pub most_expression_bytes : ℕ
most_expression_bytes = 4096

-- a number of an expression: a factor, or what is compared with
abbrev pub most_number : ℕ
most_number = 1000000

-- a winding number that an expression is asked about: 2^24
abbrev pub winding_limit : ℕ
winding_limit = 16777216

-- a winding number times a factor
abbrev pub product_limit : ℕ
product_limit = 16777216000000
