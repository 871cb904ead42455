-- Binary floats: a sign, an exponent and a fraction in the bits of one number
use Rattle.std.specs.Prelude.{ℕ, ◌+◌, ◌-◌, ◌*◌, ◌/◌, ◌%◌, ◌^◌, ◌==◌, Option, Some, None, if◌then◌else◌}
use Rattle.mesh_number.specs.Number.Fractions.{Fraction}
use Rattle.mesh_number.specs.Number.Values.{binary_value}

-- the value of a float with this many bits of fraction, this many exponents, and 2^-scale as its least size above 0;
-- none of infinity and NaN, which have the last exponent
abbrev pub float_value : ℕ → ℕ → ℕ → ℕ → Option Fraction
float_value places exponents scale bits =
    let sign = bits / (2 ^ places * exponents) == 1 in
    let exponent = bits / 2 ^ places % exponents in
    let fraction = bits % 2 ^ places in
    if exponent == exponents - 1 then None
    else (if exponent == 0 then Some (binary_value sign fraction 0 scale)
    else Some (binary_value sign (2 ^ places + fraction) (exponent - 1) scale))

-- the value of the binary32 with these bits
abbrev pub binary32_value : ℕ → Option Fraction
binary32_value bits = float_value 23 256 149 bits

-- the value of the binary64 with these bits
abbrev pub binary64_value : ℕ → Option Fraction
binary64_value bits = float_value 52 2048 1074 bits
