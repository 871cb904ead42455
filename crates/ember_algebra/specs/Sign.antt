-- The sign of an integer: 1, 0 or -1, and as one of three
use Rattle.std.specs.Prelude.{zero, suc, ℤ, pos, negsuc, Bool, true, false}
pub use Rattle.ember_algebra.specs.declared.Sign.{Sign}
pub use Rattle.ember_algebra.specs.declared.Sign.TheVariants.{Neg, Zero, Pos}

-- the sign of an integer as a number: -1, 0 or 1
abbrev pub sign : ℤ → ℤ
sign (pos zero) = pos 0
sign (pos (suc n)) = pos 1
sign (negsuc n) = negsuc 0

-- the sign of an integer
abbrev pub sgn : ℤ → Sign
sgn (pos zero) = Zero
sgn (pos (suc n)) = Pos
sgn (negsuc n) = Neg

-- the sign of the negative
abbrev pub flip : Sign → Sign
flip Neg = Pos
flip Zero = Zero
flip Pos = Neg

-- the sign of a product
abbrev pub times : Sign → Sign → Sign
times Neg s = flip s
times Zero s = Zero
times Pos s = s

-- the number of a sign
abbrev pub number : Sign → ℤ
number Neg = negsuc 0
number Zero = pos 0
number Pos = pos 1

abbrev pub is_pos : Sign → Bool
is_pos Neg = false
is_pos Zero = false
is_pos Pos = true

abbrev pub is_neg : Sign → Bool
is_neg Neg = true
is_neg Zero = false
is_neg Pos = false

abbrev pub is_nil : Sign → Bool
is_nil Neg = false
is_nil Zero = true
is_nil Pos = false

abbrev pub same_sgn : Sign → Sign → Bool
same_sgn Neg s = is_neg s
same_sgn Zero s = is_nil s
same_sgn Pos s = is_pos s

-- ---- tests of an integer's sign
abbrev pub is_negative : ℤ → Bool
is_negative z = is_neg (sgn z)

abbrev pub is_zero : ℤ → Bool
is_zero z = is_nil (sgn z)

abbrev pub is_positive : ℤ → Bool
is_positive z = is_pos (sgn z)
