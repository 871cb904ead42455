-- Natural numbers as texts
use Rattle.std.specs.Prelude.{ℕ, ◌&&◌, List, length, Option, None, Some, if◌then◌else◌, nat_lt}
use Rattle.std.specs.List.{list_all}
use Rattle.std.specs.Char.{is_ascii_digit}
use Rattle.ember_dec.specs.Digits.{number_from}

-- the number that digits spell
abbrev pub number_of : List ℕ → Option ℕ
number_of text = if nat_lt 0 (length text) && list_all is_ascii_digit text then Some (number_from 0 text) else None

-- a number that is below a limit
abbrev pub below : ℕ → Option ℕ → Option ℕ
below limit None = None
below limit (Some n) = if nat_lt n limit then Some n else None
