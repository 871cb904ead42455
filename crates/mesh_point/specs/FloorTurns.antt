-- Turns of points by the floors of their coordinates
use Rattle.std.specs.Prelude.{ℕ, ◌+◌, ◌*◌, ℤ, pos, neg_ℤ, ◌-ℤ◌, ◌*ℤ◌, ◌<ℤ◌, unsigned_abs}
use Rattle.ember_algebra.specs.declared.Sign.{Sign}
use Rattle.ember_algebra.specs.declared.Sign.TheVariants.{Neg, Zero, Pos}

-- the greatest size of a floor, 2^31, and of the difference of two, 2^32 - 1
abbrev pub most_floor : ℕ
most_floor = 2147483648

abbrev pub most_steps : ℕ
most_steps = 4294967295

-- the turn of the vectors (a, b) and (c, d), and how far it can be from that of points whose floors they join
abbrev pub turn_of : ℤ → ℤ → ℤ → ℤ → ℤ
turn_of a b c d = a *ℤ d -ℤ b *ℤ c

abbrev pub most_change : ℤ → ℤ → ℤ → ℤ → ℕ
most_change a b c d = unsigned_abs a + unsigned_abs b + unsigned_abs c + unsigned_abs d + 2

-- the turn is at most this large
abbrev pub most_turn : ℕ
most_turn = 2 * (most_steps * most_steps)

-- the vectors turn so far that the points turn the same way
abbrev pub IsClearTurn : ℤ → ℤ → ℤ → ℤ → Sign → Type 0
IsClearTurn a b c d Neg = turn_of a b c d <ℤ neg_ℤ (pos (most_change a b c d))
IsClearTurn a b c d Zero = ⊥
IsClearTurn a b c d Pos = pos (most_change a b c d) <ℤ turn_of a b c d
