-- What the floors of a point leave of a moment
use Rattle.std.specs.Prelude.{ℕ, ◌+◌, ◌*◌, ◌^◌}

-- the greatest size of what they leave: a moment, and two floors times entries of a direction
abbrev pub most_lack : ℕ
most_lack = 2 ^ 127 + 2 * (2 ^ 31 * 2 ^ 127)
