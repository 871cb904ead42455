-- Levels of the narrow grid: how large the numbers there are
use Rattle.std.specs.Prelude.{ℕ, ◌*◌}
use Rattle.ember_model.specs.Limits.{valid_normal_limit}

-- the coordinate of a level: the root's half side, 2^11
abbrev pub most_place : ℕ
most_place = 2048

-- the constant of a plane's line in it: 2^40 - 1
abbrev pub most_line : ℕ
most_line = 1099511627775

-- how two lines turn: two products of entries of normals
abbrev pub most_turn : ℕ
most_turn = 2 * (valid_normal_limit * valid_normal_limit)

-- the level's coordinate times such a number
abbrev pub most_height : ℕ
most_height = most_place * most_turn

-- a numerator of a point in the level: two constants of lines times entries
abbrev pub most_minor : ℕ
most_minor = 2 * (most_line * valid_normal_limit)
