-- How large the lines of edges are, on all grids
use Rattle.std.specs.Prelude.{ℕ, ◌+◌, ◌*◌}
use Rattle.ember_model.specs.Limits.{broad_limit}
use Rattle.ember_width.specs.Broad.{most_short}
use Rattle.ember_box.specs.Aabbs.{most_wall}

-- the difference of two coordinates of corners
abbrev pub most_step : ℕ
most_step = 2 * broad_limit

-- the constant of a line: two products of a step and a coordinate
abbrev pub most_edge : ℕ
most_edge = 4 * (broad_limit * broad_limit)

-- the same plus or minus a step times the coordinate of a wall
abbrev pub most_moved : ℕ
most_moved = most_edge + most_step * most_wall

-- such a number times one of a short point
abbrev pub most_product : ℕ
most_product = most_moved * most_short
