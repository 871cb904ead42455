-- The planes through the edges of a triangle, as a path sees them
use Rattle.std.specs.Prelude.{ℤ, ◌*ℤ◌, ◌-ℤ◌}
use Rattle.ember_algebra.specs.declared.Sign.{Sign}
use Rattle.ember_algebra.specs.Sign.{sgn}
use Rattle.ember_model.specs.declared.plane.Plane.{Plane}
use Rattle.ember_model.specs.declared.point.Axis.{Axis}
use Rattle.ember_model.specs.declared.point.Axis.TheVariants.{X, Y, Z}
use Rattle.ember_model.specs.declared.point.Corner.{Corner}
use Rattle.ember_model.specs.Planes.{value_at, unit, times_plane, edge_through}
use Rattle.ember_model.specs.declared.point.Spot.{Spot}
use Rattle.ember_point.specs.Points.{slid}
use Rattle.ember_trace.specs.declared.edge_line.EdgeLine.{EdgeLine}
use Rattle.ember_trace.specs.Paths.{Path, second_of, slid_to_lo}

-- the plane through an edge parallel to an axis, times a sign
abbrev pub edge_times : Corner → Corner → Axis → ℤ → Plane
edge_times u v k s = times_plane s (edge_through u v (unit k))

-- the side of a plane on which a point lies
abbrev pub side_at : Plane → Spot → Sign
side_at p m = sgn (value_at p m)

-- the side of a line on which a point lies, seen along an axis: by its coordinates along the two other axes
abbrev pub side_seen : EdgeLine → Axis → Spot → Sign
side_seen l X m = sgn (l.dq *ℤ m.y -ℤ l.dp *ℤ m.z -ℤ l.d *ℤ m.w)
side_seen l Y m = sgn (l.dq *ℤ m.z -ℤ l.dp *ℤ m.x -ℤ l.d *ℤ m.w)
side_seen l Z m = sgn (l.dq *ℤ m.x -ℤ l.dp *ℤ m.y -ℤ l.d *ℤ m.w)

-- the plane through an edge parallel to the second axis, with its coordinates along that axis and along the
-- main axis fixed
abbrev pub fixed_edge : Corner → Corner → Axis → ℤ → ℤ → ℤ → Plane
fixed_edge u v main s by at = slid (slid (edge_times u v (second_of main) s) (second_of main) by) main at

-- the same plane, with those two coordinates fixed to those of the box's least corner
abbrev pub edge_after_first : Path → Corner → Corner → ℤ → Plane
edge_after_first w u v s = slid_to_lo w w.main (slid_to_lo w w.second_axis (edge_times u v w.second_axis s))
