-- The bounding box of points
use Rattle.std.specs.Prelude.{List, [], ◌∷◌, pos, fold}
use Rattle.std.specs.Int.{int_min, int_max}
use Rattle.mesh_write.specs.declared.vertices.point.DecimalPoint.{DecimalPoint}
use Rattle.mesh_info.specs.declared.info.bounds.BoundingBox.{BoundingBox}

-- the lesser coordinates of two points
abbrev pub lower_corner : DecimalPoint → DecimalPoint → DecimalPoint
lower_corner p q = record { x = int_min p.x q.x; y = int_min p.y q.y; z = int_min p.z q.z }

-- the greater ones
abbrev pub upper_corner : DecimalPoint → DecimalPoint → DecimalPoint
upper_corner p q = record { x = int_max p.x q.x; y = int_max p.y q.y; z = int_max p.z q.z }

-- the box with one point more
abbrev pub widened : BoundingBox → DecimalPoint → BoundingBox
widened b p = record { lower = lower_corner b.lower p; upper = upper_corner b.upper p }

-- the box of a point and others
abbrev pub box_from : DecimalPoint → List DecimalPoint → BoundingBox
box_from p ps = fold widened (record { lower = p; upper = p }) ps

-- the least and the greatest coordinates of points; no points have the box of zero
abbrev pub box_of : List DecimalPoint → BoundingBox
box_of [] = box_from (record { x = pos 0; y = pos 0; z = pos 0 }) []
box_of (p ∷ ps) = box_from p ps
