-- The triangles at an edge, in their order round it
use Rattle.std.specs.Prelude.{Bool, true, false, not, ◌&&◌, int_lt, pos, if◌then◌else◌}
use Rattle.std.specs.declared.cmp.Ordering.{Ordering}
use Rattle.std.specs.declared.cmp.Ordering.TheVariants.{Less, Equal, Greater}
use Rattle.mesh_write.specs.declared.vertices.point.DecimalPoint.{DecimalPoint}
use Rattle.mesh_manifold.specs.declared.edge_triangle.EdgeTriangle.{EdgeTriangle}
use Rattle.mesh_manifold.specs.Turns.{inner, turn}

-- by how it turns, and whether it goes on or back if it doesn't turn
abbrev pub late_by : Ordering → Bool → Bool
late_by Greater back = false
late_by Less back = true
late_by Equal back = back

-- the triangle is half a turn or more from the first one
abbrev pub is_in_second_half : DecimalPoint → DecimalPoint → EdgeTriangle → EdgeTriangle → Bool
is_in_second_half u v first w = late_by (turn u v first.normal w.normal) (int_lt (inner first.normal w.normal) (pos 0))

abbrev pub before_by : Ordering → Bool → Bool
before_by Greater same = true
before_by Less same = false
before_by Equal same = same

-- one triangle comes before another
abbrev pub is_before : DecimalPoint → DecimalPoint → EdgeTriangle → EdgeTriangle → EdgeTriangle → Bool
is_before u v first w x =
    if is_in_second_half u v first w
    then is_in_second_half u v first x && before_by (turn u v w.normal x.normal) (w.is_back && not x.is_back)
    else (if is_in_second_half u v first x then true
    else before_by (turn u v w.normal x.normal) (w.is_back && not x.is_back))
