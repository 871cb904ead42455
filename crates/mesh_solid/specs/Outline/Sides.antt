-- Sides of rings, as they are read
use Rattle.std.specs.Prelude.{Bool, List}
use Rattle.std.specs.List.{list_all}
use Rattle.ember_algebra.specs.Sign.{is_zero}
use Rattle.ember_model.specs.Planes.{value_at}
use Rattle.ember_model.specs.declared.plane.Plane.{Plane}
use Rattle.ember_point.specs.Points.{spot_of}
use Rattle.ember_poly.specs.Rings.{Side}
use Rattle.ember_reread.specs.declared.cornered_face.CorneredEdge.{CorneredEdge}
use Rattle.ember_reread.specs.Cornered.{edge_of}
use Rattle.mesh_solid.specs.Outline.Rounds.{side_of}

-- the edge with its corner as a side of a ring
abbrev pub side_at : CorneredEdge → Side
side_at e = side_of (edge_of e)

-- whether all edges start on the plane
abbrev pub start_on : Plane → List CorneredEdge → Bool
start_on support edges = list_all (λ (e : CorneredEdge). is_zero (value_at support (spot_of e.start))) edges
