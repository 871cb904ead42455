use Rattle.ember_width.proofs.Slides.{edge_within_planes, support_within_planes, slid_within_planes, slid_twice_within_planes}
use Rattle.ember_width.proofs.law.planes_of_triangles_are_within.Goals as goal

pub returns : goal.returns
returns c =
    record { edges = edge_within_planes; supports = support_within_planes; slid_once = slid_within_planes; slid_twice = slid_twice_within_planes }
