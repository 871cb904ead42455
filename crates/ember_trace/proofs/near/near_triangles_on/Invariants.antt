use Rattle.std.proofs.Common.{take}
use Rattle.ember_box.specs.Boxes.{in_steps}
use Rattle.ember_trace.specs.NearTriangles.{AreNearTrianglesBeside}
use Rattle.ember_trace.proofs.near.near_triangles_on.Given as goal

abbrev pub invariant-loop-t : goal.invariant-loop-t
invariant-loop-t g l = AreNearTrianglesBeside g.W.Width.fine (take l.t-index l.fn.near) (in_steps g.W.Width.scale l.c) l.found.items
