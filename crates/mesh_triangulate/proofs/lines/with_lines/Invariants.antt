use Rattle.std.proofs.Common.{take}
use Rattle.mesh_triangulate.specs.Lines.{AreRight, AreNamed}
use Rattle.mesh_triangulate.proofs.lines.with_lines.Given as goal

abbrev pub invariant-loop-corners : goal.invariant-loop-corners
invariant-loop-corners l =
    record {
      right : AreRight l.boundary l.first_free_line l.lines;
      named : AreNamed l.plane (take l.corners-index l.triangles) l.lines l.named.items;
    }
