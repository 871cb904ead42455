use Rattle.std.proofs.Common.{take}
use Rattle.mesh_triangles.specs.Marks.{AreMarks}
use Rattle.mesh_triangles.proofs.marks.put_marks.Given as goal

abbrev pub invariant-loop-s : goal.invariant-loop-s
invariant-loop-s l = AreMarks l.line (take l.s-index l.segments) l.marks.items
