use Rattle.std.proofs.Common.{ℕ, List}
use Rattle.mesh_certificate.specs.declared.certificate.segment.Segment.{Segment}
use Rattle.mesh_triangles.specs.Marks.{AreMarks}
use Rattle.mesh_triangles.proofs.marks.push_splits.Given as goal

abbrev pub invariant-loop-s : goal.invariant-loop-s
invariant-loop-s l =
    (line : ℕ) (done : List Segment) → AreMarks line done l.fn.marks.items → AreMarks line done l.marks.items
