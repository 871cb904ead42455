use Rattle.std.proofs.Common.{◌≡◌, take}
use Rattle.ember_trace.specs.Paths.{path_of}
use Rattle.ember_trace.specs.NearTriangles.{AreWithinBound}
use Rattle.ember_trace.specs.Crossings.{taken, crossing_before, crossing_after}
use Rattle.ember_trace.proofs.sides.trace_sides_on.Given as goal

abbrev pub invariant-loop-triangle : goal.invariant-loop-triangle
invariant-loop-triangle g l =
    record {
      before : AreWithinBound l.triangle-index l.fn.v.counts l.sides.before.counts;
      after : AreWithinBound l.triangle-index l.fn.v.counts l.sides.after.counts;
      traced_before : l.sides.before.counts ≡ taken (crossing_before (path_of l.way)) (take l.triangle-index l.near) l.fn.v.counts;
      traced_after : l.sides.after.counts ≡ taken (crossing_after (path_of l.way)) (take l.triangle-index l.near) l.fn.v.counts;
    }
