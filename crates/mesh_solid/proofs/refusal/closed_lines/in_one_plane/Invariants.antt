use Rattle.std.proofs.Common.{take}
use Rattle.std.specs.List.{AllZip}
use Rattle.mesh_solid.specs.Refusal.ClosedLines.{IsInPlaneZero}
use Rattle.mesh_solid.proofs.refusal.closed_lines.in_one_plane.Given as goal

abbrev pub invariant-loop-s : goal.invariant-loop-s
invariant-loop-s l = AllZip IsInPlaneZero (take l.s-index l.segments) l.moved.items
