use Rattle.std.proofs.Common.{take}
use Rattle.std.specs.List.{All}
use Rattle.mesh_certificate.specs.Certificate.OnLines.{IsOnItsLine}
use Rattle.mesh_certificate.proofs.certificate.on_lines.are_on_lines.Given as goal

abbrev pub invariant-loop-s : goal.invariant-loop-s
invariant-loop-s l = All (IsOnItsLine l.lines l.corners) (take l.s-index l.segments)
