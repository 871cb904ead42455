use Rattle.std.proofs.Common.{take}
use Rattle.std.specs.List.{All}
use Rattle.mesh_certificate.specs.Certificate.Certificate.{IsProper}
use Rattle.mesh_certificate.proofs.certificate.certificate.are_proper.Given as goal

abbrev pub invariant-loop-t : goal.invariant-loop-t
invariant-loop-t l = All (IsProper l.planes l.corners) (take l.t-index l.triangles)
