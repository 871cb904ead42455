use Rattle.std.proofs.Common.{◌≡◌, take}
use Rattle.mesh_certificate.specs.Certificate.Certificate.{edges_in}
use Rattle.mesh_certificate.proofs.certificate.certificate.edges_of.Given as goal

abbrev pub invariant-loop-t : goal.invariant-loop-t
invariant-loop-t l = l.edges.items ≡ edges_in (take l.t-index l.triangles)
