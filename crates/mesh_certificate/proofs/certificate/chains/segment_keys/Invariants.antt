use Rattle.std.proofs.Common.{◌≡◌, map, take}
use Rattle.mesh_certificate.specs.Certificate.Keys.{segment_key}
use Rattle.mesh_certificate.proofs.certificate.chains.segment_keys.Given as goal

abbrev pub invariant-loop-s : goal.invariant-loop-s
invariant-loop-s l = l.keys.items ≡ map segment_key (take l.s-index l.segments)
