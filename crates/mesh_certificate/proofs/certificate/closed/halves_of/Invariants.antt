use Rattle.std.proofs.Common.{◌≡◌, map, filter, take}
use Rattle.mesh_certificate.specs.Certificate.Keys.{edge_key, reverse_key, rises, falls}
use Rattle.mesh_certificate.proofs.certificate.closed.halves_of.Given as goal

abbrev pub invariant-loop-s : goal.invariant-loop-s
invariant-loop-s l =
    (l.halves.rising.items ≡ map edge_key (filter rises (take l.s-index l.segments))) ×
    (l.halves.falling.items ≡ map reverse_key (filter falls (take l.s-index l.segments)))
