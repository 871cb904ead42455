use Rattle.std.proofs.Common.{◌≡◌, map, filter, take}
use Rattle.mesh_certificate.specs.Certificate.Keys.{rises, falls}
use Rattle.mesh_certificate.specs.Certificate.OnLines.{is_free, run_key, run_back_key}
use Rattle.mesh_certificate.proofs.certificate.free_pairs.free_halves.Given as goal

abbrev pub invariant-loop-s : goal.invariant-loop-s
invariant-loop-s l =
    (l.halves.rising.items ≡ map run_key (filter rises (filter (is_free l.lines) (take l.s-index l.segments)))) ×
    (l.halves.falling.items ≡ map run_back_key (filter falls (filter (is_free l.lines) (take l.s-index l.segments))))
