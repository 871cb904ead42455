use Rattle.mesh_certificate.specs.Certificate.Keys.{edge_key, reverse_key, rises, falls}
use Rattle.mesh_certificate.proofs.Halves.{keys_more}
use Rattle.mesh_certificate.proofs.certificate.closed.halves_of.Goals as goal

pub loop-s-preserved : goal.loop-s-preserved
loop-s-preserved c = (
  keys_more edge_key rises c.args.segments.now c.loop-s.s-index c.s-item.result c.loop-s-test.true c.s-item.is
      c.loop-s.invariant.0 c.in_ok-push.ensures.rising,
  keys_more reverse_key falls c.args.segments.now c.loop-s.s-index c.s-item.result c.loop-s-test.true c.s-item.is
      c.loop-s.invariant.1 c.in_ok-push.ensures.falling,
)
