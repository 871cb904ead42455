use Rattle.mesh_certificate.specs.Certificate.Keys.{rises, falls}
use Rattle.mesh_certificate.specs.Certificate.OnLines.{is_free, run_key, run_back_key}
use Rattle.mesh_certificate.proofs.Halves.{keys_of_both_more}
use Rattle.mesh_certificate.proofs.certificate.free_pairs.free_halves.Goals as goal

pub loop-s-preserved : goal.loop-s-preserved
loop-s-preserved c = (
  keys_of_both_more run_key rises (is_free c.args.lines.now) c.args.segments.now c.loop-s.s-index c.s-item.result
      c.loop-s-test.true c.s-item.is c.loop-s.invariant.0 c.in_ok-push_free.ensures.rising,
  keys_of_both_more run_back_key falls (is_free c.args.lines.now) c.args.segments.now c.loop-s.s-index
      c.s-item.result c.loop-s-test.true c.s-item.is c.loop-s.invariant.1 c.in_ok-push_free.ensures.falling,
)
