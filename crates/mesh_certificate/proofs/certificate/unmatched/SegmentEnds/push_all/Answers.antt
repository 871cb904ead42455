use Rattle.mesh_certificate.proofs.LeftOver.{next_pushed}
use Rattle.mesh_certificate.proofs.certificate.unmatched.SegmentEnds.push_all.Goals as goal

pub loop-key-preserved : goal.loop-key-preserved
loop-key-preserved c =
    λ n. next_pushed n c.args.keys.now c.loop-key.key-index c.loop-key-test.true _ c.loop-key.self c.push.new.self
    c.in_ok-push.ensures.starts c.in_ok-push.ensures.ends (c.loop-key.invariant n)
