use Rattle.mesh_certificate.proofs.LeftOver.{first_pushed}
use Rattle.mesh_certificate.proofs.certificate.unmatched.SegmentEnds.push_below.Goals as goal

pub loop-key-preserved : goal.loop-key-preserved
loop-key-preserved c =
    λ n. first_pushed n c.in-Some.key.now c.loop-key.rest.now c.in-Some.behind.now c.in-Some.ensures.cases.0 _
    c.loop-key.self c.push.new.self c.in_ok-push.ensures.starts c.in_ok-push.ensures.ends (c.loop-key.invariant n)
