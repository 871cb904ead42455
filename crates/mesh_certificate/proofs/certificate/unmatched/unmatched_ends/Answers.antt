use Rattle.mesh_certificate.specs.Certificate.Keys.{excess_of}
use Rattle.mesh_certificate.proofs.LeftOver.{next_compared}
use Rattle.mesh_certificate.proofs.certificate.unmatched.unmatched_ends.Goals as goal

pub loop-key-preserved : goal.loop-key-preserved
loop-key-preserved c =
    λ n. next_compared n c.args.second.now c.loop-key.key-index c.loop-key-test.true (excess_of n c.args.first.now)
    c.loop-key.left c.push_below.new.self c.cancel.new.self c.loop-key.rest.now c.in_ok-from.from.now
    c.in_ok-rest.rest.now (c.loop-key.invariant n) (c.in_ok-from.ensures n) (c.in_ok-rest.ensures n)
