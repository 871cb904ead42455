use Rattle.mesh_certificate.specs.Certificate.Keys.{excess, excess_of}
use Rattle.mesh_certificate.proofs.LeftOver.{first_cancelled, back_pushed}
use Rattle.mesh_certificate.proofs.certificate.unmatched.SegmentEnds.cancel.Goals as goal

pub returns-then-first-key : goal.returns-then-first-key
returns-then-first-key c =
    λ n. first_cancelled n c.in-Some.first.now c.args.keys.now c.in-Some.behind.now c.in-Some.ensures.cases.0
    (excess n c.args.self.now.starts.items c.args.self.now.ends.items) c.args.key c.if-first-key.true

pub returns : goal.returns
returns c =
    λ n. back_pushed n c.args.key c.args.self.now c.push_reverse.new.self (excess_of n c.args.keys.now)
    c.in_ok-push_reverse.ensures.starts c.in_ok-push_reverse.ensures.ends
