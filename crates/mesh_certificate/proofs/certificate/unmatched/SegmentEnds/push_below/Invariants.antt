use Rattle.std.proofs.Common.{◌≡◌, ℕ, ◌+ℤ◌, length}
use Rattle.mesh_certificate.specs.Certificate.Keys.{excess, excess_of}
use Rattle.mesh_certificate.proofs.certificate.unmatched.SegmentEnds.push_below.Given as goal

abbrev pub invariant-loop-key : goal.invariant-loop-key
invariant-loop-key l =
    (n : ℕ) → excess n l.self.starts.items l.self.ends.items +ℤ excess_of n l.rest ≡ excess n l.fn.self.starts.items l.fn.self.ends.items +ℤ excess_of n l.keys

abbrev pub decreases-loop-key : goal.decreases-loop-key
decreases-loop-key l = length l.rest
