use Rattle.std.proofs.Common.{◌≡◌, ℕ, ◌+ℤ◌, take}
use Rattle.mesh_certificate.specs.Certificate.Keys.{excess, excess_of}
use Rattle.mesh_certificate.proofs.certificate.unmatched.SegmentEnds.push_all.Given as goal

abbrev pub invariant-loop-key : goal.invariant-loop-key
invariant-loop-key l =
    (n : ℕ) → excess n l.self.starts.items l.self.ends.items ≡ excess n l.fn.self.starts.items l.fn.self.ends.items +ℤ excess_of n (take l.key-index l.keys)
