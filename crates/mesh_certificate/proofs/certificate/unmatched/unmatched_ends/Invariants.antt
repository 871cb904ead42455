use Rattle.std.proofs.Common.{◌≡◌, ℕ, ◌+ℤ◌, ◌-ℤ◌, take}
use Rattle.mesh_certificate.specs.Certificate.Keys.{excess, excess_of}
use Rattle.mesh_certificate.proofs.certificate.unmatched.unmatched_ends.Given as goal

abbrev pub invariant-loop-key : goal.invariant-loop-key
invariant-loop-key l =
    (n : ℕ) → excess n l.left.starts.items l.left.ends.items +ℤ excess_of n l.rest ≡ excess_of n l.first -ℤ excess_of n (take l.key-index l.second)
