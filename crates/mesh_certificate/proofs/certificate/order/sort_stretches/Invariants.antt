use Rattle.std.proofs.Common.{length, ◌-◌}
use Rattle.std.specs.List.Sorted.{IsPermutation}
use Rattle.mesh_certificate.proofs.certificate.order.sort_stretches.Given as goal

abbrev pub invariant-loop-low : goal.invariant-loop-low
invariant-loop-low l = IsPermutation l.fn.numbers l.numbers

abbrev pub decreases-loop-low : goal.decreases-loop-low
decreases-loop-low l = length l.numbers - l.low
