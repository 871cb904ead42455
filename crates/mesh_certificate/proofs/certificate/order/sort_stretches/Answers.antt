use Rattle.std.proofs.Common.{◌-◌}
use Rattle.std.proofs.lemmas.List.Sorted.{IsPermutation-trans, IsPermutation-put_mid}
use Rattle.mesh_certificate.proofs.certificate.order.sort_stretches.Goals as goal

pub loop-low-preserved : goal.loop-low-preserved
loop-low-preserved c =
    IsPermutation-trans _ _ _ c.loop-low.invariant
    (IsPermutation-put_mid c.loop-low.low (c.stretch_end-high.result - c.loop-low.low) c.loop-low.numbers
    c.sort_unstable.new.self c.sort_unstable.ensures.permutation)
