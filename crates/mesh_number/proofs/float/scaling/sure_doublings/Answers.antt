use Rattle.std.proofs.Common.{◌≡◌, ◌*◌, ◌^◌, ◌+◌, ◌<◌, ◌≤◌, arith}
use Rattle.mesh_number.proofs.Rounding.{by_lt}
use Rattle.mesh_number.proofs.Powers.{doublings_short}
use Rattle.mesh_number.proofs.float.scaling.sure_doublings.Goals as goal

pub returns-clause-short : goal.returns-clause-short
returns-clause-short c =
    let top = c.ilog2 in let bits = c.ilog2-2 in
    by_lt 0 c.min.result
    (λ l.
    doublings_short c.args.n c.args.d bits.result top.result c.min.result
    (omega (arith, bits.ensures.next_power_gt))
    top.ensures.power_le
    (omega (arith, l, c.min.ensures, c.saturating_sub.ensures)))
    (λ h. let none : c.min.result ≡ 0 = omega (arith, h) in rw none (omega (arith, c.requires.below)))
