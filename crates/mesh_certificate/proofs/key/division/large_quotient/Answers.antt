use Rattle.std.proofs.Common.{arith}
use mir.Syntax.{w128}
use Rattle.mesh_certificate.proofs.Divisors.{size_read}
use Rattle.mesh_certificate.proofs.Quotients.{stored_quotient, narrow_quotient}
use Rattle.mesh_certificate.proofs.key.division.large_quotient.Goals as goal

pub returns-then-unsigned_abs-2 : goal.returns-then-unsigned_abs-2
returns-then-unsigned_abs-2 c =
    let e = size_read w128 c.ranges.n c.unsigned_abs.ensures.value in
    let f = size_read w128 c.ranges.divisor c.unsigned_abs-then-unsigned_abs.ensures.value in
    narrow_quotient _ _ c.requires.nonzero c.requires.divides (record { small = omega (arith, e, c.if-unsigned_abs.true) })
    (record { small = omega (arith, f, c.if-unsigned_abs-2.true) })

pub returns-else-unsigned_abs : goal.returns-else-unsigned_abs
returns-else-unsigned_abs c = stored_quotient w128 _ _ c.ranges.n c.ranges.divisor c.requires.nonzero c.requires.divides c.requires.small tt
