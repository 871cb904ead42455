use mir.Syntax.{w128}
use Rattle.ember_algebra.proofs.Exact.{kept, ◌&◌, done, exact}
use Rattle.ember_algebra.proofs.Vectors.{same_v}
use Rattle.mesh_certificate.proofs.Quotients.{divides_read, quotient_kept}
use Rattle.mesh_certificate.proofs.key.lines.divided.Goals as goal

pub large_quotient-requires-clause-divides : goal.large_quotient-requires-clause-divides
large_quotient-requires-clause-divides c = divides_read w128 c.ranges.divisor (exact (c.requires.sized.dx & done) (kept 0) tt) c.requires.divides.0

pub large_quotient-requires-2-clause-divides : goal.large_quotient-requires-2-clause-divides
large_quotient-requires-2-clause-divides c = divides_read w128 c.ranges.divisor (exact (c.requires.sized.dy & done) (kept 0) tt) c.requires.divides.1.0

pub large_quotient-requires-3-clause-divides : goal.large_quotient-requires-3-clause-divides
large_quotient-requires-3-clause-divides c = divides_read w128 c.ranges.divisor (exact (c.requires.sized.dz & done) (kept 0) tt) c.requires.divides.1.1.0

pub large_quotient-requires-4-clause-divides : goal.large_quotient-requires-4-clause-divides
large_quotient-requires-4-clause-divides c = divides_read w128 c.ranges.divisor (exact (c.requires.sized.mx & done) (kept 0) tt) c.requires.divides.1.1.1.0

pub large_quotient-requires-5-clause-divides : goal.large_quotient-requires-5-clause-divides
large_quotient-requires-5-clause-divides c = divides_read w128 c.ranges.divisor (exact (c.requires.sized.my & done) (kept 0) tt) c.requires.divides.1.1.1.1.0

pub large_quotient-requires-6-clause-divides : goal.large_quotient-requires-6-clause-divides
large_quotient-requires-6-clause-divides c = divides_read w128 c.ranges.divisor (exact (c.requires.sized.mz & done) (kept 0) tt) c.requires.divides.1.1.1.1.1.0

pub returns : goal.returns
returns c =
    let d = c.args.divisor in let l = c.args.line.now in let s = c.requires.sized in
    record {
      directions = same_v (quotient_kept w128 d c.large_quotient.result l.dx c.ranges.divisor
          (record { sfits = c.large_quotient.type_inv }) (exact (s.dx & done) (kept 0) tt) c.large_quotient.ensures)
          (quotient_kept w128 d c.large_quotient-2.result l.dy c.ranges.divisor
          (record { sfits = c.large_quotient-2.type_inv }) (exact (s.dy & done) (kept 0) tt) c.large_quotient-2.ensures)
          (quotient_kept w128 d c.large_quotient-3.result l.dz c.ranges.divisor
          (record { sfits = c.large_quotient-3.type_inv }) (exact (s.dz & done) (kept 0) tt) c.large_quotient-3.ensures);
      moments = same_v (quotient_kept w128 d c.large_quotient-4.result l.mx c.ranges.divisor
          (record { sfits = c.large_quotient-4.type_inv }) (exact (s.mx & done) (kept 0) tt) c.large_quotient-4.ensures)
          (quotient_kept w128 d c.large_quotient-5.result l.my c.ranges.divisor
          (record { sfits = c.large_quotient-5.type_inv }) (exact (s.my & done) (kept 0) tt) c.large_quotient-5.ensures)
          (quotient_kept w128 d c.large_quotient-6.result l.mz c.ranges.divisor
          (record { sfits = c.large_quotient-6.type_inv }) (exact (s.mz & done) (kept 0) tt) c.large_quotient-6.ensures);
    }
