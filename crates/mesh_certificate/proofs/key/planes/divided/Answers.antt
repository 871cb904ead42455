use mir.Syntax.{w64}
use Rattle.ember_algebra.proofs.Exact.{narrow, ◌&◌, done, exact}
use Rattle.ember_model.proofs.Tuples.{same_plane}
use Rattle.mesh_certificate.proofs.Quotients.{divides_read, quotient_kept}
use Rattle.mesh_certificate.proofs.key.planes.divided.Goals as goal

pub quotient-requires-clause-divides : goal.quotient-requires-clause-divides
quotient-requires-clause-divides c = divides_read w64 c.ranges.divisor (exact (c.requires.plane.a & done) (narrow 0) tt) c.requires.divides.0

pub quotient-requires-2-clause-divides : goal.quotient-requires-2-clause-divides
quotient-requires-2-clause-divides c = divides_read w64 c.ranges.divisor (exact (c.requires.plane.b & done) (narrow 0) tt) c.requires.divides.1.0

pub quotient-requires-3-clause-divides : goal.quotient-requires-3-clause-divides
quotient-requires-3-clause-divides c = divides_read w64 c.ranges.divisor (exact (c.requires.plane.c & done) (narrow 0) tt) c.requires.divides.1.1.0

pub quotient-requires-4-clause-divides : goal.quotient-requires-4-clause-divides
quotient-requires-4-clause-divides c = divides_read w64 c.ranges.divisor (exact (c.requires.plane.d & done) (narrow 0) tt) c.requires.divides.1.1.1.0

pub returns : goal.returns
returns c =
    let d = c.args.divisor in let p = c.args.plane.now in let v = c.requires.plane in
    same_plane (quotient_kept w64 d c.quotient.result p.a c.ranges.divisor (record { sfits = c.quotient.type_inv })
    (exact (v.a & done) (narrow 0) tt) c.quotient.ensures)
    (quotient_kept w64 d c.quotient-2.result p.b c.ranges.divisor (record { sfits = c.quotient-2.type_inv })
    (exact (v.b & done) (narrow 0) tt) c.quotient-2.ensures)
    (quotient_kept w64 d c.quotient-3.result p.c c.ranges.divisor (record { sfits = c.quotient-3.type_inv })
    (exact (v.c & done) (narrow 0) tt) c.quotient-3.ensures)
    (quotient_kept w64 d c.quotient-4.result p.d c.ranges.divisor (record { sfits = c.quotient-4.type_inv })
    (exact (v.d & done) (narrow 0) tt) c.quotient-4.ensures)
