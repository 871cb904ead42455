use Rattle.std.proofs.Common.{◌≡◌, ℤ, unsigned_abs, sym, subst, to_z, of_z, to_z-of_z}
use mir.Syntax.{w128}
use Rattle.mesh_certificate.specs.Key.Divisors.{Divides}
use Rattle.mesh_certificate.specs.Key.LineKeys.{coordinates, IsMultiple}
use Rattle.mesh_certificate.proofs.LineLaws.{multiple_key, multiple_sized, points_of_key}
use Rattle.mesh_certificate.proofs.key.lines.line_key.Goals as goal

pub divided-requires-clause-divides : goal.divided-requires-clause-divides
divided-requires-clause-divides c =
    let k : to_z w128 (of_z w128 c.signed_divisor.result) ≡ c.signed_divisor.result = to_z-of_z {w = w128} (record { sfits = c.signed_divisor.type_inv }) in
    subst (λ (d : ℤ). Divides (unsigned_abs d) (coordinates c.meet_of_planes-line.result)) (sym k) c.signed_divisor.ensures.divisor.divides

pub returns-clause-key : goal.returns-clause-key
returns-clause-key c =
    let k : to_z w128 (of_z w128 c.signed_divisor.result) ≡ c.signed_divisor.result = to_z-of_z {w = w128} (record { sfits = c.signed_divisor.type_inv }) in
    let m = subst (λ (d : ℤ). IsMultiple d c.divided.result c.meet_of_planes-line.result) k c.divided.ensures in let d = c.signed_divisor.ensures in
    multiple_key m d.nonzero c.args.plane.now c.args.edge.now c.meet_of_planes-line.ensures.direction c.meet_of_planes-line.ensures.moment d.divisor d.sign

pub returns-clause-points : goal.returns-clause-points
returns-clause-points c =
    let k : to_z w128 (of_z w128 c.signed_divisor.result) ≡ c.signed_divisor.result = to_z-of_z {w = w128} (record { sfits = c.signed_divisor.type_inv }) in
    let m = subst (λ (d : ℤ). IsMultiple d c.divided.result c.meet_of_planes-line.result) k c.divided.ensures in let d = c.signed_divisor.ensures in
    λ v. points_of_key (multiple_key m d.nonzero c.args.plane.now c.args.edge.now
    c.meet_of_planes-line.ensures.direction c.meet_of_planes-line.ensures.moment d.divisor d.sign) v

pub returns-clause-sized : goal.returns-clause-sized
returns-clause-sized c =
    let k : to_z w128 (of_z w128 c.signed_divisor.result) ≡ c.signed_divisor.result = to_z-of_z {w = w128} (record { sfits = c.signed_divisor.type_inv }) in
    let m = subst (λ (d : ℤ). IsMultiple d c.divided.result c.meet_of_planes-line.result) k c.divided.ensures in
    multiple_sized m c.signed_divisor.ensures.nonzero c.meet_of_planes-line.ensures.sized
