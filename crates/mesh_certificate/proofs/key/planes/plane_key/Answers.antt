use Rattle.std.proofs.Common.{arith, ◌≡◌, ◌<ℤ◌, pos, ℤ, unsigned_abs, sym, subst, to_z, of_z, to_z-of_z}
use Rattle.std.proofs.lemmas.Int.{ints}
use mir.Syntax.{w64}
use Rattle.mesh_certificate.specs.Key.Divisors.{Divides}
use Rattle.mesh_certificate.specs.Key.PlaneKeys.{coefficients}
use Rattle.ember_model.specs.Planes.{times_plane}
use Rattle.mesh_certificate.proofs.PlaneLaws.{own_key, divided_key, divided_broad, divided_valid, same_oriented_sides}
use Rattle.mesh_certificate.proofs.key.planes.plane_key.Goals as goal

pub returns-then-divisor-le1-clause-key : goal.returns-then-divisor-le1-clause-key
returns-then-divisor-le1-clause-key c =
    let d = c.divisor_of_plane-divisor in
    let k : to_z w64 (of_z w64 d.result) ≡ d.result = to_z-of_z {w = w64} (record { sfits = d.type_inv }) in
    own_key c.args.plane.now d.result d.ensures.divisor d.ensures.sign (omega (arith, ints, k, c.if-divisor-le1.true))

pub divided-requires : goal.divided-requires
divided-requires c =
    let d = c.divisor_of_plane-divisor in
    let k : to_z w64 (of_z w64 d.result) ≡ d.result = to_z-of_z {w = w64} (record { sfits = d.type_inv }) in
    let l : pos 0 <ℤ d.result = omega (arith, ints, k, c.if-divisor-le1.false) in
    record {
      plane = c.requires;
      nonzero = λ z. omega (arith, ints, k, l, z);
      divides =
          subst (λ (d : ℤ). Divides (unsigned_abs d) (coefficients c.args.plane.now)) (sym k) d.ensures.divisor.divides;
    }

pub returns : goal.returns
returns c =
    let d = c.divisor_of_plane-divisor in let p = c.args.plane.now in
    let k : to_z w64 (of_z w64 d.result) ≡ d.result = to_z-of_z {w = w64} (record { sfits = d.type_inv }) in
    let l : pos 0 <ℤ d.result = omega (arith, ints, k, c.if-divisor-le1.false) in
    let e = subst (λ (d : ℤ). times_plane d c.divided.result ≡ p) k c.divided.ensures in
    let key = divided_key p c.divided.result d.result l e d.ensures.divisor in
    record { key = key; broad = divided_broad p c.divided.result d.result l e c.requires; valid = divided_valid p c.divided.result d.result l e; sides = λ v. sym (same_oriented_sides key.same v) }
