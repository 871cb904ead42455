use Rattle.std.proofs.Common.{arith, lit≤, ap, sym, subst, ℕ, pos, unsigned_abs}
use Rattle.std.proofs.lemmas.Int.{ints}
use mir.Syntax.{w64}
use Rattle.ember_algebra.specs.Size.{Small}
use Rattle.ember_algebra.proofs.Exact.{narrow, ◌&◌, done, exact}
use Rattle.ember_algebra.proofs.Size.{fits_small, small_within}
use Rattle.ember_model.specs.declared.plane.Plane.{Plane}
use Rattle.ember_width.specs.Broad.{IsBroadPlane, most_constant}
use Rattle.mesh_certificate.specs.Key.Divisors.{IsGreatestDivisor}
use Rattle.mesh_certificate.specs.Key.PlaneKeys.{coefficients}
use Rattle.mesh_certificate.proofs.Divisors.{greatest_divisor_small}
use Rattle.mesh_certificate.proofs.key.planes.divisor_of_plane.Goals as goal

small : (p : Plane) (g : ℕ) → IsBroadPlane p → IsGreatestDivisor (coefficients p) g → Small most_constant (pos g)
small p g v i =
    greatest_divisor_small most_constant g (coefficients p) i (
      small_within (lit≤ tt) v.a,
      (small_within (lit≤ tt) v.b, (small_within (lit≤ tt) v.c, (v.d, tt))),
    )

pub overflow_cast-result : goal.overflow_cast-result
overflow_cast-result c =
    let p = c.args.plane.now in let v = c.requires in
    let i : IsGreatestDivisor (coefficients p) c.divisor_of_four.result =
    rw (
      exact (v.a & done) (narrow 0) tt,
      exact (v.b & done) (narrow 0) tt,
      exact (v.c & done) (narrow 0) tt,
      exact (v.d & done) (narrow 0) tt,
    ) at c.divisor_of_four.ensures in
    fits_small w64 (small p _ v i) tt

pub returns : goal.returns
returns c =
    let p = c.args.plane.now in let v = c.requires in
    let i : IsGreatestDivisor (coefficients p) c.divisor_of_four.result =
    rw (
      exact (v.a & done) (narrow 0) tt,
      exact (v.b & done) (narrow 0) tt,
      exact (v.c & done) (narrow 0) tt,
      exact (v.d & done) (narrow 0) tt,
    ) at c.divisor_of_four.ensures in
    let e = exact (small p _ v i & done) (narrow 0) tt in
    record { divisor = subst (λ (n : ℕ). IsGreatestDivisor (coefficients p) n) (sym (ap unsigned_abs e)) i; sign = omega (arith, ints, e) }
