use Rattle.std.proofs.Common.{arith, refl}
use Rattle.std.proofs.lemmas.Int.{ints}
use mir.Syntax.{w32, w128}
use Rattle.ember_algebra.proofs.Exact.{Code, input, stored, ◌&◌, done, exact, bounded}
use Rattle.ember_model.proofs.Tuples.{same_spot}
use Rattle.ember_width.proofs.corners.narrow_point_at.Goals as goal

abbrev wide : Code
wide = stored w128 (stored w32 (input 0))

pub invariant_of-result : goal.invariant_of-result
invariant_of-result c =
    let v = c.requires in
    record {
      valid = record {
        x = bounded (v.x & done) 4951760157141521099596496895 wide tt;
        y =
            bounded (v.y & done) 4951760157141521099596496895 wide tt;
        z =
            bounded (v.z & done) 4951760157141521099596496895 wide tt;
        w = record { small = omega arith };
        weight =
            omega (arith, ints);
      };
    }

pub returns : goal.returns
returns c =
    let v = c.requires in
    same_spot (exact (v.x & done) wide tt) (exact (v.y & done) wide tt) (exact (v.z & done) wide tt) refl
