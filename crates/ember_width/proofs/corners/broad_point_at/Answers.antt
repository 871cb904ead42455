use Rattle.std.proofs.Common.{arith, refl}
use Rattle.std.proofs.lemmas.Int.{ints}
use mir.Syntax.{w32, w64}
use Rattle.ember_algebra.proofs.Exact.{Code, input, stored, ◌&◌, done, exact, bounded}
use Rattle.ember_model.proofs.Tuples.{same_spot}
use Rattle.ember_width.specs.Broad.{most_short}
use Rattle.ember_width.proofs.corners.broad_point_at.Goals as goal

abbrev place : Code
place = stored w64 (stored w32 (input 0))

pub invariant_of-result : goal.invariant_of-result
invariant_of-result c =
    let v = c.requires in
    record {
      valid = record {
        x = bounded (v.x & done) most_short place tt;
        y = bounded (v.y & done) most_short place tt;
        z = bounded (v.z & done) most_short place tt;
        w = record { small = omega arith };
        weight =
            omega (arith, ints);
      };
    }

pub returns : goal.returns
returns c =
    let v = c.requires in
    same_spot (exact (v.x & done) place tt) (exact (v.y & done) place tt) (exact (v.z & done) place tt) refl
