use Rattle.std.proofs.Common.{refl}
use Rattle.ember_algebra.proofs.Exact.{kept, ◌&◌, done, exact, bounded}
use Rattle.ember_model.proofs.Tuples.{same_spot}
use Rattle.ember_width.specs.Broad.{most_weight}
use Rattle.ember_width.proofs.Places.{kept_weight}
use Rattle.ember_width.proofs.points.point_of.Goals as goal

pub invariant_of-result : goal.invariant_of-result
invariant_of-result c =
    record {
      valid = record {
        x = c.requires.x;
        y = c.requires.y;
        z = c.requires.z;
        w = bounded (c.requires.w & done) most_weight (kept 0) tt;
        weight = kept_weight c.requires.w c.requires.weight;
      };
    }

pub returns : goal.returns
returns c = same_spot refl refl refl (exact (c.requires.w & done) (kept 0) tt)
