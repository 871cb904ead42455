use Rattle.std.proofs.Common.{◌≡◌, All, take, replicate, pos}
use Rattle.ember_algebra.specs.Size.{Small}
use Rattle.ember_trace.specs.Crossings.{ray_counts, ray_before, ray_after}
use Rattle.ember_trace.proofs.whole_rays.sides_by_rays_on.Given as goal

abbrev pub invariant-loop-t : goal.invariant-loop-t
invariant-loop-t g l =
    record {
      before : All (Small l.t-index) l.before.counts;
      after : All (Small l.t-index) l.after.counts;
      counted_before : l.before.counts
          ≡ ray_counts
          (λ t. ray_before t l.k (g.W.Width.spot l.at.first) (g.W.Width.spot l.at.second) (g.W.Width.spot l.at.third))
          (take l.t-index l.tris) (replicate 64 (pos 0));
      counted_after : l.after.counts
          ≡ ray_counts
          (λ t. ray_after t l.k (g.W.Width.spot l.at.first) (g.W.Width.spot l.at.second) (g.W.Width.spot l.at.third))
          (take l.t-index l.tris) (replicate 64 (pos 0));
    }
