use Rattle.std.proofs.Common.{drop, map}
use Rattle.mesh_effect.specs.Facing.Facings.{float_facing}
use Rattle.mesh_effect.proofs.Counted.{HaveCounted}
use Rattle.mesh_effect.proofs.facing.counts.float_facings.Given as goal

abbrev pub invariant-loop-t : goal.invariant-loop-t
invariant-loop-t l =
    HaveCounted (map (float_facing l.planes l.points) (drop l.t-index l.triangles)) (map (float_facing l.planes l.points) l.triangles) l.t-index l.counts
