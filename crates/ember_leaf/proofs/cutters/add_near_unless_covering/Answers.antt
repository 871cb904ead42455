use Rattle.std.proofs.Common.{◌∙◌, sym}
use Rattle.ember_leaf.specs.EarlierTriangles.{misses}
use Rattle.ember_leaf.proofs.EarlierTriangles.{away_misses}
use Rattle.ember_leaf.proofs.UnmetPlanes.{adds_away}
use Rattle.ember_leaf.proofs.cutters.add_near_unless_covering.Goals as goal

pub returns-else-aabbs_meet-clause-cutting_planes : goal.returns-else-aabbs_meet-clause-cutting_planes
returns-else-aabbs_meet-clause-cutting_planes g c =
    λ e. adds_away c.args.target.now.tri c.args.other.now.tri c.args.bounds.now c.args.other.now.aabb
    c.args.list.now.items c.args.other.now.bounds (sym c.aabbs_meet.ensures ∙ c.if-aabbs_meet.false)

pub returns-else-aabbs_meet-clause-owners : goal.returns-else-aabbs_meet-clause-owners
returns-else-aabbs_meet-clause-owners g c =
    misses (away_misses c.args.target.now.tri c.args.other.now.tri c.args.bounds.now c.args.other.now.aabb
    c.args.other.now.bounds (sym c.aabbs_meet.ensures ∙ c.if-aabbs_meet.false))
