use Rattle.std.proofs.Common.{lit≤}
use Rattle.ember_model.specs.Limits.{broad_limit}
use Rattle.ember_width.specs.Laws.{broad_planes}
use Rattle.ember_width.proofs.TakenPlanes.{support_taken, tri_in_root}
use Rattle.ember_coplanar.proofs.Coplanar.{has_normal_is, lies_on_is, by_all, by_place, by_normal}
use Rattle.ember_coplanar.proofs.plane.same_plane.Goals as goal

pub returns-then-lies_on : goal.returns-then-lies_on
returns-then-lies_on c =
    let support = c.support_of-support.ensures.value in
    by_all c.args.t.now c.args.u.now (has_normal_is c.args.t.now support c.has_normal.ensures)
    (lies_on_is c.args.t.now c.args.u.now support c.lies_on.ensures)
    (has_normal_is c.args.u.now c.support_of.ensures.value c.has_normal-then-lies_on.ensures) c.if-has_normal.true
    c.if-lies_on.true

pub returns-else-lies_on : goal.returns-else-lies_on
returns-else-lies_on c =
    let support = c.support_of-support.ensures.value in
    by_place c.args.t.now c.args.u.now (has_normal_is c.args.t.now support c.has_normal.ensures)
    (lies_on_is c.args.t.now c.args.u.now support c.lies_on.ensures) c.if-has_normal.true c.if-lies_on.false

pub returns-else-has_normal : goal.returns-else-has_normal
returns-else-has_normal c =
    by_normal c.args.t.now c.args.u.now (has_normal_is c.args.t.now c.support_of-support.ensures.value c.has_normal.ensures) c.if-has_normal.false

pub lies_on-requires-clause-plane : goal.lies_on-requires-clause-plane
lies_on-requires-clause-plane c = support_taken broad_planes (c.support_of-support.ensures.within broad_limit c.requires.t)

pub lies_on-requires-clause-tri : goal.lies_on-requires-clause-tri
lies_on-requires-clause-tri c = tri_in_root (lit≤ tt) c.requires.u
