use Rattle.std.proofs.Common.{◌∙◌, sym, subst}
use Rattle.ember_leaf.specs.TriRelations.{IsRelation}
use Rattle.ember_leaf.specs.EarlierTriangles.{misses}
use Rattle.ember_leaf.proofs.EarlierTriangles.{flat_misses, apart_misses, other_plane_added}
use Rattle.ember_leaf.proofs.UnmetPlanes.{adds_flat, adds_apart, adds_all, support_cutting_planes, added_cutting_planes, added_cutters}
use Rattle.ember_leaf.proofs.cutters.add_unless_covering.Goals as goal

pub returns-then-is_flat-clause-cutting_planes : goal.returns-then-is_flat-clause-cutting_planes
returns-then-is_flat-clause-cutting_planes g c =
    λ e b. adds_flat c.args.target.now.tri c.args.other.now.tri b c.args.list.now.items (sym c.is_flat.ensures ∙ c.if-is_flat.true)

pub returns-in-Apart-clause-cutting_planes : goal.returns-in-Apart-clause-cutting_planes
returns-in-Apart-clause-cutting_planes g c =
    let t = c.args.target.now.tri in let u = c.args.other.now.tri in
    λ e b. adds_apart t u b c.args.list.now.items (subst (IsRelation t u) c.in-Apart.is c.relation_of.ensures)

pub returns-in_ok-add_cutter-in-OtherPlane-clause-cutting_planes : goal.returns-in_ok-add_cutter-in-OtherPlane-clause-cutting_planes
returns-in_ok-add_cutter-in-OtherPlane-clause-cutting_planes g c =
    let t = c.args.target.now.tri in let u = c.args.other.now.tri in
    λ e b. adds_all c.args.list.now.items c.add_cutter.new.list.items
    (support_cutting_planes t u (sym c.is_flat.ensures ∙ c.if-is_flat.false)
    (subst (IsRelation t u) c.in-OtherPlane.is c.relation_of.ensures))
    (added_cutting_planes c.in_ok-add_cutter-in-OtherPlane.ensures)

pub returns-in_ok-add_cutter-in-OtherPlane-clause-cutters : goal.returns-in_ok-add_cutter-in-OtherPlane-clause-cutters
returns-in_ok-add_cutter-in-OtherPlane-clause-cutters g c =
    added_cutters c.in_ok-add_cutter-in-OtherPlane.ensures c.args.target.now.tri tt c.requires.cutters

pub add_coplanar_unless_covering-requires-clause-plane : goal.add_coplanar_unless_covering-requires-clause-plane
add_coplanar_unless_covering-requires-clause-plane g c =
    subst (IsRelation c.args.target.now.tri c.args.other.now.tri) c.in-Coplanar.is c.relation_of.ensures

pub returns-then-is_flat-clause-owners : goal.returns-then-is_flat-clause-owners
returns-then-is_flat-clause-owners g c =
    λ b. misses (flat_misses c.args.target.now.tri c.args.other.now.tri b (sym c.is_flat.ensures ∙ c.if-is_flat.true))

pub returns-in-Apart-clause-owners : goal.returns-in-Apart-clause-owners
returns-in-Apart-clause-owners g c =
    let t = c.args.target.now.tri in let u = c.args.other.now.tri in
    λ b. misses (apart_misses t u b (subst (IsRelation t u) c.in-Apart.is c.relation_of.ensures))

pub returns-in_ok-add_cutter-in-OtherPlane-clause-owners : goal.returns-in_ok-add_cutter-in-OtherPlane-clause-owners
returns-in_ok-add_cutter-in-OtherPlane-clause-owners g c =
    let t = c.args.target.now.tri in let u = c.args.other.now.tri in
    other_plane_added t u c.args.is_before (subst (IsRelation t u) c.in-OtherPlane.is c.relation_of.ensures) c.in_ok-add_cutter-in-OtherPlane.ensures
