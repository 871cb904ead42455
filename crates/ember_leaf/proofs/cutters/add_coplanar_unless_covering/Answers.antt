use Rattle.std.proofs.Common.{subst}
use Rattle.ember_leaf.specs.Cutters.{IsAdded}
use Rattle.ember_leaf.specs.EarlierTriangles.{covers}
use Rattle.ember_leaf.proofs.EarlierTriangles.{coplanar_added, coplanar_lies, coplanar_cutting_planes}
use Rattle.ember_leaf.proofs.CoplanarFaces.{coplanar_turned}
use Rattle.ember_leaf.proofs.UnmetPlanes.{added_cutters}
use Rattle.ember_leaf.proofs.cutters.add_coplanar_unless_covering.Goals as goal

pub covers-requires-clause-plane : goal.covers-requires-clause-plane
covers-requires-clause-plane g c = coplanar_turned c.args.other.now.tri c.args.target.now.tri c.requires.plane

pub returns-then-covers-clause-owners : goal.returns-then-covers-clause-owners
returns-then-covers-clause-owners g c =
    λ b. covers c.if-is_before.true (coplanar_turned c.args.other.now.tri c.args.target.now.tri c.requires.plane) (c.covers.ensures c.if-covers.true)

pub returns-clause-cutters : goal.returns-clause-cutters
returns-clause-cutters g c =
    let t = c.args.target.now.tri in let u = c.args.other.now.tri in
    let a = subst (λ k. IsAdded u k c.args.list.now.items c.add_cutter.new.list.items) c.role_of.ensures c.in_ok-add_cutter.ensures in
    added_cutters a t (coplanar_lies c.args.is_before t u c.requires.plane) c.requires.cutters

pub returns-clause-cutting_planes : goal.returns-clause-cutting_planes
returns-clause-cutting_planes g c =
    let t = c.args.target.now.tri in let u = c.args.other.now.tri in
    let a = subst (λ k. IsAdded u k c.args.list.now.items c.add_cutter.new.list.items) c.role_of.ensures c.in_ok-add_cutter.ensures in
    λ e b. coplanar_cutting_planes t u c.args.is_before b c.requires.normal c.requires.plane a

pub returns-clause-owners : goal.returns-clause-owners
returns-clause-owners g c =
    let t = c.args.target.now.tri in let u = c.args.other.now.tri in
    let a = subst (λ k. IsAdded u k c.args.list.now.items c.add_cutter.new.list.items) c.role_of.ensures c.in_ok-add_cutter.ensures in
    coplanar_added t u c.args.is_before c.requires.plane a
