use Rattle.std.proofs.Common.{map, sym, subst, ap, ◌∙◌}
use Rattle.std.proofs.lemmas.Bool.{false≢true}
use Rattle.ember_poly.specs.Rings.{IsConvexRing}
use Rattle.mesh_solid.specs.Outline.Sides.{side_at}
use Rattle.mesh_solid.proofs.Signs.{off_found, sides_are}
use Rattle.mesh_solid.proofs.outline.outline.check_outline.Goals as goal

pub returns-then-not-are_on_face-clause-fault : goal.returns-then-not-are_on_face-clause-fault
returns-then-not-are_on_face-clause-fault c =
    off_found c.args.face.now.support c.args.face.now.edges.items (sym c.are_on_face.ensures ∙ c.if-not-are_on_face.true)

pub returns-then-branch-clause-round : goal.returns-then-branch-clause-round
returns-then-branch-clause-round c =
    let face = c.args.face.now in
    let same = ap (map side_at) c.deref-2.ensures.value ∙ sides_are face.edges.items in
    subst (IsConvexRing face.support) same (c.in_ok-is_round.ensures.0 c.if-branch.true)

pub returns-else-branch-clause-fault : goal.returns-else-branch-clause-fault
returns-else-branch-clause-fault c = λ round.
    let face = c.args.face.now in
    let same = ap (map side_at) c.deref-2.ensures.value ∙ sides_are face.edges.items in
    false≢true (sym c.if-branch.false ∙ c.in_ok-is_round.ensures.1 (subst (IsConvexRing face.support) (sym same) round))
