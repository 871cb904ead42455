use Rattle.std.proofs.Common.{sym, subst, ap, ◌≡◌, true, false}
use Rattle.ember_model.specs.declared.face.Face.{Face}
use Rattle.ember_model.specs.Faces.{Meets, face_of}
use Rattle.ember_model.specs.ClearTest.{face_with}
use Rattle.ember_model.proofs.PlaneSizes.{tri_within}
use Rattle.ember_poly.proofs.OneSide.{one_side_meets_not}
use Rattle.ember_width.proofs.TakenPlanes.{support_taken, edges_taken, tri_in_root}
use Rattle.ember_poly.proofs.meeting.meets.Goals as goal

pub returns : goal.returns
unfolding face_of
returns g c =
    let f = c.args.r.now in let n = c.support_of-support.ensures.value in let es = c.main_edges.ensures.value in
    let e : face_with c.support_of-support.result c.main_edges.result ≡ face_of c.args.t.now = λ i. face_with (n i) (es i) in
    (λ t. subst (λ g. Meets f g) e (c.meets_face.ensures.0 t), λ m. c.meets_face.ensures.1 (subst (λ g. Meets f g) (sym e) m))

differ : false ≡ true → ⊥
differ e = cc

pub returns-then-is_on_one_side : goal.returns-then-is_on_one_side
returns-then-is_on_one_side g c =
    let f = c.args.r.now in (
      λ e. absurd (differ e),
      λ m. absurd (one_side_meets_not f c.r.inside.support c.args.t.now
          (ap (λ (g : Face). g.support) (sym c.r.view_is)) c.requires.normal
          (c.is_on_one_side.ensures c.if-is_on_one_side.true) m),
    )

pub is_on_one_side-requires-clause-plane : goal.is_on_one_side-requires-clause-plane
is_on_one_side-requires-clause-plane g c = g.met.W.Width.is_broad c.r.inside.support c.r.invariant.support

pub is_on_one_side-requires-clause-tri : goal.is_on_one_side-requires-clause-tri
is_on_one_side-requires-clause-tri g c = tri_in_root g.met.W.Width.at_most_broad c.requires.tri

pub support_of-support-requires : goal.support_of-support-requires
support_of-support-requires g c = tri_within g.met.W.Width.at_most_broad c.requires.tri

pub main_edges-requires-clause-tri : goal.main_edges-requires-clause-tri
main_edges-requires-clause-tri g c = tri_within g.met.W.Width.at_most_broad c.requires.tri

pub meets_face-requires-clause-support : goal.meets_face-requires-clause-support
meets_face-requires-clause-support g c =
    support_taken g.met.W.Width.takes (c.support_of-support.ensures.within g.W.Width.corner c.requires.tri)

pub meets_face-requires-clause-edges : goal.meets_face-requires-clause-edges
meets_face-requires-clause-edges g c =
    edges_taken g.met.W.Width.takes _ (c.main_edges.ensures.within g.W.Width.corner c.requires.tri)
