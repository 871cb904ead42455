use Rattle.std.proofs.Common.{subst, refl}
use Rattle.ember_poly.specs.Cuts.{IsReach}
use Rattle.ember_poly.specs.Drafts.{face_in}
use Rattle.ember_poly.specs.Passages.{AreSigns}
use Rattle.ember_poly.proofs.ListOutline.{lent_valid}
use Rattle.ember_poly.proofs.Classification.{straddles_by}
use Rattle.ember_poly.proofs.ClipResult.{reach_seen, clip_whole}
use Rattle.ember_poly.proofs.draft.Draft.clip.Goals as goal

pub find_passage-passage-requires-clause-edges : goal.find_passage-passage-requires-clause-edges
find_passage-passage-requires-clause-edges g c =
    let r = c.args.self.now in
    lent_valid g.W.Width.spot r.support r.planes.items r.boundary.edges.items r.boundary.corners.items r.boundary.plane_indices.items c.requires.ring

pub find_passage-passage-requires-clause-straddles : goal.find_passage-passage-requires-clause-straddles
find_passage-passage-requires-clause-straddles g c =
    let p = c.args.plane.now in let at = c.classify-classified in
    straddles_by g.W.Width.spot p c.args.self.now.boundary.corners.items at.result.reach
    (subst (λ ms. AreSigns g.W.Width.spot p ms at.result.reach) c.as_slice.ensures.value at.ensures.signs) c.in-Both.is

pub returns-in_ok-keep_part-in-Both-clause-part : goal.returns-in_ok-keep_part-in-Both-clause-part
returns-in_ok-keep_part-in-Both-clause-part g c =
    let r = c.args.self.now in let p = c.args.plane.now in let at = c.classify-classified in (
      subst (λ t. IsReach (face_in r) p t) c.in-Both.is
          (reach_seen g.W.Width.spot (face_in r) r.support p r.planes.items r.boundary.edges.items r.boundary.corners.items
          r.boundary.plane_indices.items at.result.reach refl c.requires.ring
          (subst (λ ms. AreSigns g.W.Width.spot p ms at.result.reach) c.as_slice.ensures.value at.ensures.signs)),
      c.in_ok-keep_part-in-Both.ensures.part,
    )

pub returns-in_default-clause-part : goal.returns-in_default-clause-part
returns-in_default-clause-part g c =
    let r = c.args.self.now in let p = c.args.plane.now in let at = c.classify-classified in
    clip_whole (face_in r) p at.result.reach (reach_seen g.W.Width.spot (face_in r) r.support p r.planes.items r.boundary.edges.items
    r.boundary.corners.items r.boundary.plane_indices.items at.result.reach refl c.requires.ring
    (subst (λ ms. AreSigns g.W.Width.spot p ms at.result.reach) c.as_slice.ensures.value at.ensures.signs)) c.in_default.not-Both
