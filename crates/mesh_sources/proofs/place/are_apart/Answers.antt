use Rattle.std.proofs.Common.{refl, ap, ◌∙◌, ⊎_elim, inr, Bool}
use Rattle.mesh_sources.specs.Places.{is_turned, spots_of, spots_turned}
use Rattle.mesh_sources.proofs.Placed.{clash, apart_by_boxes, apart_by_edges, apart_from_edges}
use Rattle.mesh_sources.proofs.place.are_apart.Goals as goal

pub returns-then-not-meets : goal.returns-then-not-meets
returns-then-not-meets c =
    let f = c.args.facet.now in let t = c.args.t.now in (
      λ h. apart_by_boxes f t (is_turned f.plane t) c.box_around.result c.args.around.now c.requires.tri
          c.box_around.ensures c.requires.around (λ m. clash c.if-not-meets.true (c.meets.ensures.1 m)),
      λ h. refl,
    )

pub returns-else-has_outer : goal.returns-else-has_outer
returns-else-has_outer c =
    let f = c.args.facet.now in let t = c.args.t.now in let b = is_turned f.plane t in
    let s = spots_of c.corners_of-other.result in
    let e = c.corners_of-other.ensures ∙ ap (λ (b : Bool). spots_turned b t) c.is_turned.ensures in (
      λ h. apart_from_edges f t b s e (inr (c.has_outer-else-has_outer.ensures.0 h)),
      λ h. ⊎_elim (λ o. clash c.if-has_outer.false (c.has_outer.ensures.1 o)) (λ o. c.has_outer-else-has_outer.ensures.1 o)
          (apart_by_edges f t b c.box_around.result c.args.around.now c.requires.tri c.box_around.ensures
          c.requires.around (c.meets.ensures.0 c.if-not-meets.false) s e h),
    )
