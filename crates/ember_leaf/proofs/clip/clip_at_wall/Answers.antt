use Rattle.std.proofs.Common.{sym, subst, [], ◌∷◌}
use Rattle.ember_box.specs.Regions.{AreLeftByWall}
use Rattle.ember_poly.specs.Cuts.{IsClip}
use Rattle.ember_poly.specs.Drafts.{face_in}
use Rattle.ember_leaf.specs.Walls.{wall_of}
use Rattle.ember_leaf.proofs.WallClips.{wall_below, wall_above, wall_on, wall_cut}
use Rattle.ember_leaf.proofs.clip.clip_at_wall.Goals as goal

pub returns-in-Below-clause-left : goal.returns-in-Below-clause-left
returns-in-Below-clause-left g c =
    let wall = wall_of c.args.wall.now in let f = face_in c.args.draft.now in let p = c.plane_of in let g = face_in c.clip.new.self in
    let h = subst (λ s. IsClip f p.result s g) c.in-Below.is c.in_ok-side.ensures.part in
    subst (λ g. AreLeftByWall wall f (g ∷ [])) (sym h.1) (wall_below wall f p.result p.ensures h.0)

pub returns-in-Above-clause-left : goal.returns-in-Above-clause-left
returns-in-Above-clause-left g c =
    let f = face_in c.args.draft.now in let p = c.plane_of in let g = face_in c.clip.new.self in
    wall_above (wall_of c.args.wall.now) f p.result p.ensures (subst (λ s. IsClip f p.result s g) c.in-Above.is c.in_ok-side.ensures.part).0

pub returns-in-On-clause-left : goal.returns-in-On-clause-left
returns-in-On-clause-left g c =
    let f = face_in c.args.draft.now in let p = c.plane_of in let g = face_in c.clip.new.self in
    let h = subst (λ s. IsClip f p.result s g) c.in-On.is c.in_ok-side.ensures.part in
    wall_on (wall_of c.args.wall.now) f p.result p.ensures h.1 h.0

pub returns-in-Both-clause-left : goal.returns-in-Both-clause-left
returns-in-Both-clause-left g c =
    let f = face_in c.args.draft.now in let p = c.plane_of in let g = face_in c.clip.new.self in
    let h = subst (λ s. IsClip f p.result s g) c.in-Both.is c.in_ok-side.ensures.part in
    wall_cut (wall_of c.args.wall.now) f p.result p.ensures h.1 h.0

pub clip-requires-clause-plane : goal.clip-requires-clause-plane
clip-requires-clause-plane g c = subst g.W.Width.IsPlane (sym c.plane_of.ensures) c.requires.wall
