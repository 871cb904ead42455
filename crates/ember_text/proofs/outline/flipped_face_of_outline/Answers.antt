use Rattle.std.proofs.Common.{arith, ◌∙◌, subst, sym}
use Rattle.std.proofs.lemmas.Grind.{common_steps}
use Rattle.ember_text.proofs.OutlineFaces.{flipped_outline_face}
use Rattle.ember_text.proofs.outline.flipped_face_of_outline.Goals as goal

pub opposite_plane-requires : goal.opposite_plane-requires
opposite_plane-requires g c = g.met.W.Width.is_broad c.support.result c.support.ensures.valid

pub returns : goal.returns
returns g c =
    let o = c.outline.ensures in
    flipped_outline_face g.W.Width c.args.r.now c.support.result c.outline.result.0.now c.outline.result.1.now c.support.ensures.value
    o.outline o.paired o.three o.valid c.opposite_plane.result c.of.result c.opposite_plane.ensures.value
    (subst g.W.Width.IsPlane (sym c.opposite_plane.ensures.value) (g.met.W.Width.turns_round c.support.result c.support.ensures.valid))
    (c.of.ensures ∙ grind (arith, common_steps))
