use Rattle.std.proofs.Common.{◌∙◌}
use Rattle.ember_text.proofs.OutlineFaces.{ring_outline_face}
use Rattle.ember_text.proofs.outline.face_of_outline.Goals as goal

pub returns : goal.returns
returns g c =
    let o = c.outline.ensures in
    ring_outline_face g.W.Width c.args.r.now c.support.result c.outline.result.0.now c.outline.result.1.now
    c.support.ensures.value o.outline o.paired o.three o.valid c.of.result c.support.ensures.valid
    (c.of.ensures ∙ c.in_ok-planes.ensures.items)
