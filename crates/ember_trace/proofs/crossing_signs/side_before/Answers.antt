use Rattle.std.proofs.Common.{◌∙◌, ap}
use Rattle.ember_algebra.specs.Sign.{flip}
use Rattle.ember_ref.specs.References.{or_sign}
use Rattle.ember_trace.proofs.crossing_signs.side_before.Goals as goal

pub returns : goal.returns
returns c = c.or_sign.ensures ∙ ap (or_sign c.args.at) (c.flipped.ensures ∙ ap flip c.normal_sign.ensures)
