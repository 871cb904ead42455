use Rattle.std.proofs.Common.{◌∙◌, ap, Some}
use Rattle.mesh_number.proofs.Doublings.{short_lowered_below}
use Rattle.mesh_number.proofs.number.binary_sizes.short_lowered.Goals as goal

pub returns : goal.returns
returns c =
    ap Some c.short_shifted.ensures ∙ short_lowered_below c.args.up c.args.significand c.args.places c.args.factor c.requires.significand
