use Rattle.std.proofs.Common.{◌∙◌, arith}
use Rattle.mesh_number.proofs.Doublings.{scaled_down, scaled_up}
use Rattle.mesh_number.proofs.number.binary_sizes.binary_multiple.Goals as goal

pub returns-then-power-scale-clause-value : goal.returns-then-power-scale-clause-value
returns-then-power-scale-clause-value c =
    c.lowered.ensures.value ∙ rw (c.from-scale.ensures, c.from-power.ensures)
    (scaled_down c.args.b.now.minus c.args.factor c.args.b.now.significand c.args.b.now.power c.args.b.now.scale (omega arith))

pub returns-else-power-scale-clause-value : goal.returns-else-power-scale-clause-value
returns-else-power-scale-clause-value c =
    c.raised.ensures.value c.args.b.now.minus ∙ rw (c.from-scale.ensures, c.from-power.ensures)
    (scaled_up c.args.b.now.minus c.args.factor c.args.b.now.significand c.args.b.now.power c.args.b.now.scale (omega arith))
