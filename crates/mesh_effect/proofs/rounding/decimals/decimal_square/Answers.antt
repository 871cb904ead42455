use Rattle.std.proofs.Common.{rules, arith}
use Rattle.std.proofs.lemmas.Grind.{common_steps}
use Rattle.ember_model.specs.declared.point.Axis.TheVariants.{Y, Z}
use Rattle.mesh_written.specs.Decimals.{IsFarPoint}
use Rattle.mesh_effect.proofs.rounding.decimals.decimal_square.Goals as goal

pub returns-in_err-y : goal.returns-in_err-y
returns-in_err-y c =
    let far : IsFarPoint c.args.step.now c.args.offset.now c.args.corner.now = record { axis = Y; long = c.in_err-y.ensures.ticks } in
    first_of (search rules, grind (arith, common_steps))

pub returns-in_err-z : goal.returns-in_err-z
returns-in_err-z c =
    let far : IsFarPoint c.args.step.now c.args.offset.now c.args.corner.now = record { axis = Z; long = c.in_err-z.ensures.ticks } in
    first_of (search rules, grind (arith, common_steps))
