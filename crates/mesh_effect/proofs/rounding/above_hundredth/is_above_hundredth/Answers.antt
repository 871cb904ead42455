use Rattle.std.proofs.Common.{arith}
use Rattle.mesh_effect.proofs.Places.{tens_grow}
use Rattle.mesh_effect.proofs.rounding.above_hundredth.is_above_hundredth.Goals as goal

pub pow-requires : goal.pow-requires
pow-requires c = omega (arith, tens_grow c.args.moved.now.places 38 c.args.moved.now.few)
