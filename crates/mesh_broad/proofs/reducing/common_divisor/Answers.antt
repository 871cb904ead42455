use Rattle.mesh_broad.proofs.LowestRemainders.{common_divisor_is}
use Rattle.mesh_broad.proofs.reducing.common_divisor.Goals as goal

pub returns : goal.returns
returns c = common_divisor_is c.args.r.now _ _ _ c.long_gcd.ensures c.long_gcd-2.ensures c.long_gcd-3.ensures
