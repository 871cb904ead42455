use Rattle.std.proofs.Common.{◌≤◌, ◌^◌, lit<, arith}
use Rattle.std.proofs.Math.Nat.{pow-le-pow_right}
use Rattle.ember_box.proofs.cell.power_of_two.Goals as goal

pub returns-clause-bound : goal.returns-clause-bound
returns-clause-bound c =
    let few : 2 ^ c.args.log ≤ 4096 = pow-le-pow_right {n = 2} (lit< tt) c.requires in omega (arith, few)
