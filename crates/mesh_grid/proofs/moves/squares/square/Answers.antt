use Rattle.std.proofs.Common.{◌*◌, ◌^◌, ◌≤◌, mul-le-mul, arith}
use Rattle.mesh_grid.proofs.moves.squares.square.Goals as goal

pub overflow_mul-result : goal.overflow_mul-result
overflow_mul-result c = let most : c.args.n * c.args.n ≤ 2 ^ 61 * 2 ^ 61 = mul-le-mul c.requires c.requires in omega (arith, most)

pub returns-clause-small : goal.returns-clause-small
returns-clause-small c = let most : c.args.n * c.args.n ≤ 2 ^ 61 * 2 ^ 61 = mul-le-mul c.requires c.requires in omega (arith, most)
