use Rattle.std.proofs.Common.{◌-◌, ◌≤◌, subst, sym, arith}
use Rattle.std.proofs.lemmas.Nat.{one_shl}
use Rattle.ember_voxel.proofs.Ceilings.{few_cells}
use Rattle.ember_voxel.proofs.grid.cells_along.Goals as goal

pub returns-clause-bound : goal.returns-clause-bound
returns-clause-bound c = subst (λ n. n ≤ 4096) (sym (one_shl (12 - c.args.size) 64 (omega arith))) (few_cells c.args.size)
