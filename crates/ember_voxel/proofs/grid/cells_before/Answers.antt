use Rattle.std.proofs.Common.{◌+◌, ◌-◌, ◌/◌, ◌^◌, ◌≤◌, nat_le, nat_lt, subst, sym, ap, ◌∙◌, arith}
use Rattle.std.proofs.lemmas.Nat.{one_shl, pow_pos}
use Rattle.ember_voxel.proofs.Ceilings.{rounded_within, below_rounded, from_rounded, all_cells}
use Rattle.ember_voxel.proofs.grid.cells_before.Goals as goal

pub returns-clause-bound : goal.returns-clause-bound
returns-clause-bound c =
    let d = 2 ^ c.args.size in let x = c.args.x in
    subst (λ s. (x + (s - 1)) / d ≤ 2 ^ (12 - c.args.size)) (sym (one_shl c.args.size 64 (omega arith)))
    (rounded_within d (pow_pos c.args.size) x (2 ^ (12 - c.args.size))
    (omega (arith, c.requires.x, all_cells c.args.size c.requires.size)))

pub returns-clause-below : goal.returns-clause-below
returns-clause-below c = λ i.
    let d = 2 ^ c.args.size in let x = c.args.x in
    ap (λ s. nat_lt i ((x + (s - 1)) / d)) (one_shl c.args.size 64 (omega arith)) ∙ below_rounded d (pow_pos c.args.size) x i

pub returns-clause-from : goal.returns-clause-from
returns-clause-from c = λ i.
    let d = 2 ^ c.args.size in let x = c.args.x in
    ap (λ s. nat_le ((x + (s - 1)) / d) i) (one_shl c.args.size 64 (omega arith)) ∙ from_rounded d (pow_pos c.args.size) x i
