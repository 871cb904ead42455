use mir.Syntax.{w64}
use lib.Signed.{le_z, rem_z}
use Rattle.std.proofs.Common.{rules, ◌≡◌, sym, not, nat_eq, pos, to_z, of_z}
use Rattle.ember_expr.specs.Formula.{formula_of}
use Rattle.ember_expr.specs.Truth.{truth}
use Rattle.ember_expr.proofs.truth.+truth_of.Goals as goal

pub returns-in-Mesh : goal.returns-in-Mesh
returns-in-Mesh t c =
    let inside : truth c.args.v.now.counts (formula_of c.args.tree.now) ≡ le_z (pos 1) (to_z w64 (of_z w64 c.count.result)) = search rules in
    sym inside

pub returns-in-Odd : goal.returns-in-Odd
returns-in-Odd t c =
    let odd : truth c.args.v.now.counts (formula_of c.args.tree.now) ≡ not
    (nat_eq (of_z w64 (rem_z (to_z w64 (of_z w64 c.sum_value.result)) (pos 2))) 0) = search rules in
    sym odd
