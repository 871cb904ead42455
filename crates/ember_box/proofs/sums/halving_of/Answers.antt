use Rattle.std.proofs.Common.{◌<◌, ◌≤◌, subst, ap, ◌∙◌, sym, None, Some, if◌then◌else◌, length, arith}
use Rattle.std.proofs.lemmas.Bool.{leb-true}
use Rattle.std.proofs.lemmas.List.{length-map}
use Rattle.ember_box.specs.Near.{listed, tri_at}
use Rattle.ember_box.specs.Halving.{halving_axis}
use Rattle.ember_box.proofs.Counting.{few_end}
use Rattle.ember_box.proofs.Halvable.{halvable_unless_leaf}
use Rattle.ember_box.proofs.sums.halving_of.Goals as goal

pub returns-then-is_few-clause-answer : goal.returns-then-is_few-clause-answer
returns-then-is_few-clause-answer c =
    let ts = listed c.args.tris.now c.args.list.now in let cell = c.args.c.now in
    let few : length c.args.list.now ≤ 16 = leb-true (length c.args.list.now) 16 (sym c.is_few.ensures ∙ c.if-is_few.true) in
    ap (λ b. if b then None else Some (halving_axis ts cell))
    (sym (few_end 0 ts cell (omega (arith, few, length-map c.args.list.now (λ j. tri_at c.args.tris.now j)))))

pub returns-else-is_leaf_by-clause-halvable : goal.returns-else-is_leaf_by-clause-halvable
returns-else-is_leaf_by-clause-halvable c =
    let ts = listed c.args.tris.now c.args.list.now in let cell = c.args.c.now in let sums = c.half_sums-sums.ensures in
    subst (λ k. 0 < cell.log k) (sym (c.least_axis.ensures 0 ts sums))
    (halvable_unless_leaf 0 ts cell (sym (c.is_leaf_by.ensures 0 ts sums) ∙ c.if-is_leaf_by.false))
