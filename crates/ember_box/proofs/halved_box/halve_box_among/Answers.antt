use Rattle.std.proofs.Common.{List, ◌<◌, ◌≤◌, subst, ap, ◌∙◌, sym, None, Some, if◌then◌else◌, length, arith}
use Rattle.std.proofs.lemmas.Bool.{leb-true}
use Rattle.std.proofs.lemmas.List.{length-map}
use Rattle.ember_box.specs.Near.{listed, tri_at}
use Rattle.ember_box.specs.Halving.{halving_axis_on}
use Rattle.ember_box.specs.declared.near_parts.NearParts.{NearParts}
use Rattle.ember_box.specs.NearParts.{AreNearPartsAt}
use Rattle.ember_box.proofs.Halvable.{halvable_unless_leaf}
use Rattle.ember_box.proofs.Counting.{few_end}
use Rattle.ember_box.proofs.halved_box.halve_box_among.Goals as goal

pub returns-then-is_few-clause-answer : goal.returns-then-is_few-clause-answer
returns-then-is_few-clause-answer g c =
    let ts = listed c.args.tris.now c.args.list.now in let cell = c.args.c.now in
    let few : length c.args.list.now ≤ 16 = leb-true (length c.args.list.now) 16 (sym c.is_few.ensures ∙ c.if-is_few.true) in
    ap (λ b. if b then None else Some (halving_axis_on g.W.Width.scale ts cell))
    (sym (few_end g.W.Width.scale ts cell (omega (arith, few, length-map c.args.list.now (λ j. tri_at c.args.tris.now j)))))

pub returns-clause-halvable : goal.returns-clause-halvable
returns-clause-halvable g c =
    let ts = listed c.args.tris.now c.args.list.now in let cell = c.args.c.now in
    subst (λ k. 0 < cell.log k) (sym (c.least_axis-axis.ensures g.W.Width.scale ts c.in_ok-noted.ensures.sums))
    (halvable_unless_leaf g.W.Width.scale ts cell (sym (c.is_leaf_by.ensures g.W.Width.scale ts c.in_ok-noted.ensures.sums) ∙ c.if-is_leaf_by.false))

pub returns-clause-lists : goal.returns-clause-lists
returns-clause-lists g c =
    let ts = listed c.args.tris.now c.args.list.now in let cell = c.args.c.now in let k = c.least_axis-axis.result in
    let may : 0 < cell.log k = subst (λ k. 0 < cell.log k)
    (sym (c.least_axis-axis.ensures g.W.Width.scale ts c.in_ok-noted.ensures.sums))
    (halvable_unless_leaf g.W.Width.scale ts cell (sym (c.is_leaf_by.ensures g.W.Width.scale ts c.in_ok-noted.ensures.sums) ∙ c.if-is_leaf_by.false))
    in
    c.in_ok-left.ensures g.W.Width.scale c.args.tris.now cell may
    (subst (λ (ps : List NearParts). AreNearPartsAt g.W.Width.scale c.args.tris.now cell c.args.list.now ps)
    (sym c.deref.ensures.value) c.in_ok-noted.ensures.parts)
