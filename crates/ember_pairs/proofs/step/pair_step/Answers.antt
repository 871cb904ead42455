use Rattle.std.proofs.Common.{ℕ, ◌<◌, List, All, Option, IfSome, sym, ap, ◌∙◌, subst, length}
use Rattle.ember_model.specs.declared.tri.Tri.{Tri}
use Rattle.ember_box.specs.declared.halved_box.HalvedBox.{HalvedBox}
use Rattle.ember_box.specs.Near.{near_indices}
use Rattle.ember_box.specs.Halved.{axis_of, AreNearLists}
use Rattle.ember_pairs.specs.Pairs.{AreMeetingPairs}
use Rattle.ember_pairs.specs.Works.{no_windings}
use Rattle.ember_pairs.proofs.Steps.{list_in_range, answers_passed, answers_leaf, answers_halves}
use Rattle.ember_pairs.proofs.step.pair_step.Goals as goal

pub returns-then-list-lt2 : goal.returns-then-list-lt2
returns-then-list-lt2 c =
    answers_passed c.args.s.now.tris c.args.job.now c.items-list.result.now c.items-list.ensures c.if-list-lt2.true

pub halve_box-requires : goal.halve_box-requires
halve_box-requires c =
    list_in_range c.args.s.now.tris c.args.job.now c.items-list.result.now c.requires c.items-list.ensures

pub meeting_pairs-requires-clause-places : goal.meeting_pairs-requires-clause-places
meeting_pairs-requires-clause-places c =
    subst (λ (ts : List Tri). All (λ i. i < length ts) c.items-list.result.now) (sym c.items.ensures)
    (list_in_range c.args.s.now.tris c.args.job.now c.items-list.result.now c.requires c.items-list.ensures)

pub returns-in_ok-meeting_pairs-in-None : goal.returns-in_ok-meeting_pairs-in-None
returns-in_ok-meeting_pairs-in-None c =
    let job = c.args.job.now in let ps = c.in_ok-meeting_pairs-in-None.field-0 in
    let here = subst (λ (is : List ℕ). AreMeetingPairs c.items.result.now is ps) c.items-list.ensures c.in_ok-meeting_pairs-in-None.ensures in
    let answer = ap axis_of (sym c.in-None.is) ∙ c.in_ok-halve_box.ensures.answer in (
      answers_leaf c.args.s.now.tris job c.items-list.result.now c.requires c.items-list.ensures c.if-list-lt2.false
          answer,
      subst (λ (ts : List Tri). AreMeetingPairs ts job.list ps) c.items.ensures here,
    )

pub returns-in-Some : goal.returns-in-Some
returns-in-Some c =
    let ts = c.args.s.now.tris in let cell = c.args.job.now.cell in let list = c.items-list.result.now in let h = c.in-Some.field-0 in
    let answer = ap axis_of (sym c.in-Some.is) ∙ c.in_ok-halve_box.ensures.answer in
    let may : 0 < cell.log h.axis = subst (λ (o : Option HalvedBox). IfSome o (λ v. 0 < cell.log v.axis)) c.in-Some.is c.in_ok-halve_box.ensures.halvable in
    let lists : AreNearLists ts cell h.axis list h.left.items h.right.items =
    subst (λ (o : Option HalvedBox). IfSome o (λ v. AreNearLists ts cell v.axis list v.left.items v.right.items))
    c.in-Some.is c.in_ok-halve_box.ensures.lists in
    let left = c.job_of.ensures ∙ (λ i. record {
      cell = c.halves-left.result.0;
      list =
          (lists.is_left ∙ ap (λ d. near_indices ts d list) (sym c.halves-left.ensures.0)) i;
      at = no_windings;
    }) in
    let right = c.job_of-in-Some.ensures ∙ (λ i. record {
      cell = c.halves-left.result.1;
      list =
          (lists.is_right ∙ ap (λ d. near_indices ts d list) (sym c.halves-left.ensures.1)) i;
      at = no_windings;
    }) in
    answers_halves ts c.args.job.now list h.axis c.halves-left.result.0 c.halves-left.result.1 c.job_of.result
    c.job_of-in-Some.result c.requires c.items-list.ensures c.if-list-lt2.false answer may c.halves-left.ensures.0
    c.halves-left.ensures.1 left right
