use Rattle.std.proofs.Common.{◌∙◌, ap, sym, subst, not, ◌&&◌, ◌||◌}
use Rattle.ember_model.specs.Valid.{IsValidPlane}
use Rattle.ember_model.proofs.PlaneSizes.{support_sized, support_valid}
use Rattle.ember_pairs.specs.declared.meetings.Candidate.{Candidate}
use Rattle.ember_width.specs.Heights.{heights_of, all_in_front, all_behind, none_in_front, none_behind, all_on}
use Rattle.ember_pairs.proofs.PartedTriangles.{parted_by_one, parted_by_both, meeting_is_symmetric, heights_answer_moved}
use Rattle.ember_pairs.proofs.meetings.plane_heights.Goals as goal

pub small_heights-theirs-requires-clause-plane : goal.small_heights-theirs-requires-clause-plane
small_heights-theirs-requires-clause-plane c =
    subst (λ (f : Candidate). IsValidPlane f.support) (sym c.requires.facet) (support_valid (support_sized c.args.t.now c.requires.one))

pub small_heights-own-requires-clause-plane : goal.small_heights-own-requires-clause-plane
small_heights-own-requires-clause-plane c =
    subst (λ (f : Candidate). IsValidPlane f.support) (sym c.requires.other_facet) (support_valid (support_sized c.args.u.now c.requires.other))

pub returns-then-are_on_one_side-clause-parted : goal.returns-then-are_on_one_side-clause-parted
returns-then-are_on_one_side-clause-parted c = λ r m.
    parted_by_one c.args.t.now c.args.u.now (heights_answer_moved (λ h. all_in_front h || all_behind h) c.args.u.now
    (ap (λ (f : Candidate). f.support) c.requires.facet) c.small_heights-theirs.ensures.value c.are_on_one_side.ensures
    c.if-are_on_one_side.true) m

pub returns-then-are_on_one_side-2-clause-parted : goal.returns-then-are_on_one_side-2-clause-parted
returns-then-are_on_one_side-2-clause-parted c = λ r m.
    parted_by_one c.args.u.now c.args.t.now (heights_answer_moved (λ h. all_in_front h || all_behind h) c.args.t.now
    (ap (λ (f : Candidate). f.support) c.requires.other_facet) c.small_heights-own.ensures.value
    c.are_on_one_side-2.ensures c.if-are_on_one_side-2.true) (meeting_is_symmetric m)

pub returns-then-lean_to_one_side-2-clause-parted : goal.returns-then-lean_to_one_side-2-clause-parted
returns-then-lean_to_one_side-2-clause-parted c = λ r m.
    let own = heights_answer_moved (λ h. (none_in_front h || none_behind h) && not (all_on h)) c.args.t.now
    (ap (λ (f : Candidate). f.support) c.requires.other_facet) c.small_heights-own.ensures.value
    c.lean_to_one_side.ensures c.if-lean_to_one_side.true in
    let theirs = heights_answer_moved (λ h. (none_in_front h || none_behind h) && not (all_on h)) c.args.u.now
    (ap (λ (f : Candidate). f.support) c.requires.facet) c.small_heights-theirs.ensures.value
    c.lean_to_one_side-then-lean_to_one_side.ensures c.if-lean_to_one_side-2.true in
    parted_by_both c.args.t.now c.args.u.now own theirs m

pub returns-clause-value : goal.returns-clause-value
returns-clause-value c =
    let theirs = c.small_heights-theirs.ensures in let own = c.small_heights-own.ensures in
    record {
      theirs = theirs.value ∙ (λ i. heights_of (c.requires.facet i).support c.args.u.now);
      own =
          own.value ∙ (λ i. heights_of (c.requires.other_facet i).support c.args.t.now);
      theirs_small =
          theirs.small;
      own_small = own.small;
    }
