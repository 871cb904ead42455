use Rattle.std.proofs.Common.{pos, replicate, ◌<◌, length, All, subst, sym, ◌∙◌, ap}
use Rattle.std.proofs.lemmas.List.Elements.{All-weaker}
use Rattle.ember_model.specs.Limits.{broad_limit}
use Rattle.ember_model.specs.Within.{IsTriWithin}
use Rattle.ember_model.proofs.PlaneSizes.{tri_within}
use Rattle.ember_box.specs.Boxes.{in_steps}
use Rattle.ember_box.specs.Near.{near_indices, all_indices}
use Rattle.ember_box.proofs.Lists.{all_indices_below}
use Rattle.ember_visit.specs.Jobs.{job_of, root_job_on, IsJobOn}
use Rattle.ember_visit.proofs.Laws.{root_is_job_on}
use Rattle.ember_visit.proofs.start.root_job_among.Goals as goal

pub near_list_among-requires-clause-within : goal.near_list_among-requires-clause-within
near_list_among-requires-clause-within g c =
    All-weaker (IsTriWithin g.W.Width.corner) (IsTriWithin broad_limit) (λ t. tri_within g.met.W.Width.at_most_broad) c.args.tris.now c.requires.within

pub near_list_among-requires-clause-places : goal.near_list_among-requires-clause-places
near_list_among-requires-clause-places g c =
    subst (All (λ i. i < length c.args.tris.now)) (sym (c.deref.ensures.value ∙ c.in_ok-all.ensures)) (all_indices_below c.args.tris.now)

pub returns-clause-value : goal.returns-clause-value
returns-clause-value g c =
    let ts = c.args.tris.now in let s = g.W.Width.scale in let box = c.root-root.ensures in
    let all = c.deref.ensures.value ∙ c.in_ok-all.ensures in
    let near = c.of.ensures ∙ c.in_ok-list.ensures ∙ (λ i. near_indices ts (in_steps s (box i)) (all i)) in
    λ i. job_of (box i) (near i) (replicate 64 (pos 0))

pub returns-clause-valid : goal.returns-clause-valid
unfolding returns-clause-value
returns-clause-valid g c =
    let w = g.met.W.Width in
    subst (IsJobOn g.W.Width.scale g.W.Width.fine c.args.tris.now) (sym (returns-clause-value g c))
    (root_is_job_on g.W.Width.scale g.W.Width.corner g.W.Width.fine g.W.Width.UNIT c.args.tris.now w.ends w.tells_apart w.unit_is w.holds c.requires)
