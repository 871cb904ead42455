use Rattle.std.proofs.Common.{◌<◌, ◌∙◌, ℕ, List, All, sym, ap, subst, length}
use Rattle.std.specs.List.{range_with_len}
use Rattle.ember_model.specs.declared.tri.Tri.{Tri}
use Rattle.ember_box.specs.Near.{near_indices}
use Rattle.ember_box.proofs.Lists.{all_indices_below}
use Rattle.ember_pairs.specs.Works.{no_windings}
use Rattle.ember_pairs.proofs.step.root_job.Goals as goal

pub near_list-requires : goal.near_list-requires
near_list-requires c =
    let ts = c.args.s.now.tris in
    let e = c.deref.ensures.value ∙ c.in_ok-all.ensures ∙ ap (λ (us : List Tri). range_with_len 0 (length us)) c.items.ensures in
    subst (λ (is : List ℕ). All (λ i. i < length ts) is) (sym e) (all_indices_below ts)

pub returns : goal.returns
returns c =
    let ts = c.args.s.now.tris in
    let all = c.deref.ensures.value ∙ c.in_ok-all.ensures ∙ ap (λ (us : List Tri). range_with_len 0 (length us)) c.items.ensures in
    let near = c.in_ok-near.ensures ∙ (λ i. near_indices ts (c.root-root.ensures i) (all i)) in
    c.job_of.ensures ∙ (λ i. record { cell = c.root-root.ensures i; list = near i; at = no_windings })
