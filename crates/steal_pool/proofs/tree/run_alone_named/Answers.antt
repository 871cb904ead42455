use Rattle.std.proofs.Common.{[], ◌∷◌, ◌++◌, ap, ◌∙◌, refl, subst, length, map, arith}
use Rattle.ember_job.specs.Weights.{weigh}
use Rattle.ember_job.specs.declared.job.Job.{Job}
use Rattle.steal_pool.specs.Steps.{by_path}
use Rattle.steal_pool.specs.RunJournals.{Begins}
use Rattle.steal_pool.proofs.Trees.{begins_both}
use Rattle.steal_pool.proofs.tree.run_alone_named.Goals as goal

pub returns-clause-count : goal.returns-clause-count
returns-clause-count g c = (
  ap length c.of-2.ensures
      ∙ ap (λ vs. length (map (λ v. v.items) vs)) (c.in_ok-push.ensures.items
      ∙ ap (λ vs. vs ++ c.run_below.new.output.journal ∷ []) c.new-journals.ensures.items),
  refl,
)

pub returns-clause-journals : goal.returns-clause-journals
returns-clause-journals g c = record {
  first = c.run_below.new.output.journal.items;
  others = [];
  caller = [];
  is = ap (λ js. js ++ [] ∷ []) (c.of-2.ensures ∙ ap (map (λ v. v.items))
      (c.in_ok-push.ensures.items ∙ ap (λ vs. vs ++ c.run_below.new.output.journal ∷ []) c.new-journals.ensures.items));
  count = refl;
  begun = subst (λ (j : Job). Begins j.cell.path c.run_below.new.output.journal.items) c.in_ok-heap_job.ensures
      (λ h. begins_both c.in_ok-heap_job.heap_job.cell.path c.new-journal.result.items
      c.run_below.new.output.journal.items c.new-journal.ensures.items c.in_ok-run_below.ensures.stays h);
  lefts = tt;
  both = λ h. omega arith;
  last = refl;
}

pub returns-clause-sums : goal.returns-clause-sums
returns-clause-sums g c = λ h u. omega (
  arith,
  c.in_ok-run_below.ensures.sums h u,
  ap (g.K.BoxWeight.weight h u) c.in_ok-heap_job.ensures,
  ap (weigh h) c.new-journal.ensures.items,
  ap (weigh (by_path u)) c.new-parts.ensures.items,
  ap (weigh (by_path u)) c.of.ensures,
  ap (λ js. weigh (weigh h) (js ++ [] ∷ [])) (c.of-2.ensures
      ∙ ap (map (λ v. v.items)) (c.in_ok-push.ensures.items
      ∙ ap (λ vs. vs ++ c.run_below.new.output.journal ∷ []) c.new-journals.ensures.items)),
)
