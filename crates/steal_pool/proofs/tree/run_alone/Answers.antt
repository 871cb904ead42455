use Rattle.std.proofs.Common.{ap, [], ◌∷◌, ◌++◌}
use Rattle.ember_box.specs.Boxes.{Cell}
use Rattle.ember_job.specs.Visited.{root_visited}
use Rattle.steal_pool.proofs.Trees.{runs_visited, keep_rules, are_parts}
use Rattle.steal_pool.proofs.tree.run_alone.Goals as goal

pub run_alone_named-requires-clause-call : goal.run_alone_named-requires-clause-call
run_alone_named-requires-clause-call g c =
    let w = c.args.step.now.work in
    runs_visited g.W.Work.valid g.W.Work.shape g.W.Work.item _ _ w c.args.step.now.call c.args.root
    (λ j l r v is. (g.W.Work.halves_valid w j l r v is, g.W.Work.halves_split w j l r v is)) c.requires.root
    c.requires.step

pub run_alone_named-requires-clause-root : goal.run_alone_named-requires-clause-root
run_alone_named-requires-clause-root g c = root_visited

pub returns-clause-parts : goal.returns-clause-parts
returns-clause-parts g c = are_parts (g.W.Work.shape c.args.step.now.work) c.args.root c.in_ok-harvest.harvest.parts
    (c.in_ok-harvest.harvest.journals ++ [] ∷ []) (g.W.Work.item c.args.step.now.work) c.in_ok-harvest.ensures.sums
    c.in_ok-harvest.ensures.parts

pub returns-clause-journals : goal.returns-clause-journals
returns-clause-journals g c = keep_rules (g.W.Work.shape c.args.step.now.work) c.args.root c.in_ok-harvest.harvest.parts
    (c.in_ok-harvest.harvest.journals ++ [] ∷ []) 1 0 (ap (λ (x : Cell). x.path) c.requires.cell)
    c.in_ok-harvest.ensures.sums c.in_ok-harvest.ensures.journals
