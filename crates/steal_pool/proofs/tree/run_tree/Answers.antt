use Rattle.std.proofs.Common.{ap, ◌∙◌, sym, length}
use Rattle.ember_box.specs.Boxes.{Cell}
use Rattle.ember_job.specs.Visited.{root_visited}
use Rattle.steal_pool.proofs.Trees.{runs_visited, keep_rules, are_parts, journals_are_workers_and_caller, caller_is}
use Rattle.steal_pool.proofs.tree.run_tree.Goals as goal

pub run_named-requires-clause-call : goal.run_named-requires-clause-call
run_named-requires-clause-call g c κs within =
    let w = c.args.step.now.work in
    runs_visited g.W.Work.valid g.W.Work.shape g.W.Work.item _ _ w c.args.step.now.call c.args.root
    (λ j l r v is. (g.W.Work.halves_valid w j l r v is, g.W.Work.halves_split w j l r v is)) c.requires.root
    c.requires.step

pub run_named-requires-clause-root : goal.run_named-requires-clause-root
run_named-requires-clause-root g c κs within = root_visited

pub returns-clause-parts : goal.returns-clause-parts
returns-clause-parts g c = are_parts (g.W.Work.shape c.args.step.now.work) c.args.root c.in_ok-harvest.harvest.parts
    c.in_ok-harvest.harvest.journals (g.W.Work.item c.args.step.now.work) c.in_ok-harvest.ensures.sums
    c.in_ok-harvest.ensures.parts

pub returns-clause-journals : goal.returns-clause-journals
returns-clause-journals g c =
    keep_rules (g.W.Work.shape c.args.step.now.work) c.args.root c.in_ok-harvest.harvest.parts c.in_ok-harvest.harvest.journals c.args.workers
    c.in_ok-harvest.harvest.left (ap (λ (x : Cell). x.path) c.requires.cell) c.in_ok-harvest.ensures.sums c.in_ok-harvest.ensures.journals

pub returns-clause-count : goal.returns-clause-count
returns-clause-count g c = journals_are_workers_and_caller c.args.root.cell.path c.args.workers
    c.in_ok-harvest.harvest.journals c.in_ok-harvest.harvest.left c.in_ok-harvest.ensures.journals

pub returns-clause-left : goal.returns-clause-left
returns-clause-left g c = c.in_ok-harvest.ensures.journals.last
    ∙ ap length (sym (caller_is c.args.root.cell.path c.args.workers c.in_ok-harvest.harvest.journals
    c.in_ok-harvest.harvest.left c.in_ok-harvest.ensures.journals))
