use Rattle.std.proofs.Common.{refl, subst}
use Rattle.steal_pool.specs.Steps.{OutcomeFits}
use Rattle.steal_pool.proofs.EndedBoxes.{leaf_ends, leaf_parts, halves_end, halves_fit}
use Rattle.steal_pool.proofs.alone.run_step.Goals as goal

pub returns-in_ok-push-in-Leaf-2-clause-parts : goal.returns-in_ok-push-in-Leaf-2-clause-parts
returns-in_ok-push-in-Leaf-2-clause-parts g c =
    leaf_parts g.K.VisitedJobs.is_visited g.K.BoxWeight.answers g.K.BoxWeight.weight c.args.job.now
    c.args.output.now.parts.items c.push-in-Leaf.new.self.items c.in-Leaf.item c.path-path.result c.path-path.ensures
    c.in_ok-push-in-Leaf-2.ensures.items c.requires.job
    (subst (OutcomeFits g.K.VisitedJobs.is_visited g.K.BoxWeight.answers g.K.BoxWeight.weight c.args.job.now)
    c.in-Leaf.is c.in_ok-item.ensures) c.requires.parts

pub returns-in_ok-push-in-Leaf-2-clause-ends : goal.returns-in_ok-push-in-Leaf-2-clause-ends
returns-in_ok-push-in-Leaf-2-clause-ends g c =
    leaf_ends g.K.VisitedJobs.is_visited g.K.BoxWeight.answers g.K.BoxWeight.weight c.args.job.now c.args.output.now _
    c.in-Leaf.item c.path-path.result c.path-path.ensures c.in_ok-push-in-Leaf.ensures.items
    c.in_ok-push-in-Leaf-2.ensures.items
    (subst (OutcomeFits g.K.VisitedJobs.is_visited g.K.BoxWeight.answers g.K.BoxWeight.weight c.args.job.now) c.in-Leaf.is c.in_ok-item.ensures)

pub returns-in_ok-right-in-Halves-clause-halves : goal.returns-in_ok-right-in-Halves-clause-halves
returns-in_ok-right-in-Halves-clause-halves g c =
    halves_fit g.K.VisitedJobs.is_visited g.K.BoxWeight.answers g.K.BoxWeight.weight c.args.job.now c.in-Halves.left
    c.in-Halves.right (record { left = c.in_ok-left-in-Halves.left; right = c.in_ok-right-in-Halves.right })
    c.in_ok-left-in-Halves.ensures c.in_ok-right-in-Halves.ensures
    (subst (OutcomeFits g.K.VisitedJobs.is_visited g.K.BoxWeight.answers g.K.BoxWeight.weight c.args.job.now) c.in-Halves.is c.in_ok-item.ensures)

pub returns-in_ok-right-in-Halves-clause-ends : goal.returns-in_ok-right-in-Halves-clause-ends
returns-in_ok-right-in-Halves-clause-ends g c =
    halves_end g.K.VisitedJobs.is_visited g.K.BoxWeight.answers g.K.BoxWeight.weight c.args.job.now c.in-Halves.left
    c.in-Halves.right (record { left = c.in_ok-left-in-Halves.left; right = c.in_ok-right-in-Halves.right })
    c.args.output.now _ c.path-path.result c.path-path.ensures c.in_ok-left-in-Halves.ensures
    c.in_ok-right-in-Halves.ensures c.in_ok-push-in-Halves.ensures.items refl
    (subst (OutcomeFits g.K.VisitedJobs.is_visited g.K.BoxWeight.answers g.K.BoxWeight.weight c.args.job.now) c.in-Halves.is c.in_ok-item.ensures)
