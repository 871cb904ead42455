use Rattle.ember_job.specs.Visited.{IsVisited}
use Rattle.steal_pool.specs.Journals.{AnswersLeaf, tree_weight}
use Rattle.steal_pool.proofs.tree.run_alone.Given as goal

abbrev pub ghosts-run_alone_named-K-VisitedJobs : goal.ghosts-run_alone_named-K-VisitedJobs
ghosts-run_alone_named-K-VisitedJobs g a = record { is_visited = IsVisited (g.W.Work.shape a._work.now) a.root }

abbrev pub ghosts-run_alone_named-K-BoxWeight : goal.ghosts-run_alone_named-K-BoxWeight
ghosts-run_alone_named-K-BoxWeight g a = record {
  weight = tree_weight (g.W.Work.shape a._work.now);
  answers =
      AnswersLeaf (g.W.Work.shape a._work.now) (g.W.Work.item a._work.now);
}
