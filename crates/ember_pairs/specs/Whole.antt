-- The items of the leaves of a run
use Rattle.std.specs.Prelude.{List}
use Rattle.ember_model.specs.declared.tri.Tri.{Tri}
use Rattle.ember_box.specs.Boxes.{root}
use Rattle.ember_job.specs.declared.job.Job.{Job}
use Rattle.ember_job.specs.Visited.{leaves}
use Rattle.ember_job.specs.Items.{EachAnswers}
use Rattle.ember_pairs.specs.declared.pair.Pair.{Pair}
use Rattle.ember_pairs.specs.Pairs.{AreMeetingPairs}
use Rattle.ember_pairs.specs.Works.{job_at, pairs_shape}

-- each item has the meeting pairs of the job with its index
abbrev pub AreItems : List Tri → List Job → List (List Pair) → Type 0
AreItems ts jobs items = EachAnswers (λ job ps. AreMeetingPairs ts job.list ps) jobs items

-- the leaves of the tree of boxes under the root
abbrev pub leaf_jobs : List Tri → List Job
leaf_jobs ts = leaves (λ job. pairs_shape ts job) (job_at ts root)
