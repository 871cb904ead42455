-- What holds of the merged items and of the journals of every run of a work.
use Rattle.std.specs.Prelude.{◌≡◌, ℕ, ◌+◌, List, length}
use Rattle.ember_box.specs.Boxes as boxes
use Rattle.ember_job.specs.declared.job.Job.{Job}
use Rattle.ember_job.specs.declared.job.Entry.{Entry}
use Rattle.ember_job.specs.Works.{Shape}
use Rattle.ember_job.specs.Visited.{leaves}
use Rattle.ember_job.specs.Items.{EachAnswers}
use Rattle.ember_tree.specs.declared.part.Part.{Part}
use Rattle.ember_tree.specs.Order.{IsMerged}
use Rattle.steal_pool.specs.Journals.{AreParts, KeepRules}
use Rattle.steal_pool.specs.CoreRuns.{IsCoreRun}

-- the merged items of a run's parts answer the leaves of the visited tree, in its order
abbrev pub MergedAnswerLeaves : {I : Type 0} → (Job → Type 0) → (Job → Shape) → (Job → I → Type 0) → Type 0
MergedAnswerLeaves {I} valid shape item = (root : Job) (parts : List (Part I)) (items : List I) → valid root →
    root.cell ≡ boxes.root → AreParts shape item root parts → IsMerged parts items →
    EachAnswers item (leaves shape root) items

-- items that answer the same jobs are the same items
abbrev pub AnswersAreEqual : {I : Type 0} → (Job → I → Type 0) → Type 0
AnswersAreEqual {I} item = (jobs : List Job) (items others : List I) → EachAnswers item jobs items →
    EachAnswers item jobs others → items ≡ others

-- journals that keep the rules are a run of the core
abbrev pub JournalsAreCoreRuns : (Job → Type 0) → (Job → Shape) → Type 0
JournalsAreCoreRuns valid shape = (root : Job) (workers room : ℕ) (journals : List (List Entry)) → valid root →
    root.cell ≡ boxes.root → KeepRules shape root workers journals → length journals ≡ workers + 1 →
    IsCoreRun workers room journals
