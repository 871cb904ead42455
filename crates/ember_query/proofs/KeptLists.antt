-- Lists put into one, as what the members of a list give.
use Rattle.std.proofs.Common.{List, [], ◌∷◌, flat_map}
use Rattle.ember_algebra.specs.Relations.{Each, none, more}
use Rattle.ember_job.specs.declared.job.Job.{Job}
use Rattle.ember_job.specs.Items.{EachAnswers}

-- the lists of all jobs, joined, are what the jobs give one after another
pub all_given : {X : Type 0} (item : Job → List X → Type 0) (jobs : List Job) (items : List (List X)) →
    EachAnswers item jobs items → Each item jobs (flat_map (λ ks. ks) items)
all_given item [] [] h = none
all_given item [] (ks ∷ items) h = absurd h
all_given item (job ∷ jobs) [] h = absurd h
all_given item (job ∷ jobs) (ks ∷ items) h = more h.0 (all_given item jobs items h.1)
