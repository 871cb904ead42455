-- Items that answer a list of jobs.
use Rattle.std.specs.Prelude.{List, [], ◌∷◌, ⊤}
use Rattle.ember_job.specs.declared.job.Job.{Job}

-- there are as many items as jobs, and each item answers the job with its index
abbrev pub EachAnswers : {I : Type 0} → (Job → I → Type 0) → List Job → List I → Type 0
EachAnswers item [] [] = ⊤
EachAnswers item [] (x ∷ xs) = ⊥
EachAnswers item (j ∷ js) [] = ⊥
EachAnswers item (j ∷ js) (x ∷ xs) = item j x × EachAnswers item js xs
