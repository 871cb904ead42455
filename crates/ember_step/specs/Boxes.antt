-- What is written in a box, on any grid
use Rattle.std.specs.Prelude.{ℕ, List}
use Rattle.ember_box.specs.Boxes.{Cell, in_steps}
use Rattle.ember_box.specs.Near.{near}
use Rattle.ember_expr.specs.Formula.{Formula}
use Rattle.ember_job.specs.declared.job.Job.{Job}
use Rattle.ember_job.specs.declared.job.Outcome.{Outcome}
use Rattle.ember_job.specs.Works.{Answers}
use Rattle.ember_leaf.specs.declared.kept.Kept.{Kept}
use Rattle.ember_leaf.specs.Written.{IsWrittenIn}
use Rattle.ember_model.specs.declared.tri.Tri.{Tri}
use Rattle.ember_leaf.specs.KeptRegions.{NarrowKept}
use Rattle.ember_visit.specs.Values.{shape, shape_on}

-- the written regions of a box, where a unit has 2^s steps
abbrev pub IsWrittenInBox : {W M : Type 0} → ℕ → List Tri → Formula → Cell → List (Kept W M) → Type 0
IsWrittenInBox s tris formula c kept = IsWrittenIn tris formula (in_steps s c) (near tris (in_steps s c)) kept

-- what becomes of a job there, with the written regions for a leaf; reference points are shifted by 1/fine
abbrev pub AnswersByRegions : {W M : Type 0} → ℕ → ℕ → List Tri → Formula → Job → Outcome (List (Kept W M)) → Type 0
AnswersByRegions s fine tris formula job outcome =
    Answers (shape_on s fine tris formula) (λ job kept. IsWrittenInBox s tris formula job.cell kept) job outcome

-- the same on the narrow grid
abbrev pub AnswersByWritten : List Tri → Formula → Job → Outcome (List NarrowKept) → Type 0
AnswersByWritten tris formula job outcome =
    Answers (shape tris formula) (λ job kept. IsWrittenIn tris formula job.cell (near tris job.cell) kept) job outcome
