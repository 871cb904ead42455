-- What answers a job, and what a step promises.
use Rattle.std.specs.Prelude.{◌≡◌, ◌<◌, Bool, true, false, Result, IfOk}
use Rattle.std.specs.Borrow.{Bor}
use Rattle.std.specs.declared.alloc.AllocError.{AllocError}
use Rattle.ember_model.specs.declared.point.Axis.{Axis}
use Rattle.ember_box.specs.Boxes.{Cell, left_half, right_half}
use Rattle.ember_job.specs.declared.job.Job.{Job}
use Rattle.ember_job.specs.declared.job.Outcome.{Outcome}
use Rattle.ember_job.specs.declared.job.Outcome.TheVariants.{Halves, Leaf, Skipped}

-- what becomes of a job: it is halved, it is a leaf, or it is skipped
pub data Shape : Type 0 where
  halved : Job → Job → Shape
  leafed : Shape
  passed : Shape

-- whether a shape is that of a halved job
abbrev pub is_halved : Shape → Bool
is_halved (halved low high) = true
is_halved leafed = false
is_halved passed = false

-- two boxes are the halves of a box along one axis
pub record IsSplit (whole low high : Cell) : Type 0 where
  pub axis : Axis
  pub may_halve : 0 < whole.log axis
  pub is_low : low ≡ left_half whole axis
  pub is_high : high ≡ right_half whole axis

-- the two halves that answer a valid job are valid jobs of the two halves of its box
abbrev pub Splits : (Job → Shape) → (Job → Type 0) → Type 0
Splits shape valid = (job low high : Job) → valid job → shape job ≡ halved low high →
    (valid low × valid high) × IsSplit job.cell low.cell high.cell

-- an outcome answers a job if it has the job's shape and its item answers the job
abbrev pub Answers : {I : Type 0} → (Job → Shape) → (Job → I → Type 0) → Job → Outcome I → Type 0
Answers shape item job (Halves low high) = shape job ≡ halved low high
Answers shape item job (Leaf it) = (shape job ≡ leafed) × item job it
Answers shape item job Skipped = shape job ≡ passed

-- what a step promises: the call may be made at each valid job of the work, and each Ok of it answers that job.
-- `valid`, `shape` and `item` say what this means for works of the type W; `pre` and `post` are the contract of the
-- calls of the type F
pub record AnswersAll {W I F : Type 0} (valid : W → Job → Type 0) (shape : W → Job → Shape)
    (item : W → Job → I → Type 0) (pre : F → Bor Job → Type 0)
    (post : F → Bor Job → Result (Outcome I) AllocError → Type 0) (work : W) (call : F) : Type 0 where
  pub runs : (p : Bor Job) → valid work p.now → pre call p
  pub answers_each : (p : Bor Job) (r : Result (Outcome I) AllocError) → valid work p.now → post call p r →
      IfOk r (λ o. Answers (shape work) (item work) p.now o)
