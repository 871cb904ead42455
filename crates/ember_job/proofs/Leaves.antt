-- The visited jobs and the leaves under a job, by the job's shape.
use Rattle.std.proofs.Common.{◌≡◌, ℕ, zero, suc, ◌+◌, List, [], ◌∷◌, ◌++◌, append_assoc, refl, sym, ap, ap₂, ◌∙◌, arith}
use Rattle.ember_box.specs.Boxes.{halvings_left}
use Rattle.ember_job.specs.declared.job.Job.{Job}
use Rattle.ember_job.specs.Works.{Shape, halved, leafed, passed}
use Rattle.ember_job.specs.Visited.{below_shape, visited_within, visited, if_leafed, leaves_among}

module _ (shape : Job → Shape) where
  -- ---- the visited jobs
  pub leaf_visits : (depth : ℕ) (job : Job) → shape job ≡ leafed → visited_within shape depth job ≡ job ∷ []
  leaf_visits zero job is = refl
  leaf_visits (suc depth) job is = ap (below_shape (visited_within shape depth) job) is

  -- below a skipped job, it alone is visited
  pub passed_visits : (depth : ℕ) (job : Job) → shape job ≡ passed → visited_within shape depth job ≡ job ∷ []
  passed_visits zero job is = refl
  passed_visits (suc depth) job is = ap (below_shape (visited_within shape depth) job) is

  -- below a halved job, it and what is below its halves are visited
  pub halved_visits : (depth : ℕ) (job low high : Job) → halvings_left job.cell ≡ depth → shape job ≡ halved low high →
      halvings_left low.cell + 1 ≡ halvings_left job.cell → halvings_left high.cell + 1 ≡ halvings_left job.cell →
      visited shape job ≡ job ∷ visited shape low ++ visited shape high
  halved_visits zero job low high at is first second = absurd (omega (arith, at, first))
  halved_visits (suc depth) job low high at is first second =
      ap (λ n. visited_within shape n job) at ∙ ap (below_shape (visited_within shape depth) job) is
      ∙ ap₂ (λ m n. job ∷ visited_within shape m low ++ visited_within shape n high) fewer fewer_too
    where
      fewer : depth ≡ halvings_left low.cell
      fewer = omega (arith, at, first)

      fewer_too : depth ≡ halvings_left high.cell
      fewer_too = omega (arith, at, second)

  -- ---- the leaves among them
  pub leaves_append : (xs ys : List Job) → leaves_among shape (xs ++ ys) ≡ leaves_among shape xs ++ leaves_among shape ys
  leaves_append [] ys = refl
  leaves_append (x ∷ xs) ys =
      ap (λ zs. if_leafed x (shape x) ++ zs) (leaves_append xs ys) ∙ sym (append_assoc (if_leafed x (shape x)) (leaves_among shape xs) (leaves_among shape ys))

  abbrev pub under : ℕ → Job → List Job
  under depth job = leaves_among shape (visited_within shape depth job)

  -- the jobs under a leaf: it alone
  pub under_leaf : (depth : ℕ) (job : Job) → shape job ≡ leafed → under depth job ≡ job ∷ []
  under_leaf depth job is =
      ap (leaves_among shape) (leaf_visits depth job is) ∙ ap (λ s. if_leafed job s ++ []) is

  -- nothing is visited below a skipped job
  pub under_passed : (depth : ℕ) (job : Job) → shape job ≡ passed → under depth job ≡ []
  under_passed depth job is =
      ap (leaves_among shape) (passed_visits depth job is) ∙ ap (λ s. if_leafed job s ++ []) is

  -- the jobs under a halved job: those under its halves
  pub under_halved : (depth : ℕ) (job low high : Job) → shape job ≡ halved low high → under (suc depth) job ≡ under depth low ++ under depth high
  under_halved depth job low high is =
      let below = visited_within shape depth in
      ap (λ s. leaves_among shape (below_shape below job s)) is
      ∙ ap (λ s. if_leafed job s ++ leaves_among shape (below low ++ below high)) is
      ∙ leaves_append (below low) (below high)
