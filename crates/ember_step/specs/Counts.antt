-- Numbers of written regions
use Rattle.std.proofs.Common.{◌≡◌, ◌∙◌, ℕ, List, length, ap, sym}
use Rattle.ember_box.specs.Boxes.{Cell}
use Rattle.ember_box.specs.Near.{near}
use Rattle.ember_expr.specs.Formula.{Formula}
use Rattle.ember_leaf.specs.KeptRegions.{NarrowKept as Kept}
use Rattle.ember_leaf.specs.Written.{IsWrittenIn}
use Rattle.ember_model.specs.declared.tri.Tri.{Tri}
use Rattle.ember_job.specs.declared.job.Job.{Job}
use Rattle.ember_job.specs.declared.job.Outcome.{Outcome}
use Rattle.ember_job.specs.Works.{Answers}
use Rattle.ember_visit.specs.Values.{shape}

-- some list with the property has n items
pub record IsCount {X : Type 0} (Has : List X → Type 0) (n : ℕ) : Type 0 where
  pub items : List X
  pub has : Has items
  pub count : n ≡ length items

-- the number of regions that are written in a box
abbrev pub IsBoxCount : List Tri → Formula → Cell → ℕ → Type 0
IsBoxCount tris formula c n = IsCount (λ (ks : List Kept). IsWrittenIn tris formula c (near tris c) ks) n

-- what becomes of a job, with the number of regions that are written for a leaf
abbrev pub AnswersByCounts : List Tri → Formula → Job → Outcome ℕ → Type 0
AnswersByCounts tris formula job outcome =
    Answers (shape tris formula) (λ job n. IsBoxCount tris formula job.cell n) job outcome

-- a lemma that the ghost member `one_item` in src/count.rt cites: if only one list has the property, there is one
-- such number
pub one_count : {X : Type 0} {Has : List X → Type 0} {m n : ℕ} → ((xs ys : List X) → Has xs → Has ys → xs ≡ ys) →
    IsCount Has m → IsCount Has n → m ≡ n
one_count one a b = a.count ∙ ap length (one a.items b.items a.has b.has) ∙ sym b.count
