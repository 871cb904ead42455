-- Numbers that answer jobs, and the lists that they count.
use Rattle.std.proofs.Common.{◌≡◌, ℕ, List, [], ◌∷◌, flat_map, length, map, refl, sym, ap, ap₂, ◌∙◌}
use Rattle.std.specs.List.{sum}
use Rattle.std.proofs.lemmas.List.Sums.{sum-map}
use Rattle.std.proofs.lemmas.List.Concat.{length-flat_map}
use Rattle.ember_job.specs.declared.job.Job.{Job}
use Rattle.ember_step.specs.Counts.{IsCount}
use Rattle.ember_job.specs.Items.{EachAnswers}

-- lists that answer the jobs, and have these numbers of items
pub record AreCounted {X : Type 0} (item : Job → List X → Type 0) (jobs : List Job) (counts : List ℕ) : Type 0 where
  pub items : List (List X)
  pub answer : EachAnswers item jobs items
  pub lengths : counts ≡ map length items

module _ {X : Type 0} (item : Job → List X → Type 0) where
  -- numbers that count the items of jobs are the lengths of lists that answer the jobs
  pub are_counted : (jobs : List Job) (counts : List ℕ) → EachAnswers (λ job n. IsCount (item job) n) jobs counts → AreCounted item jobs counts
  are_counted [] [] a = record { items = []; answer = tt; lengths = refl }
  are_counted [] (n ∷ ns) a = absurd a
  are_counted (j ∷ js) [] a = absurd a
  are_counted (j ∷ js) (n ∷ ns) a =
      let rest = are_counted js ns a.1 in
      record { items = a.0.items ∷ rest.items; answer = (a.0.has, rest.answer); lengths = ap₂ (λ x xs. x ∷ xs) a.0.count rest.lengths }

-- the numbers together are the length of all lists together
pub all_counted : {X : Type 0} (counts : List ℕ) (items : List (List X)) → counts ≡ map length items → sum counts ≡ length (flat_map (λ xs. xs) items)
all_counted counts items e = ap sum e ∙ sum-map length items ∙ sym (length-flat_map (λ xs. xs) items)
