-- How many boxes a run ends, and how many of each kind.
use Rattle.std.proofs.Common.{◌≡◌, ℕ, zero, suc, ◌+◌, ◌*◌, ◌<◌, ◌≤◌, ◌^◌, Bool, cond, List, [], ◌∷◌, ◌++◌, length, refl}
use Rattle.std.proofs.Common.{sym, ap, subst, ◌∙◌, arith, length-append}
use Rattle.std.specs.Prelude.{count_by}
use Rattle.std.specs.List.{fold, sum_by}
use Rattle.std.proofs.lemmas.List.{length-map}
use Rattle.ember_box.specs.Boxes as boxes
use Rattle.ember_job.specs.declared.job.Entry.{Entry}
use Rattle.ember_job.specs.declared.job.Job.{Job}
use Rattle.ember_job.specs.Visited.{below_shape, entry_of, visited, visited_within}
use Rattle.ember_job.specs.Weights.{weigh}
use Rattle.ember_job.specs.Works.{Shape, halved, leafed, passed}
use Rattle.ember_report.specs.Reports.{is_leaf, is_skipped, report_from}
use Rattle.ember_report.specs.Runs.{AreJournalsOf, entries, run_report}

-- ---- the number of all boxes down to a depth
abbrev most : ℕ → ℕ
most zero = 1
most (suc n) = 2 * most n + 1

few_shape : (shape : Job → Shape) (n : ℕ) → ((job : Job) → length (visited_within shape n job) ≤ most n) →
    (job : Job) (s : Shape) → length (below_shape (visited_within shape n) job s) ≤ 2 * most n + 1
few_shape shape n few job (halved low high) =
    let a = few low in let b = few high in
    let e = length-append (job ∷ visited_within shape n low) (visited_within shape n high) in omega (arith, a, b, e)
few_shape shape n few job leafed = omega arith
few_shape shape n few job passed = omega arith

few_below : (shape : Job → Shape) (n : ℕ) (job : Job) → length (visited_within shape n job) ≤ most n
few_below shape zero job = omega arith
few_below shape (suc n) job = few_shape shape n (few_below shape n) job (shape job)

few_visited : (shape : Job → Shape) (root : Job) → root.cell ≡ boxes.root → length (visited shape root) ≤ 137438953471
few_visited shape root e =
    let n : boxes.halvings_left root.cell ≡ 36 = ap boxes.halvings_left e in
    subst (λ (n : ℕ). length (visited_within shape n root) ≤ 137438953471) (sym n) (few_below shape 36 root)

-- ---- counts of entries are weights
one_more : (n : ℕ) → suc n ≡ 1 + n
one_more n = omega arith

length_weighs : {X : Type 0} (xs : List X) → length xs ≡ weigh (λ x. 1) xs
length_weighs [] = refl
length_weighs (x ∷ xs) = ap suc (length_weighs xs) ∙ one_more (weigh (λ x. 1) xs)

fold_weighs : {X : Type 0} (f g : X → ℕ) → ((x : X) → f x ≡ g x) → (n : ℕ) (xs : List X) → fold (λ a x. a + f x) n xs ≡ n + weigh g xs
fold_weighs f g e n [] = omega arith
fold_weighs f g e n (x ∷ xs) = let p = e x in let q = fold_weighs f g e (n + f x) xs in omega (arith, p, q)

count_weighs : {X : Type 0} (p : X → Bool) (xs : List X) → count_by p xs ≡ weigh (λ x. cond (p x) 1 0) xs
count_weighs p xs =
    let q : count_by p xs ≡ 0 + weigh (λ x. cond (p x) 1 0) xs = fold_weighs (λ x. cond (p x) 1 0) (λ x. cond (p x) 1 0) (λ x. refl) 0 xs in omega (arith, q)

sum_weighs : {X : Type 0} (f g : X → ℕ) → ((x : X) → f x ≡ g x) → (xs : List X) → sum_by f xs ≡ weigh g xs
sum_weighs f g e xs = let q : sum_by f xs ≡ 0 + weigh g xs = fold_weighs f g e 0 xs in omega (arith, q)

sum_same : (shape : Job → Shape) (root : Job) (journals : List (List Entry)) → AreJournalsOf shape root journals →
    (f : List Entry → ℕ) (h : Entry → ℕ) → ((es : List Entry) → f es ≡ weigh h es) →
    sum_by f journals ≡ sum_by f (entries shape root ∷ [])
sum_same shape root journals holds f h e =
    let a = sum_weighs f (weigh h) e journals in
    let b = sum_weighs f (weigh h) e (entries shape root ∷ []) in
    let c = holds h in omega (arith, a, b, c)

-- the report of the journals is that of the visited boxes
pub same_report : (shape : Job → Shape) (root : Job) (journals : List (List Entry)) (faces : ℕ) →
    AreJournalsOf shape root journals → report_from journals faces ≡ run_report shape root faces
same_report shape root journals faces holds =
    let b = sum_same shape root journals holds length (λ x. 1) length_weighs in
    let l = sum_same shape root journals holds (count_by is_leaf) (λ x. cond (is_leaf x) 1 0) (count_weighs is_leaf) in
    let s = sum_same shape root journals holds (count_by is_skipped) (λ x. cond (is_skipped x) 1 0) (count_weighs is_skipped) in
    λ i. record { boxes = b i; leaves = l i; skipped = s i; faces = faces }

-- the number of all entries fits into 64 bits
pub entries_fit : (shape : Job → Shape) (root : Job) (journals : List (List Entry)) → root.cell ≡ boxes.root →
    AreJournalsOf shape root journals → sum_by length journals < 2 ^ 64
entries_fit shape root journals e holds =
    let b = sum_same shape root journals holds length (λ x. 1) length_weighs in
    let m = length-map (visited shape root) (entry_of shape) in
    let f = few_visited shape root e in
    omega (arith, b, m, f)

-- ---- a journal of nothing more
weigh_more : (h : Entry → ℕ) (journals : List (List Entry)) → weigh (weigh h) (journals ++ [] ∷ []) ≡ weigh (weigh h) journals
weigh_more h [] = refl
weigh_more h (j ∷ js) = ap (λ (n : ℕ). weigh h j + n) (weigh_more h js)

-- an empty journal of the caller may be left out
pub holds_alone : (shape : Job → Shape) (root : Job) (journals : List (List Entry)) →
    AreJournalsOf shape root (journals ++ [] ∷ []) → AreJournalsOf shape root journals
holds_alone shape root journals holds h = sym (weigh_more h journals) ∙ holds h
