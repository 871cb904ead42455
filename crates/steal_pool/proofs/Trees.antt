-- A stored step runs at each visited job, and what is gathered over the tree keeps the rules of journals.
use Rattle.std.proofs.Common.{Result, Ok, Err, IfOk, ◌≡◌, ℕ, zero, suc, ◌+◌, ◌*◌, ◌<◌, ◌≤◌, List, [], ◌∷◌, ◌++◌, length}
use Rattle.std.proofs.Common.{map, All, refl, sym, ap, ap₂, ◌∙◌, subst, inl, inr, arith}
use Rattle.std.proofs.lemmas.Bool.Decides.{eqb_tells}
use Rattle.std.specs.Borrow.{Bor}
use Rattle.std.specs.declared.alloc.AllocError.{AllocError}
use Rattle.ember_box.specs.Boxes.{Cell, halvings_left}
use Rattle.ember_box.proofs.HalfCells.{left_less}
use Rattle.ember_job.specs.Weights.{weigh, one}
use Rattle.ember_job.proofs.Weights.{more_weight, one_same}
use Rattle.ember_job.specs.declared.job.Job.{Job}
use Rattle.ember_job.specs.declared.job.Entry.{Entry}
use Rattle.ember_job.specs.declared.job.Kind.{Kind}
use Rattle.ember_job.specs.declared.job.Kind.TheVariants.{Halved, Leafed, Passed}
use Rattle.ember_job.specs.declared.job.Outcome.{Outcome}
use Rattle.ember_job.specs.declared.job.Outcome.TheVariants.{Halves, Leaf, Skipped}
use Rattle.ember_job.specs.Works.{Shape, halved, leafed, passed, IsSplit, Splits, Answers, AnswersAll}
use Rattle.ember_job.specs.Visited.{IsVisited, root_visited, left_visited, right_visited, entry, kind_of, entry_of, visited, if_leafed, leaves_among}
use Rattle.ember_job.proofs.Leaves.{halved_visits, leaf_visits, passed_visits}
use Rattle.ember_tree.specs.declared.part.Part.{Part}
use Rattle.steal_pool.specs.Steps.{RunsVisited, OutcomeFits, IsPart, by_path, at_job, at_entry, at_left, at_halves, if_halved}
use Rattle.steal_pool.specs.RunJournals.{KeepsLeft, KeepsBoth, Begins, EachKeeps, RunJournals}
use Rattle.steal_pool.specs.Journals.{times, times_halved, if_halved_at, journal_of, KeepRules, AnswersLeaf, AreParts, leaf_weight, box_weight, tree_weight}
use Rattle.steal_pool.proofs.DequeSteps.{weigh_append}

-- each half may be halved once less
pub low_less : (c l r : Cell) → IsSplit c l r → halvings_left l + 1 ≡ halvings_left c
low_less c l r s = ap (λ x. halvings_left x + 1) s.is_low ∙ left_less c s.axis s.may_halve

-- the right half has one halving less left than its box
pub high_less : (c l r : Cell) → IsSplit c l r → halvings_left r + 1 ≡ halvings_left c
high_less c l r s = ap (λ x. halvings_left x + 1) s.is_high ∙ left_less c s.axis s.may_halve

module _ (shape : Job → Shape) where
  box_weighs : (h : Entry → ℕ) (g : ℕ → ℕ) (j : Job) (s : Shape) → shape j ≡ s →
      box_weight shape h g j ≡ h (entry j.cell.path (kind_of s)) + leaf_weight s (g j.cell.path)
  box_weighs h g j s is = ap (λ t. h (entry j.cell.path (kind_of t)) + leaf_weight t (g j.cell.path)) is

  -- sums over the tree, of entries alone and of leaves alone
  leaf_zero : (s : Shape) → leaf_weight s 0 ≡ 0
  leaf_zero (halved l r) = refl
  leaf_zero leafed = refl
  leaf_zero passed = refl

  entries_weigh : (h : Entry → ℕ) (js : List Job) → weigh (box_weight shape h (λ _. 0)) js ≡ weigh h (map (entry_of shape) js)
  entries_weigh h [] = refl
  entries_weigh h (j ∷ js) = omega (arith, leaf_zero (shape j), entries_weigh h js)

  leaf_at : (g : ℕ → ℕ) (j : Job) (s : Shape) → leaf_weight s (g j.cell.path) ≡ weigh (at_job g) (if_leafed j s)
  leaf_at g j (halved l r) = refl
  leaf_at g j leafed = omega arith
  leaf_at g j passed = refl

  leaves_weigh : (g : ℕ → ℕ) (js : List Job) → weigh (box_weight shape (λ _. 0) g) js ≡ weigh (at_job g) (leaves_among shape js)
  leaves_weigh g [] = refl
  leaves_weigh g (j ∷ js) = omega (arith, leaf_at g j (shape j), weigh_append (at_job g) (if_leafed j (shape j)) (leaves_among shape js), leaves_weigh g js)

  module _ {I : Type 0} (item : Job → I → Type 0) (valid : Job → Type 0) (root : Job) where
    visited_valid : Splits shape valid → valid root → (j : Job) → IsVisited shape root j → valid j
    visited_valid s v j root_visited = v
    visited_valid s v j (left_visited p l r w is) = (s p l r (visited_valid s v p w) is).0.0
    visited_valid s v j (right_visited p l r w is) = (s p l r (visited_valid s v p w) is).0.1

    outcome_fits : Splits shape valid → (j : Job) (o : Outcome I) → IsVisited shape root j → valid j →
        Answers shape item j o → OutcomeFits (IsVisited shape root) (AnswersLeaf shape item) (tree_weight shape) j o
    outcome_fits s j (Halves l r) w v e =
        let cut = (s j l r v e).1 in
        let low = low_less j.cell l.cell r.cell cut in
        let high = high_less j.cell l.cell r.cell cut in (
          left_visited j l r w e,
          right_visited j l r w e,
          ap (λ (c : Cell). c.path) cut.is_low,
          ap (λ (c : Cell). c.path) cut.is_high,
          low,
          high,
          λ h g. omega (
            arith,
            ap (weigh (box_weight shape h g))
                (halved_visits shape (halvings_left j.cell) j l r refl e low high),
            weigh_append (box_weight shape h g) (visited shape l) (visited shape r),
            box_weighs h g j (halved l r) e,
          ),
        )
    outcome_fits s j (Leaf it) w v e = (
      (e.0, e.1),
      λ h g. omega (
        arith,
        ap (weigh (box_weight shape h g)) (leaf_visits shape (halvings_left j.cell) j e.0),
        box_weighs h g j leafed e.0,
      ),
    )
    outcome_fits s j Skipped w v e = λ h g. omega (
      arith,
      ap (weigh (box_weight shape h g)) (passed_visits shape (halvings_left j.cell) j e),
      box_weighs h g j passed e,
    )

    outcome_fits_if_ok : Splits shape valid → (j : Job) (r : Result (Outcome I) AllocError) → IsVisited shape root j →
        valid j → IfOk r (λ o. Answers shape item j o) →
        IfOk r (λ o. OutcomeFits (IsVisited shape root) (AnswersLeaf shape item) (tree_weight shape) j o)
    outcome_fits_if_ok s j (Ok o) w v e = outcome_fits s j o w v e
    outcome_fits_if_ok s j (Err x) w v e = e

-- a stored step may run at each visited box, and its outcome fits it
pub runs_visited : {W I F : Type 0} (valid : W → Job → Type 0) (shape : W → Job → Shape) (item : W → Job → I →
    Type 0) (pre : F → Bor Job → Type 0) (post : F → Bor Job → Result (Outcome I) AllocError →
    Type 0) (work : W) (call : F) (root : Job)
    → Splits (shape work) (valid work) → valid work root → AnswersAll valid shape item pre post work call →
    RunsVisited (IsVisited (shape work) root) (AnswersLeaf (shape work) (item work)) (tree_weight (shape work)) pre
    post call
runs_visited valid shape item pre post work call root s v step = record {
  may_run = λ p w. step.runs p (visited_valid (shape work) (item work) (valid work) root s v p.now w);
  fits = λ p r w done.
      let at = visited_valid (shape work) (item work) (valid work) root s v p.now w in
      outcome_fits_if_ok (shape work) (item work) (valid work) root s p.now r w at (step.answers_each p r at done);
}

-- a sum of nothing
no_weight : {X : Type 0} (h : X → ℕ) → ((x : X) → h x ≡ 0) → (xs : List X) → weigh h xs ≡ 0
no_weight h none [] = refl
no_weight h none (x ∷ xs) = omega (arith, none x, no_weight h none xs)

one_double : (p q : ℕ) → one p q ≤ one (2 * p) (2 * q)
one_double p q = elim (eqb_tells q p) [
  | inl h ↦ rw h.0 (omega (arith, one_same (2 * p) (2 * q) (omega (arith, h.1))))
  | inr h ↦ rw h.0 (omega arith)
]

one_next : (p q : ℕ) → one p q ≤ one (2 * p + 1) (2 * q + 1)
one_next p q = elim (eqb_tells q p) [
  | inl h ↦ rw h.0 (omega (arith, one_same (2 * p + 1) (2 * q + 1) (omega (arith, h.1))))
  | inr h ↦ rw h.0 (omega arith)
]

halved_more : (k : Kind) (m n : ℕ) → m ≤ n → if_halved k m ≤ if_halved k n
halved_more Halved m n less = less
halved_more Leafed m n less = omega arith
halved_more Passed m n less = omega arith

keeps_left : (path : ℕ) (j : List Entry) → KeepsLeft j → 0 < times_halved path j → 0 < times (2 * path) j
keeps_left path j keeps some = omega (
  arith,
  keeps (one (2 * path)),
  some,
  more_weight (if_halved_at path) (at_left (one (2 * path)))
      (λ e. halved_more e.kind (one path e.path) (one (2 * path) (2 * e.path)) (one_double path e.path)) j,
)

keeps_right : (path : ℕ) (j : List Entry) → KeepsBoth j → 0 < times_halved path j → 0 < times (2 * path + 1) j
keeps_right path j keeps some =
    omega (
      arith,
      keeps (one (2 * path + 1)),
      some,
      more_weight (if_halved_at path) (at_halves (one (2 * path + 1)))
          (λ e. halved_more e.kind (one path e.path) (one (2 * path + 1) (2 * e.path) + one (2 * path + 1) (2 * e.path + 1))
          (omega (arith, one_next path e.path))) j,
    )

both_left : (j : List Entry) → KeepsBoth j → KeepsLeft j
both_left j both h = omega (
  arith,
  both h,
  more_weight (at_left h) (at_halves h)
      (λ e. halved_more e.kind (h (2 * e.path)) (h (2 * e.path) + h (2 * e.path + 1)) (omega arith)) j,
)

keeps_at : (js : List (List Entry)) (k : ℕ) → EachKeeps js → KeepsLeft (journal_of k js)
keeps_at [] k e = λ h. omega arith
keeps_at (j ∷ js) zero e = e.0
keeps_at (j ∷ js) (suc k) e = keeps_at js k e.1

keeps_snoc : (js : List (List Entry)) (j : List Entry) → EachKeeps js → KeepsLeft j → EachKeeps (js ++ j ∷ [])
keeps_snoc [] j e one' = (one', tt)
keeps_snoc (k ∷ js) j e one' = (e.0, keeps_snoc js j e.1 one')

last_journal : (js : List (List Entry)) (j : List Entry) → journal_of (length js) (js ++ j ∷ []) ≡ j
last_journal [] j = refl
last_journal (k ∷ js) j = last_journal js j

begins_left : (path : ℕ) (j : List Entry) → Begins path j → KeepsLeft j
begins_left path j b h = omega (arith, b h)

-- one caller's journal, from nothing
pub begins_both : (path : ℕ) (none journal : List Entry) → none ≡ [] →
    ((h : ℕ → ℕ) → weigh (at_entry h) none + weigh (at_halves h) journal + h path ≤ weigh (at_entry h) journal
    + weigh (at_halves h) none) → Begins path journal
begins_both path none journal is stays h = omega (
  arith,
  stays h,
  ap (weigh (at_entry h)) is,
  ap (weigh (at_halves h)) is,
  more_weight (at_left h) (at_halves h)
      (λ e. halved_more e.kind (h (2 * e.path)) (h (2 * e.path) + h (2 * e.path + 1)) (omega arith)) journal,
)

-- the journal of the caller
pub caller_is : (path n : ℕ) (js : List (List Entry)) (halvings_left : ℕ) → (r : RunJournals path n js halvings_left) → journal_of n js ≡ r.caller
caller_is path n js halvings_left r = ap₂ (λ k xs. journal_of k xs) (sym r.count) r.is ∙ last_journal (r.first ∷ r.others) r.caller

-- a run of n workers has n + 1 journals
pub journals_are_workers_and_caller : (path n : ℕ) (js : List (List Entry)) (halvings_left : ℕ) → RunJournals path n js halvings_left → length js ≡ n + 1
journals_are_workers_and_caller path n js halvings_left r = ap length r.is ∙ snoc (r.first ∷ r.others) r.caller ∙ ap (λ k. k + 1) r.count where
  snoc : (xs : List (List Entry)) (x : List Entry) → length (xs ++ x ∷ []) ≡ length xs + 1
  snoc [] x = refl
  snoc (y ∷ xs) x = omega (arith, snoc xs x)

module _ (shape : Job → Shape) (root : Job) {I : Type 0} (parts : List (Part I)) (js : List (List Entry)) where
  abbrev pub Sums : Type 0
  Sums = (h : Entry → ℕ) (g : ℕ → ℕ) → weigh (weigh h) js + weigh (by_path g) parts ≡ tree_weight shape h g root

  -- journals of a run of the root keep the rules
  pub keep_rules : (n halvings_left : ℕ) → root.cell.path ≡ 1 → Sums → RunJournals root.cell.path n js halvings_left → KeepRules shape root n js
  keep_rules n halvings_left at sums r =
      let keeps : EachKeeps js = subst EachKeeps (sym r.is)
      (keeps_snoc (r.first ∷ r.others) r.caller (begins_left root.cell.path r.first r.begun, r.lefts)
      (both_left r.caller r.both)) in record {
        once = λ h. omega (arith, sums h (λ _. 0), no_weight (by_path (λ _. 0)) (λ p. refl) parts, entries_weigh shape h (visited shape root));
        begun = subst (λ xs. 0 < times 1 (journal_of 0 xs)) (sym r.is) (omega (arith, r.begun (one 1), one_same 1 root.cell.path at));
        lefts = λ k path some. keeps_left path (journal_of k js) (keeps_at js k keeps) some;
        rights = λ path some. subst (λ j. 0 < times (2 * path + 1) j)
            (sym (caller_is root.cell.path n js halvings_left r))
            (keeps_right path r.caller r.both (subst (λ j. 0 < times_halved path j)
            (caller_is root.cell.path n js halvings_left r) some));
      }

  -- the parts of a run are those of the visited leaves
  pub are_parts : (item : Job → I → Type 0) → Sums → All (IsPart (IsVisited shape root) (AnswersLeaf shape item)) parts → AreParts shape item root parts
  are_parts item sums all = record {
    once = λ g. omega (
      arith,
      sums (λ _. 0) g,
      no_weight (weigh (λ (e : Entry). 0))
          (λ j. no_weight (λ (e : Entry). 0) (λ e. refl) j) js,
      leaves_weigh shape g (visited shape root),
    );
    items = all;
  }
