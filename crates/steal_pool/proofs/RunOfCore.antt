-- Journals that keep the rules are a run of the core.
use Rattle.std.proofs.Common.{◌≡◌, ◌≢◌, ℕ, zero, suc, ◌+◌, ◌-◌, ◌*◌, ◌^◌, ◌<◌, ◌≤◌, List, [], ◌∷◌, ◌++◌, length}
use Rattle.std.proofs.Common.{if◌then◌else◌, ◌==◌, refl, sym, ap, ap₂, ◌∙◌, subst, inl, inr, arith}
use Rattle.std.proofs.lemmas.Bool.Decides.{eqb_tells}
use Rattle.std.specs.Int.{leading_zeros, w64}
use Rattle.steal_core.specs.Runs.{keep}
use Rattle.ember_box.specs.Boxes.{halvings_left}
use Rattle.ember_job.specs.Weights.{weigh, one}
use Rattle.ember_job.specs.declared.job.Job.{Job}
use Rattle.ember_job.specs.declared.job.Entry.{Entry}
use Rattle.ember_job.specs.declared.job.Kind.{Kind}
use Rattle.ember_job.proofs.Weights.{one_same, one_other}
use Rattle.ember_tree.specs.Order.{tree_key}
use Rattle.steal_pool.specs.Steps.{at_job}
use Rattle.steal_pool.specs.Journals.{times, journal_of}
use Rattle.steal_pool.proofs.LeafOrder.{base, Fits, place_is, zeros_are}

-- by its path alone, a box has a place in the order of the visits
abbrev pub turn_of : ℕ → ℕ
turn_of p = tree_key p * 64 + (63 - leading_zeros w64 p)

pub turn_is : (j : Job) → Fits j → turn_of j.cell.path ≡ base j * 2 ^ 27 * 64 + (36 - halvings_left j.cell)
turn_is j f = ap₂ (λ a z. a * 64 + (63 - z)) (place_is j f) (sym (zeros_are j f)) ∙ ap (λ x. base j * 2 ^ 27 * 64 + x) (drop (halvings_left j.cell) f.few) where
  drop : (n : ℕ) → n ≤ 36 → 63 - (n + 27) ≡ 36 - n
  drop n few = omega (arith, few)

abbrev pub Up : ℕ → ℕ → List Job → Type 0
Up lo hi [] = lo ≤ hi
Up lo hi (j ∷ js) = (lo ≤ turn_of j.cell.path) × Up (turn_of j.cell.path + 1) hi js

-- a lower bound may be lowered
pub up_from : (lo low hi : ℕ) (js : List Job) → low ≤ lo → Up lo hi js → Up low hi js
up_from lo low hi [] less w = omega (arith, less, w)
up_from lo low hi (j ∷ js) less w = (omega (arith, less, w.0), w.1)

-- two ascending lists, one after the other, are ascending
pub up_append : (lo mid hi : ℕ) (xs ys : List Job) → Up lo mid xs → Up mid hi ys → Up lo hi (xs ++ ys)
up_append lo mid hi [] ys a b = up_from mid lo hi ys a b
up_append lo mid hi (x ∷ xs) ys a b = (a.0, up_append (turn_of x.cell.path + 1) mid hi xs ys a.1 b)

none_after : (lo hi q : ℕ) (js : List Job) → Up lo hi js → turn_of q < lo → weigh (at_job (one q)) js ≡ 0
none_after lo hi q [] w less = refl
none_after lo hi q (j ∷ js) w less = omega (
  arith,
  one_other q j.cell.path (λ e. absurd (omega (arith, less, w.0, ap turn_of e))),
  none_after (turn_of j.cell.path + 1) hi q js w.1 (omega (arith, less, w.0)),
)

-- an ascending list has each path at most path_weighs_once
pub path_weighs_once : (lo hi q : ℕ) (js : List Job) → Up lo hi js → weigh (at_job (one q)) js ≤ 1
path_weighs_once lo hi q [] w = omega arith
path_weighs_once lo hi q (j ∷ js) w = elim (eqb_tells j.cell.path q) [
  | inl e ↦ omega (arith, one_same q j.cell.path e.1, none_after (turn_of j.cell.path + 1) hi q js w.1 (omega (arith, ap turn_of e.1)))
  | inr n ↦ omega (arith, one_other q j.cell.path n.1, path_weighs_once (turn_of j.cell.path + 1) hi q js w.1)
]

abbrev pub top : Job → ℕ
top j = (base j + 2 ^ halvings_left j.cell) * 2 ^ 27 * 64

-- the first journal that has a path
abbrev pub pick : ℕ → ℕ → ℕ
pick zero n = suc n
pick (suc m) n = 0

abbrev pub owner : List (List Entry) → ℕ → ℕ
owner [] p = 0
owner (j ∷ js) p = pick (times p j) (owner js p)

-- if some journal has a path, the path's owner is the number of a journal that has it
pub owner_has : (js : List (List Entry)) (p : ℕ) → 0 < weigh (times p) js → (0 < times p (journal_of (owner js p) js)) × (owner js p < length js)
owner_has [] p some = absurd (omega (arith, some))
owner_has (j ∷ js) p some = at (times p j) refl (λ more. owner_has js p more) where
  at : (n : ℕ) → times p j ≡ n → (0 < weigh (times p) js →
      (0 < times p (journal_of (owner js p) js)) × (owner js p < length js)) →
      (0 < times p (journal_of (owner (j ∷ js) p) (j ∷ js))) × (owner (j ∷ js) p < length (j ∷ js))
  at zero e more =
      let r = more (omega (arith, some, e)) in
      subst (λ n. (0 < times p (journal_of (pick n (owner js p)) (j ∷ js))) × (pick n (owner js p) < length (j ∷ js))) (sym e) (r.0, omega (arith, r.1))
  at (suc n) e more = subst (λ n. (0 < times p (journal_of (pick n (owner js p)) (j ∷ js))) ×
      (pick n (owner js p) < length (j ∷ js))) (sym e) (omega (arith, e), omega arith)

-- if the journals have some weight together, one of them has
pub some_journal : (f : List Entry → ℕ) (js : List (List Entry)) → 0 < weigh f js → (k : ℕ) × (0 < f (journal_of k js))
some_journal f [] some = absurd (omega (arith, some))
some_journal f (j ∷ js) some = at (f j) refl (λ more. some_journal f js more) where
  at : (n : ℕ) → f j ≡ n → (0 < weigh f js → (k : ℕ) × (0 < f (journal_of k js))) → (k : ℕ) × (0 < f (journal_of k (j ∷ js)))
  at zero e more = let r = more (omega (arith, some, e)) in (suc r.0, r.1)
  at (suc n) e more = (0, omega (arith, e))

one_journal : (f : List Entry → ℕ) → f [] ≡ 0 → (js : List (List Entry)) (k : ℕ) → f (journal_of k js) ≤ weigh f js
one_journal f none [] k = omega (arith, none)
one_journal f none (j ∷ js) zero = omega arith
one_journal f none (j ∷ js) (suc k) = omega (arith, one_journal f none js k)

-- the owner of a path that is in one journal
pub owner_is : (js : List (List Entry)) (p k : ℕ) → weigh (times p) js ≤ 1 → 0 < times p (journal_of k js) → owner js p ≡ k
owner_is [] p k few some = absurd (omega (arith, some))
owner_is (j ∷ js) p zero few some = at (times p j) refl where
  at : (n : ℕ) → times p j ≡ n → owner (j ∷ js) p ≡ 0
  at zero e = absurd (omega (arith, e, some))
  at (suc n) e = ap (λ n. pick n (owner js p)) e
owner_is (j ∷ js) p (suc k) few some = ap (λ n. pick n (owner js p)) none ∙ ap suc (owner_is js p k (omega (arith, few)) some) where
  none : times p j ≡ 0
  none = omega (arith, few, some, one_journal (times p) refl js k)

abbrev pub only : ℕ → ℕ → ℕ → ℕ
only k i n = if i == k then n else 0

only_same : (k i n : ℕ) → i ≡ k → only k i n ≡ n
only_same k i n e = elim (eqb_tells i k) [ inl h ↦ rw h.0 refl | inr h ↦ absurd (h.1 e) ]

only_other : (k i n : ℕ) → i ≢ k → only k i n ≡ 0
only_other k i n e = elim (eqb_tells i k) [ inl h ↦ absurd (e h.1) | inr h ↦ rw h.0 refl ]

-- the weight of a list with a path in front that is kept only if worker i is k
pub keep_weighs : (h : ℕ → ℕ) (k i p : ℕ) (ps : List ℕ) → weigh h (keep k i p ps) ≡ only k i (h p) + weigh h ps
keep_weighs h k i p ps = elim (eqb_tells i k) [ inl e ↦ rw e.0 refl | inr e ↦ rw e.0 (omega arith) ]

-- what is summed over all journals by owners is summed over one journal
module _ (sel : Kind → ℕ → ℕ) (nil : (κ : Kind) → sel κ 0 ≡ 0) (own : ℕ → ℕ) (k : ℕ) (h : ℕ → ℕ) where
  abbrev pub by_owner : Entry → ℕ
  by_owner e = sel e.kind (only k (own e.path) (h e.path))

  abbrev pub by_all : Entry → ℕ
  by_all e = sel e.kind (h e.path)

  inner : (i : ℕ) (es : List Entry) → ((q : ℕ) → 0 < times q es → own q ≡ i) → (i ≡ k → weigh by_owner es ≡ weigh by_all es) × (i ≢ k → weigh by_owner es ≡ 0)
  inner i [] all = ((λ e. refl), λ n. refl)
  inner i (x ∷ es) all =
      let here : own x.path ≡ i = all x.path (omega (arith, one_same x.path x.path refl)) in
      let more = inner i es (λ q some. all q (omega (arith, some))) in (
        (λ e. omega (arith, ap (sel x.kind) (only_same k (own x.path) (h x.path) (here ∙ e)), more.0 e)),
        λ n. omega (arith, ap (sel x.kind) (only_other k (own x.path) (h x.path) (λ e. n (sym here ∙ e))), nil x.kind, more.1 n),
      )

  pub weights_exchange : (i : ℕ) (js : List (List Entry)) →
      ((m q : ℕ) → 0 < times q (journal_of m js) → own q ≡ i + m) →
      ((r : ℕ) → k ≡ i + r → weigh (weigh by_owner) js ≡ weigh by_all (journal_of r js)) × (k < i →
      weigh (weigh by_owner) js ≡ 0)
  weights_exchange i [] all = ((λ r e. refl), λ less. refl)
  weights_exchange i (j ∷ js) all =
      let here = inner i j (λ q some. all 0 q some ∙ plus_zero i) in
      let more = weights_exchange (suc i) js (λ m q some. all (suc m) q some ∙ plus_suc i m) in (
        (λ r e. at r e here more),
        λ less. omega (arith, here.1 (λ e. absurd (omega (arith, less, e))), more.1 (omega (arith, less))),
      )
    where
      plus_zero : (i : ℕ) → i + 0 ≡ i
      plus_zero i = omega arith

      plus_suc : (i m : ℕ) → i + suc m ≡ suc i + m
      plus_suc i m = omega arith

      at : (r : ℕ) → k ≡ i + r → (i ≡ k → weigh by_owner j ≡ weigh by_all j) × (i ≢ k → weigh by_owner j ≡ 0) →
          ((r : ℕ) → k ≡ suc i + r → weigh (weigh by_owner) js ≡ weigh by_all (journal_of r js)) × (k < suc i →
          weigh (weigh by_owner) js ≡ 0) → weigh (weigh by_owner) (j ∷ js) ≡ weigh by_all (journal_of r (j ∷ js))
      at zero e here more = omega (arith, here.0 (omega (arith, e)), more.1 (omega (arith, e)))
      at (suc r) e here more = omega (arith, here.1 (λ u. absurd (omega (arith, e, u))), more.0 r (omega (arith, e)))
