-- The items of a run's parts, parts_merge_to_leaves, answer the leaves of the visited tree in order.
use Rattle.std.proofs.Common.{◌≡◌, ◌⊎◌, ℕ, zero, suc, ◌+◌, ◌*◌, ◌^◌, ◌<◌, ◌≤◌, All, List, [], ◌∷◌, ◌++◌, length, map}
use Rattle.std.proofs.Common.{slice_index_or, refl, sym, ap, ap₂, ◌∙◌, subst, inl, inr, arith}
use Rattle.std.proofs.lemmas.Bool.Decides.{eqb_tells}
use Rattle.std.proofs.lemmas.Nat.{pow_pos}
use Rattle.std.specs.List.{sum_by, fold}
use Rattle.std.specs.List.Sorted.{IsNonDecreasingBy}
use Rattle.std.proofs.lemmas.List.Sorted.{sum_by-IsPermutation, All-permutation}
use Rattle.ember_model.proofs.SignTests.{In}
use Rattle.ember_box.specs.Boxes.{halvings_left}
use Rattle.ember_box.proofs.HalfCells.{times_one_more}
use Rattle.ember_job.specs.Weights.{weigh, one}
use Rattle.ember_job.specs.declared.job.Job.{Job}
use Rattle.ember_job.specs.Works.{Shape, halved, leafed, passed, Splits}
use Rattle.ember_job.specs.Visited.{IsVisited, root_visited, left_visited, right_visited, visited, visited_within, below_shape, if_leafed, leaves_among, leaves}
use Rattle.ember_job.proofs.Weights.{one_same, one_other}
use Rattle.ember_job.proofs.Leaves.{halved_visits, leaf_visits, passed_visits}
use Rattle.ember_job.proofs.Members.{in_append_left, in_append_right, in_append_out}
use Rattle.ember_job.specs.Items.{EachAnswers}
use Rattle.ember_tree.specs.declared.part.Part.{Part}
use Rattle.ember_tree.specs.Order.{tree_key, IsMerged}
use Rattle.steal_pool.specs.Steps.{IsPart, by_path, at_job}
use Rattle.steal_pool.specs.Journals.{AnswersLeaf, AreParts}
use Rattle.steal_pool.proofs.Trees.{low_less, high_less}
use Rattle.steal_pool.proofs.LeafOrder.{base, Fits, Within, place_is, leaves_within}

abbrev low_in : Job → Shape → Job
low_in j (halved l r) = l
low_in j leafed = j
low_in j passed = j

abbrev high_in : Job → Shape → Job
high_in j (halved l r) = r
high_in j leafed = j
high_in j passed = j

abbrev IsHalved : Shape → Type 0
IsHalved (halved l r) = Unit {0}
IsHalved leafed = ⊥
IsHalved passed = ⊥

no_leaf : (s : Shape) (a b : Job) → s ≡ leafed → s ≡ halved a b → ⊥
no_leaf s a b e u = subst IsHalved (sym (sym e ∙ u)) tt

no_passed : (s : Shape) (a b : Job) → s ≡ passed → s ≡ halved a b → ⊥
no_passed s a b e u = subst IsHalved (sym (sym e ∙ u)) tt

module _ (shape : Job → Shape) (valid : Job → Type 0) where
  first_visit : (d : ℕ) (j : Job) → In j (visited_within shape d j)
  first_visit zero j = inl refl
  first_visit (suc d) j = at (shape j) where
    at : (s : Shape) → In j (below_shape (visited_within shape d) j s)
    at (halved l r) = inl refl
    at leafed = inl refl
    at passed = inl refl

  -- the halves of a visited box are visited
  closed : (d : ℕ) (j : Job) → halvings_left j.cell ≡ d → Splits shape valid → valid j → (s : Shape) → shape j ≡ s →
      (x a b : Job) → In x (visited shape j) → shape x ≡ halved a b → In a (visited shape j) × In b (visited shape j)
  closed d j at h v leafed is x a b i e = elim (subst (In x) (leaf_visits shape (halvings_left j.cell) j is) i)
      [ inl same ↦ absurd (no_leaf (shape x) a b (ap shape same ∙ is) e) | inr none ↦ absurd none ]
  closed d j at h v passed is x a b i e = elim (subst (In x) (passed_visits shape (halvings_left j.cell) j is) i)
      [ inl same ↦ absurd (no_passed (shape x) a b (ap shape same ∙ is) e) | inr none ↦ absurd none ]
  closed zero j at h v (halved l r) is x a b i e = absurd (omega (arith, at, low_less j.cell l.cell r.cell (h j l r v is).1))
  closed (suc d) j at h v (halved l r) is x a b i e =
      let k = h j l r v is in
      let low = low_less j.cell l.cell r.cell k.1 in
      let high = high_less j.cell l.cell r.cell k.1 in
      let all = halved_visits shape (halvings_left j.cell) j l r refl is low high in
      let both = found low high (λ one'. closed d l (omega (arith, at, low)) h k.0.0 (shape l) refl x a b one' e)
      (λ two. closed d r (omega (arith, at, high)) h k.0.1 (shape r) refl x a b two e) (subst (In x) all i) in
      (subst (In a) (sym all) (inr both.0), subst (In b) (sym all) (inr both.1))
    where
      found : halvings_left l.cell + 1 ≡ halvings_left j.cell → halvings_left r.cell + 1 ≡ halvings_left j.cell →
          (In x (visited shape l) → In a (visited shape l) × In b (visited shape l)) →
          (In x (visited shape r) → In a (visited shape r) × In b (visited shape r)) →
          (x ≡ j) ⊎ In x (visited shape l ++ visited shape r) →
          In a (visited shape l ++ visited shape r) × In b (visited shape l ++ visited shape r)
      found low high in_low in_high (inl same) =
          let same_low : a ≡ l = ap (low_in j) (sym e ∙ ap shape same ∙ is) in
          let same_high : b ≡ r = ap (high_in j) (sym e ∙ ap shape same ∙ is) in (
            subst (λ y. In y (visited shape l ++ visited shape r)) (sym same_low)
                (in_append_left l (visited shape l) (visited shape r) (first_visit (halvings_left l.cell) l)),
            subst (λ y. In y (visited shape l ++ visited shape r)) (sym same_high)
                (in_append_right r (visited shape l) (visited shape r) (first_visit (halvings_left r.cell) r)),
          )
      found low high in_low in_high (inr more) = elim (in_append_out x (visited shape l) (visited shape r) more) [
        | inl one' ↦ let r' = in_low one' in (
          in_append_left a (visited shape l) (visited shape r) r'.0,
          in_append_left b (visited shape l) (visited shape r) r'.1,
        )
        | inr two ↦ let r' = in_high two in (
          in_append_right a (visited shape l) (visited shape r) r'.0,
          in_append_right b (visited shape l) (visited shape r) r'.1,
        )
      ]

  stands : (root : Job) → Splits shape valid → valid root → (x : Job) → IsVisited shape root x → In x (visited shape root)
  stands root h v x root_visited = first_visit (halvings_left root.cell) root
  stands root h v x (left_visited j l r w is) = (closed (halvings_left root.cell) root refl h v (shape root) refl j l r (stands root h v j w) is).0
  stands root h v x (right_visited j l r w is) = (closed (halvings_left root.cell) root refl h v (shape root) refl j l r (stands root h v j w) is).1

  leaf_stands : (x : Job) (js : List Job) → In x js → shape x ≡ leafed → In x (leaves_among shape js)
  leaf_stands x [] i e = absurd i
  leaf_stands x (j ∷ js) (inl same) e = subst (λ s. In x (if_leafed j s ++ leaves_among shape js)) (sym (ap shape (sym same) ∙ e)) (inl same)
  leaf_stands x (j ∷ js) (inr i) e = in_append_right x (if_leafed j (shape j)) (leaves_among shape js) (leaf_stands x js i e)

-- a job of a list with ascending places
inside_from : (lo hi : ℕ) (x : Job) (js : List Job) → Within lo hi js → In x js → lo ≤ base x
inside_from lo hi x [] w i = absurd i
inside_from lo hi x (j ∷ js) w (inl e) = omega (arith, w.0, ap base e)
inside_from lo hi x (j ∷ js) w (inr i) = omega (arith, w.0, inside_from (base j + 1) hi x js w.2 i)

inside_fits : (lo hi : ℕ) (x : Job) (js : List Job) → Within lo hi js → In x js → Fits x
inside_fits lo hi x [] w i = absurd i
inside_fits lo hi x (j ∷ js) w (inl e) = subst Fits (sym e) w.1
inside_fits lo hi x (j ∷ js) w (inr i) = inside_fits (base j + 1) hi x js w.2 i

unique : (lo hi : ℕ) (x y : Job) (js : List Job) → Within lo hi js → In x js → In y js → base x ≡ base y → x ≡ y
unique lo hi x y [] w i k e = absurd i
unique lo hi x y (j ∷ js) w (inl i) (inl k) e = i ∙ sym k
unique lo hi x y (j ∷ js) w (inl i) (inr k) e = absurd (omega (arith, e, ap base i, inside_from (base j + 1) hi y js w.2 k))
unique lo hi x y (j ∷ js) w (inr i) (inl k) e = absurd (omega (arith, e, ap base k, inside_from (base j + 1) hi x js w.2 i))
unique lo hi x y (j ∷ js) w (inr i) (inr k) e = unique (base j + 1) hi x y js w.2 i k e

times_mono : (a b x : ℕ) → a ≤ b → a * x ≤ b * x
times_mono a b zero less = omega arith
times_mono a b (suc x) less = omega (arith, times_mono a b x less)

-- a path among jobs in ascending places has a place from the bound on
job_place : (lo hi q : ℕ) (js : List Job) → Within lo hi js → 0 < weigh (at_job (one q)) js → lo * 2 ^ 27 ≤ tree_key q
job_place lo hi q [] w some = absurd (omega (arith, some))
job_place lo hi q (j ∷ js) w some = elim (eqb_tells j.cell.path q) [
  | inl e ↦ subst (λ n. lo * 2 ^ 27 ≤ n) (sym (place_is j w.1) ∙ ap tree_key e.1) (times_mono lo (base j) (2 ^ 27) w.0)
  | inr n ↦ omega (
    arith,
    times_mono lo (base j + 1) (2 ^ 27) (omega (arith, w.0)),
    job_place (base j + 1) hi q js w.2 (omega (arith, some, one_other q j.cell.path n.1)),
  )
]

cancel : (a b : ℕ) → a * 2 ^ 27 ≡ b * 2 ^ 27 → a ≡ b
cancel a b e = omega (arith, e)

module _ {I : Type 0} where
  part_place : (n q : ℕ) (ps : List (Part I)) → ((i : ℕ) (d : Part I) → i < length ps →
      n ≤ tree_key (slice_index_or ps i d).path) → 0 < weigh (by_path (one q)) ps → n ≤ tree_key q
  part_place n q [] least some = absurd (omega (arith, some))
  part_place n q (p ∷ ps) least some = elim (eqb_tells p.path q) [
    | inl e ↦ subst (λ m. n ≤ tree_key m) e.1 (least 0 p (omega arith))
    | inr o ↦ part_place n q ps (λ i d l. least (suc i) d (omega (arith, l))) (omega (arith, some, one_other q p.path o.1))
  ]

  abbrev SamePaths : List (Part I) → List Job → Type 0
  SamePaths [] [] = Unit {0}
  SamePaths [] (j ∷ js) = ⊥
  SamePaths (p ∷ ps) [] = ⊥
  SamePaths (p ∷ ps) (j ∷ js) = (p.path ≡ j.cell.path) × SamePaths ps js

  ordered : (lo hi : ℕ) (ps : List (Part I)) (js : List Job) →
      ((g : ℕ → ℕ) → weigh (by_path g) ps ≡ weigh (at_job g) js) → IsNonDecreasingBy (λ p. tree_key p.path) ps →
      Within lo hi js → SamePaths ps js
  ordered lo hi [] [] same rises w = tt
  ordered lo hi [] (j ∷ js) same rises w = absurd (omega (arith, same (λ _. 1)))
  ordered lo hi (p ∷ ps) [] same rises w = absurd (omega (arith, same (λ _. 1)))
  ordered lo hi (p ∷ ps) (j ∷ js) same rises w = (
    first,
    ordered (base j + 1) hi ps js (λ g. omega (arith, same g, ap g first))
        (λ i k d le l. rises (suc i) (suc k) d (omega (arith, le)) (omega (arith, l))) w.2,
  ) where
    first : p.path ≡ j.cell.path
    first = elim (eqb_tells p.path j.cell.path) [
      | inl e ↦ e.1
      | inr n ↦ absurd (
          omega (
            arith,
            job_place (base j + 1) hi p.path js w.2
                (omega (
                  arith,
                  same (one p.path),
                  one_same p.path p.path refl,
                  one_other p.path j.cell.path (λ e. n.1 (sym e)),
                )),
            part_place (tree_key p.path) j.cell.path ps (λ i d l. rises 0 (suc i) d (omega arith) (omega (arith, l)))
                (omega (
                  arith,
                  same (one j.cell.path),
                  one_same j.cell.path j.cell.path refl,
                  one_other j.cell.path p.path n.1,
                )),
            place_is j w.1,
            times_one_more (base j) (2 ^ 27),
            pow_pos 27,
          )
          )
    ]

  answered : (shape : Job → Shape) (root : Job) (item : Job → I → Type 0) (lo hi : ℕ) (all : List Job) →
      Within lo hi all → ((x : Job) → IsVisited shape root x → shape x ≡ leafed → In x all) →
      (ps : List (Part I)) (js : List Job) → ((x : Job) → In x js → In x all) →
      All (IsPart (IsVisited shape root) (AnswersLeaf shape item)) ps → SamePaths ps js →
      EachAnswers item js (map (λ (p : Part I). p.item) ps)
  answered shape root item lo hi all w found [] [] sub are e = tt
  answered shape root item lo hi all w found [] (j ∷ js) sub are e = absurd e
  answered shape root item lo hi all w found (p ∷ ps) [] sub are e = absurd e
  answered shape root item lo hi all w found (p ∷ ps) (j ∷ js) sub are e =
      let part = are 0 p (omega arith) in
      let here : In part.job all = found part.job part.is_visited part.item.0 in
      let there : In j all = sub j (inl refl) in
      let path : part.job.cell.path ≡ j.cell.path = sym part.path ∙ e.0 in
      let place : base part.job * 2 ^ 27 ≡ base j * 2 ^ 27 =
      sym (place_is part.job (inside_fits lo hi part.job all w here)) ∙ ap tree_key path
      ∙ place_is j (inside_fits lo hi j all w there) in
      let same : part.job ≡ j = unique lo hi part.job j all w here there (cancel (base part.job) (base j) place) in (
        subst (λ x. item x p.item) same part.item.1,
        answered shape root item lo hi all w found ps js (λ x i. sub x (inr i)) (λ k d l. are (suc k) d (omega (arith, l))) e.1,
      )

  weigh_from : (h : Part I → ℕ) (n : ℕ) (xs : List (Part I)) → n + weigh h xs ≡ fold (λ a x. a + h x) n xs
  weigh_from h n [] = omega arith
  weigh_from h n (x ∷ xs) = turn n (h x) (weigh h xs) ∙ weigh_from h (n + h x) xs where
    turn : (a b c : ℕ) → a + (b + c) ≡ a + b + c
    turn a b c = omega arith

  weigh_sum : (h : Part I → ℕ) (xs : List (Part I)) → weigh h xs ≡ sum_by h xs
  weigh_sum h xs = start (weigh h xs) ∙ weigh_from h 0 xs where
    start : (n : ℕ) → n ≡ 0 + n
    start n = omega arith

  -- the parts_merge_to_leaves items of a run answer the leaves, in their order
  pub parts_merge_to_leaves : (shape : Job → Shape) (item : Job → I → Type 0) (valid : Job → Type 0) →
      Splits shape valid → (root : Job) → valid root → Fits root → (parts : List (Part I)) (items : List I) →
      AreParts shape item root parts → IsMerged parts items → EachAnswers item (leaves shape root) items
  parts_merge_to_leaves shape item valid h root v f parts items are m =
      let w = leaves_within shape valid (halvings_left root.cell) root refl h v f (shape root) refl in
      subst (EachAnswers item (leaves shape root)) (sym m.are)
      (answered shape root item (base root) (base root + 2 ^ halvings_left root.cell) (leaves shape root) w
      (λ x seen leaf. leaf_stands shape valid x (visited shape root) (stands shape valid root h v x seen) leaf)
      m.sorted
      (leaves shape root)
      (λ x i. i)
      (All-permutation (IsPart (IsVisited shape root) (AnswersLeaf shape item)) parts m.sorted m.same are.items)
      (ordered (base root) (base root + 2 ^ halvings_left root.cell) m.sorted (leaves shape root)
      (λ g. weigh_sum (by_path g) m.sorted ∙ sum_by-IsPermutation (by_path g) parts m.sorted m.same
      ∙ sym (weigh_sum (by_path g) parts) ∙ are.once g) m.ascends w))

  -- two lists that answer the same jobs are equal
  pub equal_answers : (item : Job → I → Type 0) → ((j : Job) (a b : I) → item j a → item j b → a ≡ b) →
      (js : List Job) (xs ys : List I) → EachAnswers item js xs → EachAnswers item js ys → xs ≡ ys
  equal_answers item only [] [] [] a b = refl
  equal_answers item only [] [] (y ∷ ys) a b = absurd b
  equal_answers item only [] (x ∷ xs) ys a b = absurd a
  equal_answers item only (j ∷ js) [] ys a b = absurd a
  equal_answers item only (j ∷ js) (x ∷ xs) [] a b = absurd b
  equal_answers item only (j ∷ js) (x ∷ xs) (y ∷ ys) a b = ap₂ (λ z zs. z ∷ zs) (only j x y a.0 b.0) (equal_answers item only js xs ys a.1 b.1)
