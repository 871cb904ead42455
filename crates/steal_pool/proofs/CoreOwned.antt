-- Journals that keep the rules are a run of the core: the tree of the visited boxes with the owner of each.
use Rattle.std.proofs.Common.{◌≡◌, ℕ, zero, suc, ◌+◌, ◌*◌, ◌^◌, ◌<◌, ◌≤◌, List, [], ◌∷◌, ◌++◌, length, map, refl, sym, ap, ap₂, ◌∙◌, subst, arith}
use Rattle.std.proofs.lemmas.List.{map-append}
use Rattle.std.proofs.lemmas.Nat.{pow_pos}
use Rattle.steal_core.specs.Runs.{Tree, rests, halved as node, Rules, halved_in, others_in}
use Rattle.steal_core.proofs.Journals.{is_run}
use Rattle.ember_box.specs.Boxes.{Cell, halvings_left}
use Rattle.ember_job.specs.Weights.{weigh, one}
use Rattle.ember_job.proofs.Weights.{weigh_map, more_weight, one_same}
use Rattle.ember_job.specs.declared.job.Job.{Job}
use Rattle.ember_job.specs.declared.job.Entry.{Entry}
use Rattle.ember_job.specs.declared.job.Kind.{Kind}
use Rattle.ember_job.specs.declared.job.Kind.TheVariants.{Halved, Leafed, Passed}
use Rattle.ember_job.specs.Works.{Shape, halved, leafed, passed, Splits}
use Rattle.ember_job.specs.Visited.{kind_of, entry_of, visited}
use Rattle.ember_job.proofs.Leaves.{halved_visits, leaf_visits, passed_visits}
use Rattle.steal_pool.specs.Steps.{at_entry, if_halved}
use Rattle.steal_pool.specs.Journals.{times, times_halved, if_halved_at, journal_of, KeepRules}
use Rattle.steal_pool.specs.CoreRuns.{unless_halved, IsCoreRun}
use Rattle.steal_pool.proofs.DequeSteps.{weigh_append}
use Rattle.steal_pool.proofs.Trees.{low_less, high_less}
use Rattle.steal_pool.proofs.LeafOrder.{base, Fits, are_halves, fits_low, fits_high}
use Rattle.steal_pool.proofs.RunOfCore.{turn_of, turn_is, Up, up_append, up_from, path_weighs_once, top, owner}
use Rattle.steal_pool.proofs.RunOfCore.{owner_has, some_journal, owner_is, only, keep_weighs, by_owner}
use Rattle.steal_pool.proofs.RunOfCore.{weights_exchange}

halved_nil : (κ : Kind) → if_halved κ 0 ≡ 0
halved_nil Halved = refl
halved_nil Leafed = refl
halved_nil Passed = refl

unless_nil : (κ : Kind) → unless_halved κ 0 ≡ 0
unless_nil Halved = refl
unless_nil Leafed = refl
unless_nil Passed = refl

half_less : (κ : Kind) (n : ℕ) → if_halved κ n ≤ n
half_less Halved n = omega arith
half_less Leafed n = omega arith
half_less Passed n = omega arith

-- a turn lies before the end of its box
room : (b x : ℕ) → 0 < x → b * 2 ^ 27 * 64 + 36 + 1 ≤ (b + x) * 2 ^ 27 * 64
room b x above = omega (arith, above)

module _ (shape : Job → Shape) (valid : Job → Type 0) where
  abbrev tree_shape : (Job → Tree) → Shape → Tree
  tree_shape below (halved l r) = node (below l) (below r)
  tree_shape below leafed = rests
  tree_shape below passed = rests

  abbrev tree_within : ℕ → Job → Tree
  tree_within zero j = rests
  tree_within (suc d) j = tree_shape (tree_within d) (shape j)

  abbrev tree : Job → Tree
  tree j = tree_within (halvings_left j.cell) j

  tree_halved : (d : ℕ) (j l r : Job) → halvings_left j.cell ≡ d → shape j ≡ halved l r →
      halvings_left l.cell + 1 ≡ halvings_left j.cell → halvings_left r.cell + 1 ≡ halvings_left j.cell →
      tree j ≡ node (tree l) (tree r)
  tree_halved zero j l r at is low high = absurd (omega (arith, at, low))
  tree_halved (suc d) j l r at is low high = ap (λ n. tree_within n j) at ∙ ap (tree_shape (tree_within d)) is
      ∙ ap₂ (λ m n. node (tree_within m l) (tree_within n r)) one' two where
        one' : d ≡ halvings_left l.cell
        one' = omega (arith, at, low)

        two : d ≡ halvings_left r.cell
        two = omega (arith, at, high)

  tree_leaf : (d : ℕ) (j : Job) → shape j ≡ leafed → tree_within d j ≡ rests
  tree_leaf zero j is = refl
  tree_leaf (suc d) j is = ap (tree_shape (tree_within d)) is

  tree_passed : (d : ℕ) (j : Job) → shape j ≡ passed → tree_within d j ≡ rests
  tree_passed zero j is = refl
  tree_passed (suc d) j is = ap (tree_shape (tree_within d)) is

  -- the visited boxes are in the order of their turns
  ups : (d : ℕ) (j : Job) → halvings_left j.cell ≡ d → Splits shape valid → valid j → Fits j → (s : Shape) →
      shape j ≡ s → Up (turn_of j.cell.path) (top j) (visited shape j)
  ups d j at h v f leafed is = subst (Up (turn_of j.cell.path) (top j))
      (sym (leaf_visits shape (halvings_left j.cell) j is)) (
        omega arith,
        omega (arith, turn_is j f, room (base j) (2 ^ halvings_left j.cell) (pow_pos (halvings_left j.cell))),
      )
  ups d j at h v f passed is = subst (Up (turn_of j.cell.path) (top j))
      (sym (passed_visits shape (halvings_left j.cell) j is)) (
        omega arith,
        omega (arith, turn_is j f, room (base j) (2 ^ halvings_left j.cell) (pow_pos (halvings_left j.cell))),
      )
  ups zero j at h v f (halved l r) is = absurd (omega (arith, at, low_less j.cell l.cell r.cell (h j l r v is).1))
  ups (suc d) j at h v f (halved l r) is =
      let k = h j l r v is in
      let both = are_halves j l r k.1 in
      let fl = fits_low j l r k.1 f in
      let fr = fits_high j l r k.1 f in
      let wl = ups d l (omega (arith, at, both.low_less)) h k.0.0 fl (shape l) refl in
      let wr = ups d r (omega (arith, at, both.high_less)) h k.0.1 fr (shape r) refl in
      let next : turn_of l.cell.path ≡ turn_of j.cell.path + 1 = omega (arith, turn_is l fl, turn_is j f, both.low_base, both.low_less, f.few) in
      let mid : top l ≤ turn_of r.cell.path = omega (arith, turn_is r fr, both.low_base, both.low_size, both.high_base, both.high_size) in
      let end : top r ≡ top j = omega (arith, both.high_base, both.high_size) in
      subst (Up (turn_of j.cell.path) (top j)) (sym
      (halved_visits shape (halvings_left j.cell) j l r refl is both.low_less both.high_less)) (
        omega arith,
        up_append (turn_of j.cell.path + 1) (top l) (top j) (visited shape l) (visited shape r)
            (subst (λ n. Up n (top l) (visited shape l)) next wl)
            (up_from (turn_of r.cell.path) (top l) (top j) (visited shape r) mid
            (subst (λ n. Up (turn_of r.cell.path) n (visited shape r)) end wr)),
      )

  module _ (root : Job) (n : ℕ) (js : List (List Entry)) (h : Splits shape valid) (v : valid root) (f : Fits root)
      (rules : KeepRules shape root n js) (many : length js ≡ n + 1) where
    abbrev own : ℕ → ℕ
    own = owner js

    abbrev all : (Entry → ℕ) → ℕ
    all w = weigh w (map (entry_of shape) (visited shape root))

    few : (p : ℕ) → weigh (times p) js ≤ 1
    few p = omega (
      arith,
      rules.once (at_entry (one p)),
      weigh_map (entry_of shape) (at_entry (one p)) (visited shape root),
      path_weighs_once (turn_of root.cell.path) (top root) p (visited shape root)
          (ups (halvings_left root.cell) root refl h v f (shape root) refl),
    )

    -- what is visited below j is a part of what is visited below the root
    abbrev Part : Job → Type 0
    Part j = (w : Entry → ℕ) → weigh w (map (entry_of shape) (visited shape j)) ≤ all w

    own_few : (j : Job) → Part j → (rest : List Job) → visited shape j ≡ j ∷ rest → own j.cell.path ≤ n
    own_few j part rest is = omega (
      arith,
      many,
      (owner_has js j.cell.path (omega (
        arith,
        rules.once (at_entry (one j.cell.path)),
        part (at_entry (one j.cell.path)),
        ap (λ xs. weigh (at_entry (one j.cell.path)) (map (entry_of shape) xs)) is,
        one_same j.cell.path j.cell.path refl,
      ))).1,
    )

    -- the journal of a halved box
    halved_own : (j l r : Job) → Part j → (rest : List Job) → visited shape j ≡ j ∷ rest → shape j ≡ halved l r →
        0 < times_halved j.cell.path (journal_of (own j.cell.path) js)
    halved_own j l r part rest is cut =
        let p : ℕ = j.cell.path in
        let me : if_halved (kind_of (shape j)) (one p p) ≡ 1 = ap (λ s. if_halved (kind_of s) (one p p)) cut ∙ one_same p p refl in
        let found = some_journal (times_halved p) js
        (omega (
          arith,
          rules.once (if_halved_at p),
          part (if_halved_at p),
          ap (λ xs. weigh (if_halved_at p) (map (entry_of shape) xs)) is,
          me,
        )) in
        let here : own p ≡ found.0 = owner_is js p found.0 (few p)
        (omega (
          arith,
          found.1,
          more_weight (if_halved_at p) (at_entry (one p)) (λ e. half_less e.kind (one p e.path))
              (journal_of found.0 js),
        )) in
        subst (λ k. 0 < times_halved p (journal_of k js)) (sym here) found.1

    kept : (d : ℕ) (j : Job) → halvings_left j.cell ≡ d → valid j → Part j → (s : Shape) → shape j ≡ s → Rules n own (tree j) j.cell.path
    kept d j at w part leafed is = subst (λ t. Rules n own t j.cell.path) (sym (tree_leaf (halvings_left j.cell) j is))
        (own_few j part [] (leaf_visits shape (halvings_left j.cell) j is))
    kept d j at w part passed is = subst (λ t. Rules n own t j.cell.path)
        (sym (tree_passed (halvings_left j.cell) j is))
        (own_few j part [] (passed_visits shape (halvings_left j.cell) j is))
    kept zero j at w part (halved l r) is = absurd (omega (arith, at, low_less j.cell l.cell r.cell (h j l r w is).1))
    kept (suc d) j at w part (halved l r) is =
        let k = h j l r w is in
        let low = low_less j.cell l.cell r.cell k.1 in
        let high = high_less j.cell l.cell r.cell k.1 in
        let pl : l.cell.path ≡ 2 * j.cell.path = ap (λ (c : Cell). c.path) k.1.is_low in
        let pr : r.cell.path ≡ 2 * j.cell.path + 1 = ap (λ (c : Cell). c.path) k.1.is_high in
        let visits = halved_visits shape (halvings_left j.cell) j l r refl is low high in
        let mine = halved_own j l r part (visited shape l ++ visited shape r) visits is in
        let sum : (u : Entry → ℕ) → weigh u (map (entry_of shape) (visited shape l))
        + weigh u (map (entry_of shape) (visited shape r)) ≤ all u =
        λ u. omega (
          arith,
          part u,
          ap (λ xs. weigh u (map (entry_of shape) xs)) visits,
          ap (weigh u) (map-append (entry_of shape) (visited shape l) (visited shape r)),
          weigh_append u (map (entry_of shape) (visited shape l)) (map (entry_of shape) (visited shape r)),
        ) in
        let tl = kept d l (omega (arith, at, low)) k.0.0 (λ u. omega (arith, sum u)) (shape l) refl in
        let tr = kept d r (omega (arith, at, high)) k.0.1 (λ u. omega (arith, sum u)) (shape r) refl in
        subst (λ t. Rules n own t j.cell.path) (sym (tree_halved (halvings_left j.cell) j l r refl is low high)) (
          own_few j part (visited shape l ++ visited shape r) visits,
          owner_is js (2 * j.cell.path) (own j.cell.path) (few (2 * j.cell.path)) (rules.lefts (own j.cell.path) j.cell.path mine),
          (λ last. owner_is js (2 * j.cell.path + 1) n (few (2 * j.cell.path + 1))
              (rules.rights j.cell.path (subst (λ m. 0 < times_halved j.cell.path (journal_of m js)) last mine))),
          subst (λ p. Rules n own (tree l) p) pl tl,
          subst (λ p. Rules n own (tree r) p) pr tr,
        )

    -- what each number ends, by the owners
    halves_sum : (m : ℕ) (g : ℕ → ℕ) (d : ℕ) (j : Job) → halvings_left j.cell ≡ d → valid j → (s : Shape) →
        shape j ≡ s → weigh g (halved_in m own (tree j) j.cell.path) ≡ weigh (by_owner if_halved halved_nil own m g)
        (map (entry_of shape) (visited shape j))
    halves_sum m g d j at w leafed is = ap (λ t. weigh g (halved_in m own t j.cell.path))
        (tree_leaf (halvings_left j.cell) j is) ∙ sym
        (ap (λ xs. weigh (by_owner if_halved halved_nil own m g) (map (entry_of shape) xs))
        (leaf_visits shape (halvings_left j.cell) j is)
        ∙ ap (λ s. if_halved (kind_of s) (only m (own j.cell.path) (g j.cell.path)) + 0) is)
    halves_sum m g d j at w passed is = ap (λ t. weigh g (halved_in m own t j.cell.path))
        (tree_passed (halvings_left j.cell) j is) ∙ sym
        (ap (λ xs. weigh (by_owner if_halved halved_nil own m g) (map (entry_of shape) xs))
        (passed_visits shape (halvings_left j.cell) j is)
        ∙ ap (λ s. if_halved (kind_of s) (only m (own j.cell.path) (g j.cell.path)) + 0) is)
    halves_sum m g zero j at w (halved l r) is = absurd (omega (arith, at, low_less j.cell l.cell r.cell (h j l r w is).1))
    halves_sum m g (suc d) j at w (halved l r) is =
        let k = h j l r w is in
        let low = low_less j.cell l.cell r.cell k.1 in
        let high = high_less j.cell l.cell r.cell k.1 in
        let u : Entry → ℕ = by_owner if_halved halved_nil own m g in
        let al : List ℕ = halved_in m own (tree l) (2 * j.cell.path) in
        let ar : List ℕ = halved_in m own (tree r) (2 * j.cell.path + 1) in
        omega (
          arith,
          ap (λ t. weigh g (halved_in m own t j.cell.path)) (tree_halved (halvings_left j.cell) j l r refl is low high),
          keep_weighs g m (own j.cell.path) j.cell.path (al ++ ar),
          weigh_append g al ar,
          ap (λ p. weigh g (halved_in m own (tree l) p)) (ap (λ (c : Cell). c.path) k.1.is_low),
          ap (λ p. weigh g (halved_in m own (tree r) p)) (ap (λ (c : Cell). c.path) k.1.is_high),
          halves_sum m g d l (omega (arith, at, low)) k.0.0 (shape l) refl,
          halves_sum m g d r (omega (arith, at, high)) k.0.1 (shape r) refl,
          ap (λ xs. weigh u (map (entry_of shape) xs)) (halved_visits shape (halvings_left j.cell) j l r refl is low high),
          ap (weigh u) (map-append (entry_of shape) (visited shape l) (visited shape r)),
          weigh_append u (map (entry_of shape) (visited shape l)) (map (entry_of shape) (visited shape r)),
          ap (λ s. if_halved (kind_of s) (only m (own j.cell.path) (g j.cell.path))) is,
        )

    others_sum : (m : ℕ) (g : ℕ → ℕ) (d : ℕ) (j : Job) → halvings_left j.cell ≡ d → valid j → (s : Shape) →
        shape j ≡ s → weigh g (others_in m own (tree j) j.cell.path) ≡ weigh (by_owner unless_halved unless_nil own m g)
        (map (entry_of shape) (visited shape j))
    others_sum m g d j at w leafed is = ap (λ t. weigh g (others_in m own t j.cell.path))
        (tree_leaf (halvings_left j.cell) j is) ∙ keep_weighs g m (own j.cell.path) j.cell.path []
        ∙ sym (ap (λ xs. weigh (by_owner unless_halved unless_nil own m g) (map (entry_of shape) xs))
        (leaf_visits shape (halvings_left j.cell) j is)
        ∙ ap (λ s. unless_halved (kind_of s) (only m (own j.cell.path) (g j.cell.path)) + 0) is)
    others_sum m g d j at w passed is = ap (λ t. weigh g (others_in m own t j.cell.path))
        (tree_passed (halvings_left j.cell) j is) ∙ keep_weighs g m (own j.cell.path) j.cell.path []
        ∙ sym (ap (λ xs. weigh (by_owner unless_halved unless_nil own m g) (map (entry_of shape) xs))
        (passed_visits shape (halvings_left j.cell) j is)
        ∙ ap (λ s. unless_halved (kind_of s) (only m (own j.cell.path) (g j.cell.path)) + 0) is)
    others_sum m g zero j at w (halved l r) is = absurd (omega (arith, at, low_less j.cell l.cell r.cell (h j l r w is).1))
    others_sum m g (suc d) j at w (halved l r) is =
        let k = h j l r w is in
        let low = low_less j.cell l.cell r.cell k.1 in
        let high = high_less j.cell l.cell r.cell k.1 in
        let u : Entry → ℕ = by_owner unless_halved unless_nil own m g in
        let al : List ℕ = others_in m own (tree l) (2 * j.cell.path) in
        let ar : List ℕ = others_in m own (tree r) (2 * j.cell.path + 1) in
        omega (
          arith,
          ap (λ t. weigh g (others_in m own t j.cell.path)) (tree_halved (halvings_left j.cell) j l r refl is low high),
          weigh_append g al ar,
          ap (λ p. weigh g (others_in m own (tree l) p)) (ap (λ (c : Cell). c.path) k.1.is_low),
          ap (λ p. weigh g (others_in m own (tree r) p)) (ap (λ (c : Cell). c.path) k.1.is_high),
          others_sum m g d l (omega (arith, at, low)) k.0.0 (shape l) refl,
          others_sum m g d r (omega (arith, at, high)) k.0.1 (shape r) refl,
          ap (λ xs. weigh u (map (entry_of shape) xs)) (halved_visits shape (halvings_left j.cell) j l r refl is low high),
          ap (weigh u) (map-append (entry_of shape) (visited shape l) (visited shape r)),
          weigh_append u (map (entry_of shape) (visited shape l)) (map (entry_of shape) (visited shape r)),
          ap (λ s. unless_halved (kind_of s) (only m (own j.cell.path) (g j.cell.path))) is,
        )

    in_place : (m q : ℕ) → 0 < times q (journal_of m js) → own q ≡ 0 + m
    in_place m q some = owner_is js q m (few q) some ∙ start m where
      start : (a : ℕ) → a ≡ 0 + a
      start a = omega arith

    pub core_run : (room : ℕ) → root.cell.path ≡ 1 → IsCoreRun n room js
    core_run room at =
        let r = is_run n room own (tree root) (owner_is js 1 0 (few 1) rules.begun)
        (subst (λ p. Rules n own (tree root) p) at
        (kept (halvings_left root.cell) root refl v (λ u. omega arith) (shape root) refl)) in record {
          events = r.events;
          last = r.last;
          run = r.run;
          ended = r.ended;
          halved = λ k path. ap (weigh (one path)) (r.halved k)
              ∙ sym (ap (λ p. weigh (one path) (halved_in k own (tree root) p)) at)
              ∙ halves_sum k (one path) (halvings_left root.cell) root refl v (shape root) refl
              ∙ sym (rules.once (by_owner if_halved halved_nil own k (one path)))
              ∙ (weights_exchange if_halved halved_nil own k (one path) 0 js in_place).0 k (start k);
          finished = λ k path. ap (weigh (one path)) (r.finished k)
              ∙ sym (ap (λ p. weigh (one path) (others_in k own (tree root) p)) at)
              ∙ others_sum k (one path) (halvings_left root.cell) root refl v (shape root) refl
              ∙ sym (rules.once (by_owner unless_halved unless_nil own k (one path)))
              ∙ (weights_exchange unless_halved unless_nil own k (one path) 0 js in_place).0 k (start k);
        }
      where
        start : (a : ℕ) → a ≡ 0 + a
        start a = omega arith
