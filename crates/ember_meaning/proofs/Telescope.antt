-- Telescoping without sorting: the sum of what is written beyond a point is the value at it.
use Rattle.std.proofs.Common.{◌≡◌, ℕ, zero, suc, ◌<◌, ◌≤◌, refl, ap, ◌∙◌, sym, List, [], ◌∷◌, Bool, true, false, not}
use Rattle.std.proofs.Common.{◌&&◌, cond, ℤ, pos, ◌+ℤ◌, ◌-ℤ◌, ◌⊎◌, inl, inr, ⊎_elim, arith, le_refl}
use Rattle.std.specs.List.{filter, count_by}
use Rattle.std.proofs.lemmas.List.Sums.{sum_by-cons}
use Rattle.std.proofs.lemmas.Bool.{cases_Bool, false≢true, and_parts, not-true}
use Rattle.ember_algebra.proofs.Laws.{linear}
use Rattle.ember_box.specs.Sums.{number}
use Rattle.ember_meaning.specs.Regions.Meaning.{one_if}
use Rattle.ember_meaning.proofs.Lines.{In, here, there, IsOrder, total_of, beyond, onward, is_same_place, Placed}

-- ---- lists whose members pass alike
filter_same : {H : Type 0} (p q : H → Bool) (hs : List H) → ((h : H) → In h hs → p h ≡ q h) → filter p hs ≡ filter q hs
filter_same p q [] f = refl
filter_same p q (h ∷ hs) f =
    rw (f h here) (ap (λ l. cond (q h) (h ∷ l) l) (filter_same p q hs (λ g i. f g (there i))))

-- tests that agree on the members of a list count the same
pub count_same : {W : Type 0} (p q : W → Bool) (ws : List W) → ((w : W) → In w ws → p w ≡ q w) → count_by p ws ≡ count_by q ws
count_same p q [] f = refl
count_same p q (w ∷ ws) f =
    let e = ap number (f w here) in
    omega (arith, e, sum_by-cons (λ x. cond (p x) 1 0) w ws, sum_by-cons (λ x. cond (q x) 1 0) w ws, count_same p q ws (λ g i. f g (there i)))

filter_none : {H : Type 0} (p : H → Bool) (hs : List H) → ((h : H) → In h hs → p h ≡ false) → filter p hs ≡ []
filter_none p [] f = refl
filter_none p (h ∷ hs) f = rw (f h here) (filter_none p hs (λ g i. f g (there i)))

total_none : {W : Type 0} (amount : W → ℤ) (p : W → Bool) (ws : List W) → ((w : W) → In w ws → p w ≡ false) → total_of amount p ws ≡ pos 0
total_none amount p [] f = refl
total_none amount p (w ∷ ws) f = rw (f w here) (rw (total_none amount p ws (λ g i. f g (there i))) refl)

-- if p is q or r, and never both, its total is theirs
total_parts : {W : Type 0} (amount : W → ℤ) (p q r : W → Bool) (ws : List W) →
    ((w : W) → In w ws → ((p w ≡ q w) × (r w ≡ false)) ⊎ ((p w ≡ r w) × (q w ≡ false))) →
    total_of amount p ws ≡ total_of amount q ws +ℤ total_of amount r ws
total_parts amount p q r [] f = refl
total_parts amount p q r (w ∷ ws) f =
    at (total_parts amount p q r ws (λ g i. f g (there i))) (f w here)
  where
    at : total_of amount p ws ≡ total_of amount q ws +ℤ total_of amount r ws →
        ((p w ≡ q w) × (r w ≡ false)) ⊎ ((p w ≡ r w) × (q w ≡ false)) →
        total_of amount p (w ∷ ws) ≡ total_of amount q (w ∷ ws) +ℤ total_of amount r (w ∷ ws)
    at h (inl e) = rw (e.0, e.1) (omega (arith, linear))
    at h (inr e) = rw (e.0, e.1) (omega (arith, linear))

module _ {K : Type 0} (before : K → K → Bool) (order : IsOrder before) where
  -- ---- the nearest key beyond y
  pub record Nearest (y : K) (ks : List K) : Type 0 where
    pub key : K
    pub member : In key ks
    pub is_ahead : before y key ≡ true
    pub is_first : (k : K) → In k ks → before y k ≡ true → before k key ≡ false

  nearest : (y : K) (ks : List K) → ((k : K) → In k ks → before y k ≡ false) ⊎ Nearest y ks
  nearest y [] = inl (λ k i. elim i [ ])
  nearest y (a ∷ ks) = at (nearest y ks) (cases_Bool (before y a))
    where
      none_of : before y a ≡ false → ((k : K) → In k ks → before y k ≡ false) → (k : K) → In k (a ∷ ks) → before y k ≡ false
      none_of e f k here = e
      none_of e f k (there i) = f k i

      alone : ((k : K) → In k ks → before y k ≡ false) → (k : K) → In k (a ∷ ks) → before y k ≡ true → before k a ≡ false
      alone f k here h = order.irreflexive a
      alone f k (there i) h = absurd (false≢true (sym (f k i) ∙ h))

      old : (n : Nearest y ks) → ((before y a ≡ true) → before a n.key ≡ false) → (k : K) → In k (a ∷ ks) → before y k ≡ true → before k n.key ≡ false
      old n e k here h = e h
      old n e k (there i) h = n.is_first k i h

      new : (n : Nearest y ks) → before a n.key ≡ true → (k : K) → In k (a ∷ ks) → before y k ≡ true → before k a ≡ false
      new n e k here h = order.irreflexive a
      new n e k (there i) h =
          ⊎_elim (λ t. absurd (false≢true (sym (n.is_first k i h) ∙ order.transitive k a n.key t e))) (λ t. t) (cases_Bool (before k a))

      at : ((k : K) → In k ks → before y k ≡ false) ⊎ Nearest y ks → (before y a ≡ true) ⊎ (before y a ≡ false) →
          ((k : K) → In k (a ∷ ks) → before y k ≡ false) ⊎ Nearest y (a ∷ ks)
      at (inl f) (inr e) = inl (none_of e f)
      at (inl f) (inl e) = inr (record { key = a; member = here; is_ahead = e; is_first = alone f })
      at (inr n) (inr e) =
          inr (record { key = n.key; member = there n.member; is_ahead = n.is_ahead; is_first = old n (λ h. absurd (false≢true (sym e ∙ h))) })
      at (inr n) (inl e) =
          ⊎_elim (λ t. inr (record { key = a; member = here; is_ahead = e; is_first = new n t }))
          (λ t. inr (record {
            key = n.key;
            member = there n.member;
            is_ahead = n.is_ahead;
            is_first =
                old n (λ h. t);
          })) (cases_Bool (before a n.key))

  -- ---- beyond the nearest key there are fewer
  fewer_or_same : (x y : K) (ks : List K) → before y x ≡ true → count_by (λ k. before x k) ks ≤ count_by (λ k. before y k) ks
  fewer_or_same x y [] h = omega arith
  fewer_or_same x y (k ∷ ks) h =
      at (cases_Bool (before x k)) (fewer_or_same x y ks h)
    where
      at : (before x k ≡ true) ⊎ (before x k ≡ false) → count_by (λ k. before x k) ks ≤ count_by (λ k. before y k) ks →
          count_by (λ k. before x k) (k ∷ ks) ≤ count_by (λ k. before y k) (k ∷ ks)
      at (inl e) f =
          let g = order.transitive y x k h e in
          omega (arith, sum_by-cons (λ k. cond (before x k) 1 0) k ks, sum_by-cons (λ k. cond (before y k) 1 0) k ks, f, ap number e, ap number g)
      at (inr e) f =
          omega (arith, sum_by-cons (λ k. cond (before x k) 1 0) k ks, sum_by-cons (λ k. cond (before y k) 1 0) k ks, f, ap number e)

  fewer : (x y : K) (ks : List K) → In x ks → before y x ≡ true → count_by (λ k. before x k) ks < count_by (λ k. before y k) ks
  fewer x y ks (here {xs = ks'}) h =
      omega (
        arith,
        sum_by-cons (λ k. cond (before x k) 1 0) x ks',
        sum_by-cons (λ k. cond (before y k) 1 0) x ks',
        fewer_or_same x y ks' h,
        ap number (order.irreflexive x),
        ap number h,
      )
  fewer x y ks (there {y = k} {xs = ks'} i) h =
      at (cases_Bool (before x k)) (fewer x y ks' i h)
    where
      at : (before x k ≡ true) ⊎ (before x k ≡ false) →
          count_by (λ k. before x k) ks' < count_by (λ k. before y k) ks' →
          count_by (λ k. before x k) (k ∷ ks') < count_by (λ k. before y k) (k ∷ ks')
      at (inl e) f =
          let g = order.transitive y x k h e in
          omega (arith, sum_by-cons (λ k. cond (before x k) 1 0) k ks', sum_by-cons (λ k. cond (before y k) 1 0) k ks', f, ap number e, ap number g)
      at (inr e) f =
          omega (arith, sum_by-cons (λ k. cond (before x k) 1 0) k ks', sum_by-cons (λ k. cond (before y k) 1 0) k ks', f, ap number e)

  -- ---- keys of one place
  swap_ahead : (a b y : K) → before a b ≡ false → before y a ≡ false → before y b ≡ false
  swap_ahead a b y e h =
      ⊎_elim (λ t. ⊎_elim (λ u. absurd (false≢true (sym h ∙ u))) (λ u. absurd (false≢true (sym e ∙ u)))
      (order.between y a b t)) (λ t. t) (cases_Bool (before y b))

  swap_behind : (a b y : K) → before b a ≡ false → before a y ≡ false → before b y ≡ false
  swap_behind a b y e h =
      ⊎_elim (λ t. ⊎_elim (λ u. absurd (false≢true (sym e ∙ u))) (λ u. absurd (false≢true (sym h ∙ u)))
      (order.between b a y t)) (λ t. t) (cases_Bool (before b y))

  equal_tests : (b c : Bool) → (b ≡ false → c ≡ false) → (c ≡ false → b ≡ false) → b ≡ c
  equal_tests true true f g = refl
  equal_tests true false f g = sym (sym (g refl))
  equal_tests false true f g = sym (f refl)
  equal_tests false false f g = refl

  apart : (a b : K) → is_same_place before a b ≡ true → (before a b ≡ false) × (before b a ≡ false)
  apart a b h = let t = and_parts _ _ h in (not-true _ t.0, not-true _ t.1)

  same_ahead : (a b y : K) → is_same_place before a b ≡ true → before y a ≡ before y b
  same_ahead a b y h =
      let t = apart a b h in
      equal_tests (before y a) (before y b) (swap_ahead a b y t.0) (swap_ahead b a y t.1)

  same_behind : (a b y : K) → is_same_place before a b ≡ true → before a y ≡ before b y
  same_behind a b y h =
      let t = apart a b h in
      equal_tests (before a y) (before b y) (swap_behind a b y t.1) (swap_behind b a y t.0)

  -- ---- hits with their keys, and what is written with its places and amounts
  module _ {H W : Type 0} (key : H → K) (place : W → K) (amount : W → ℤ) (value : List H → Bool) (ks : List K) (hs : List H) (ws : List W) where
    -- every hit's key and every place is among the keys; at each key the amounts are the value
    -- before it less that beyond it; past all hits the value is false
    pub record Telescopes : Type 0 where
      pub hits : (h : H) → In h hs → In (key h) ks
      pub places : (w : W) → In w ws → Placed before ks (place w)
      pub jumps : (x : K) → In x ks → total_of amount (λ w. is_same_place before x (place w)) ws ≡ one_if
          (value (onward before key x hs)) -ℤ one_if (value (beyond before key x hs))
      pub past : value [] ≡ false

    module _ (t : Telescopes) where
      -- from y on, the keys beyond y are those not before the nearest
      ahead : (y : K) (n : Nearest y ks) (k : K) → In k ks → before y k ≡ not (before k n.key)
      ahead y n k i =
          ⊎_elim (λ e. e ∙ sym (ap not (n.is_first k i e))) (λ e. e ∙ sym (ap not (behind e))) (cases_Bool (before y k))
        where
          behind : before y k ≡ false → before k n.key ≡ true
          behind e =
              ⊎_elim (λ h. absurd (false≢true (sym e ∙ h))) (λ h. h) (order.between y k n.key n.is_ahead)

      ahead_placed : (y : K) (n : Nearest y ks) (z : K) → Placed before ks z → before y z ≡ not (before z n.key)
      ahead_placed y n z q =
          sym (same_ahead q.key z y q.same) ∙ ahead y n q.key q.member ∙ ap not (same_behind q.key z n.key q.same)

      same_beyond : (y : K) (n : Nearest y ks) → beyond before key y hs ≡ onward before key n.key hs
      same_beyond y n =
          filter_same (λ h. before y (key h)) (λ h. not (before (key h) n.key)) hs (λ h i. ahead y n (key h) (t.hits h i))

      parts : (y : K) (n : Nearest y ks) → total_of amount (λ w. before y (place w)) ws ≡ total_of amount
          (λ w. is_same_place before n.key (place w)) ws +ℤ total_of amount (λ w. before n.key (place w)) ws
      parts y n =
          total_parts amount (λ w. before y (place w)) (λ w. is_same_place before n.key (place w))
          (λ w. before n.key (place w)) ws (λ w i. at w (ahead_placed y n (place w) (t.places w i))
          (cases_Bool (before n.key (place w))))
        where
          after : (w : W) → before n.key (place w) ≡ true → before (place w) n.key ≡ false
          after w e =
              ⊎_elim (λ h. absurd (false≢true (sym (order.irreflexive n.key)
              ∙ order.transitive n.key (place w) n.key e h))) (λ h. h) (cases_Bool (before (place w) n.key))

          at : (w : W) → before y (place w) ≡ not (before (place w) n.key) →
              (before n.key (place w) ≡ true) ⊎ (before n.key (place w) ≡ false) →
              ((before y (place w) ≡ is_same_place before n.key (place w)) × (before n.key (place w) ≡ false)) ⊎
              ((before y (place w) ≡ before n.key (place w)) × (is_same_place before n.key (place w) ≡ false))
          at w e (inl h) = inr (e ∙ ap not (after w h) ∙ sym h, ap (λ b. not b && not (before (place w) n.key)) h)
          at w e (inr h) = inl (e ∙ sym (ap (λ b. not b && not (before (place w) n.key)) h), h)

      at_none : (y : K) → ((k : K) → In k ks → before y k ≡ false) → total_of amount (λ w. before y (place w)) ws ≡ one_if (value (beyond before key y hs))
      at_none y f =
          total_none amount (λ w. before y (place w)) ws (λ w i. let q = t.places w i in
          sym (same_ahead q.key (place w) y q.same) ∙ f q.key q.member)
          ∙ sym (ap (λ l. one_if (value l)) (filter_none (λ h. before y (key h)) hs (λ h i. f (key h) (t.hits h i)))
          ∙ ap one_if t.past)

      at_nearest : (y : K) (n : Nearest y ks) → total_of amount (λ w. before n.key (place w)) ws ≡ one_if
          (value (beyond before key n.key hs)) → total_of amount (λ w. before y (place w)) ws ≡ one_if
          (value (beyond before key y hs))
      at_nearest y n e =
          let s = ap (λ l. one_if (value l)) (same_beyond y n) in
          omega (arith, linear, parts y n, t.jumps n.key n.member, e, s)

      telescope_within : (m : ℕ) (y : K) → count_by (λ k. before y k) ks ≤ m →
          total_of amount (λ w. before y (place w)) ws ≡ one_if (value (beyond before key y hs))
      telescope_within zero y l =
          ⊎_elim (λ f. at_none y f) (λ n. absurd (none_left y n l)) (nearest y ks)
        where
          none_left : (y : K) (n : Nearest y ks) → count_by (λ k. before y k) ks ≤ 0 → ⊥
          none_left y n l = omega (arith, fewer n.key y ks n.member n.is_ahead)
      telescope_within (suc m) y l =
          ⊎_elim (λ f. at_none y f) (λ n. at_nearest y n (telescope_within m n.key (one_less y n m l))) (nearest y ks)
        where
          one_less : (y : K) (n : Nearest y ks) (m : ℕ) → count_by (λ k. before y k) ks ≤ suc m → count_by (λ k. before n.key k) ks ≤ m
          one_less y n m l = omega (arith, fewer n.key y ks n.member n.is_ahead)

      -- from each point of the line on, the amounts add up to its value
      pub telescope : (y : K) → total_of amount (λ w. before y (place w)) ws ≡ one_if (value (beyond before key y hs))
      telescope y = telescope_within (count_by (λ k. before y k) ks) y (le_refl _)
