-- The leaves of the full tree part a box: each point of the half-open box is in exactly one leaf's.
use Rattle.std.proofs.Common.{◌≡◌, ℕ, zero, suc, pred, ◌+◌, ◌^◌, ◌<◌, refl, ap, ◌∙◌, List, [], ◌∷◌, ◌++◌, map, Bool, true, false}
use Rattle.std.proofs.Common.{◌&&◌, cond, ℤ, pos, ◌+ℤ◌, ◌*ℤ◌, ◌≤ℤ◌, ◌⊎◌, inl, inr, arith}
use borrow.Author.Differences.{ints}
use Rattle.std.specs.Prelude.{int_le, int_lt}
use Rattle.std.specs.List.{count_by}
use Rattle.std.proofs.lemmas.List.{map-append}
use Rattle.std.proofs.lemmas.List.Sums.{sum_by-append, sum_by-cons}
use Rattle.std.proofs.lemmas.Bool.{cases_Bool}
use Rattle.std.proofs.Math.Nat.{pow-suc}
use Rattle.ember_algebra.proofs.Laws.{linear}
use Rattle.ember_algebra.proofs.Order.{nonneg_mul}
use Rattle.ember_algebra.proofs.Ring.{◌⊕◌, ◌⊗◌, ◌≈◌, solve, cancels}
use Rattle.ember_model.specs.declared.tri.Tri.{Tri}
use Rattle.ember_model.specs.declared.point.Spot.{Spot}
use Rattle.ember_model.specs.declared.point.Axis.{Axis}
use Rattle.ember_model.specs.declared.point.Axis.TheVariants.{X, Y, Z}
use Rattle.ember_box.specs.Boxes.{Cell, low, high, root, halvings_left, left_half, right_half, in_steps}
use Rattle.ember_box.specs.Halving.{halving_axis_on, is_leaf_on, leaves_within_on, leaves_on}
use Rattle.ember_box.specs.Sums.{number}
use Rattle.ember_box.proofs.Halvable.{halvable_unless_leaf}
use Rattle.ember_box.proofs.InSteps.{above_in_steps, left_in_steps, right_in_steps}
use Rattle.ember_meaning.proofs.CountedPoints.{is_between, is_in_box}

-- ---- one axis
three_tests : (a b c x : ℤ) → a ≤ℤ b → b ≤ℤ c → number (int_le a x && int_lt x b) + number (int_le b x && int_lt x c) ≡ number (int_le a x && int_lt x c)
three_tests a b c x h k = grind (arith, ints)

-- ---- the two halves part a box
double : (n : ℕ) → 0 < n → 2 ^ pred n + 2 ^ pred n ≡ 2 ^ n
double zero h = absurd (omega arith)
double (suc n) h = omega (arith, pow-suc 2 n)

both_left : (p q r a : Bool) → number p + number q ≡ number r → number (p && a) + number (q && a) ≡ number (r && a)
both_left p q r false h = rw (and-false p, and-false q, and-false r) refl
  where
    and-false : (b : Bool) → (b && false) ≡ false
    and-false true = refl
    and-false false = refl
both_left p q r true h = rw (and-true p, and-true q, and-true r) h
  where
    and-true : (b : Bool) → (b && true) ≡ b
    and-true true = refl
    and-true false = refl

both_right : (a p q r : Bool) → number p + number q ≡ number r → number (a && p) + number (a && q) ≡ number (a && r)
both_right true p q r h = h
both_right false p q r h = refl

axis_halves : (l x w : ℤ) (n : ℕ) → 0 < n → pos 0 ≤ℤ w →
    number (is_between l (l +ℤ pos (2 ^ pred n)) x w)
    + number (is_between (l +ℤ pos (2 ^ pred n)) (l +ℤ pos (2 ^ pred n) +ℤ pos (2 ^ pred n)) x w) ≡ number
    (is_between l (l +ℤ pos (2 ^ n)) x w)
axis_halves l x w n h p =
    at (2 ^ pred n) (2 ^ n) (double n h)
  where
    more_of : (a : ℤ) (k : ℕ) → (a *ℤ w) ≤ℤ ((a +ℤ pos k) *ℤ w)
    more_of a k =
        let z : pos 0 ≤ℤ pos k = omega (arith, ints) in
        omega (arith, linear, nonneg_mul z p, solve 3 (λ a k w. (a ⊕ k) ⊗ w ≈ a ⊗ w ⊕ k ⊗ w) cancels a (pos k) w)

    at : (m k : ℕ) → m + m ≡ k → number (is_between l (l +ℤ pos m) x w)
        + number (is_between (l +ℤ pos m) (l +ℤ pos m +ℤ pos m) x w) ≡ number (is_between l (l +ℤ pos k) x w)
    at m k e =
        let s : l +ℤ pos m +ℤ pos m ≡ l +ℤ pos k = omega (arith, ints) in
        three_tests (l *ℤ w) ((l +ℤ pos m) *ℤ w) ((l +ℤ pos m +ℤ pos m) *ℤ w) x (more_of l m) (more_of (l +ℤ pos m) m)
        ∙ ap (λ (h : ℤ). number (is_between l h x w)) s

halves_count : (c : Cell) (k : Axis) (v : Spot) → pos 0 ≤ℤ v.w → 0 < c.log k →
    number (is_in_box (left_half c k) v) + number (is_in_box (right_half c k) v) ≡ number (is_in_box c v)
halves_count c X v w h =
    both_left _ _ _ (is_between (low c Y) (high c Y) v.y v.w && is_between (low c Z) (high c Z) v.z v.w) (axis_halves c.lo.x v.x v.w (c.log X) h w)
halves_count c Y v w h =
    both_right (is_between (low c X) (high c X) v.x v.w) _ _ _
    (both_left _ _ _ (is_between (low c Z) (high c Z) v.z v.w) (axis_halves c.lo.y v.y v.w (c.log Y) h w))
halves_count c Z v w h =
    both_right (is_between (low c X) (high c X) v.x v.w) _ _ _
    (both_right (is_between (low c Y) (high c Y) v.y v.w) _ _ _ (axis_halves c.lo.z v.z v.w (c.log Z) h w))

-- ---- the full tree of a grid on which a unit has 2^u steps
-- its leaves below a box, as boxes in steps
abbrev boxes_below : ℕ → List Tri → ℕ → Cell → List Cell
boxes_below u ts n c = map (in_steps u) (leaves_within_on u ts n c)

of_halves : (u : ℕ) (ts : List Tri) (n : ℕ) (c : Cell) (v : Spot) → pos 0 ≤ℤ v.w →
    ((d : Cell) → count_by (λ e. is_in_box e v) (boxes_below u ts n d) ≡ number (is_in_box (in_steps u d) v)) → (k : Axis) →
    0 < c.log k → count_by (λ d. is_in_box d v) (map (in_steps u) (leaves_within_on u ts n (left_half c k)
    ++ leaves_within_on u ts n (right_half c k))) ≡ number (is_in_box (in_steps u c) v)
of_halves u ts n c v w f k h =
    ap (λ (ds : List Cell). count_by (λ d. is_in_box d v) ds)
    (map-append (in_steps u) (leaves_within_on u ts n (left_half c k)) (leaves_within_on u ts n (right_half c k)))
    ∙ sum_by-append (λ d. cond (is_in_box d v) 1 0) (boxes_below u ts n (left_half c k)) (boxes_below u ts n (right_half c k))
    ∙ omega (
      arith,
      f (left_half c k),
      f (right_half c k),
      ap (λ (d : Cell). number (is_in_box d v)) (left_in_steps u c k h),
      ap (λ (d : Cell). number (is_in_box d v)) (right_in_steps u c k h),
      halves_count (in_steps u c) k v w (above_in_steps u c k h),
    )

leaves_count : (u : ℕ) (ts : List Tri) (n : ℕ) (c : Cell) (v : Spot) → pos 0 ≤ℤ v.w →
    count_by (λ d. is_in_box d v) (boxes_below u ts n c) ≡ number (is_in_box (in_steps u c) v)
leaves_count u ts zero c v w = one
  where
    one : count_by (λ d. is_in_box d v) (in_steps u c ∷ []) ≡ number (is_in_box (in_steps u c) v)
    one = sum_by-cons (λ d. cond (is_in_box d v) 1 0) (in_steps u c) [] ∙ omega arith
leaves_count u ts (suc n) c v w =
    by (cases_Bool (is_leaf_on u ts c)) (λ d. leaves_count u ts n d v w)
  where
    by : (is_leaf_on u ts c ≡ true) ⊎ (is_leaf_on u ts c ≡ false) →
        ((d : Cell) → count_by (λ e. is_in_box e v) (boxes_below u ts n d) ≡ number (is_in_box (in_steps u d) v)) →
        count_by (λ d. is_in_box d v) (boxes_below u ts (suc n) c) ≡ number (is_in_box (in_steps u c) v)
    by (inl e) f = rw (e, leaves_within_on) (sum_by-cons (λ d. cond (is_in_box d v) 1 0) (in_steps u c) [] ∙ omega arith)
    by (inr e) f = rw (e, leaves_within_on) (of_halves u ts n c v w f (halving_axis_on u ts c) (halvable_unless_leaf u ts c e))

-- ---- all of it
-- these boxes part the half-open box: each of its points is in exactly one of theirs, and no other point is in any
pub record IsParted (whole : Cell) (all : List Cell) : Type 0 where
  pub count : (v : Spot) → pos 0 ≤ℤ v.w → count_by (λ d. is_in_box d v) all ≡ number (is_in_box whole v)

-- the leaves of the full tree, as boxes in steps
abbrev pub leaf_boxes : ℕ → List Tri → List Cell
leaf_boxes u ts = map (in_steps u) (leaves_on u ts root)

-- they part the root
pub root_is_parted : (u : ℕ) (ts : List Tri) → IsParted (in_steps u root) (leaf_boxes u ts)
root_is_parted u ts = record { count = λ v w. leaves_count u ts (halvings_left root) root v w }
