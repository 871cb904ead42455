-- Lists of near triangles that shrink with the box: what is near a half is found among what is near the
-- whole, and at the root every triangle is near.
use Rattle.std.proofs.Common.{◌≡◌, ℕ, suc, ◌+◌, ◌*◌, ◌<◌, refl, sym, ap, ◌∙◌, arith, Bool, true, false, not, ◌&&◌, ◌||◌}
use Rattle.std.proofs.Common.{cond, if◌then◌else◌, nat_lt, nat_le, List, [], ◌∷◌, filter, map, length, All}
use Rattle.std.specs.List.{range_with_len}
use Rattle.std.proofs.lemmas.List.Elements.{All-filter, All-from_get_or}
use Rattle.std.proofs.lemmas.List.FromFn.{length-range_with_len, get_or-range_with_len}
use Rattle.ember_model.specs.declared.tri.Tri.{Tri}
use Rattle.ember_model.specs.declared.point.Axis.{Axis}
use Rattle.ember_model.specs.declared.point.Axis.TheVariants.{X, Y, Z}
use Rattle.ember_box.specs.Boxes.{Cell, left_half, right_half, in_steps}
use Rattle.ember_box.specs.Near.{is_near, near, tri_at, listed, near_indices, all_indices}
use Rattle.ember_box.specs.Halving.{half_sum, is_no_better_on, halving_axis_on, is_unprofitable_on, is_leaf_on}
use Rattle.ember_box.proofs.NearByAabbs.{left_near, right_near}
use Rattle.ember_box.proofs.InSteps.{above_in_steps}

-- ---- filters
-- what implies something false is false
pub false_by : (s t : Bool) → (s ≡ true → t ≡ true) → t ≡ false → s ≡ false
false_by true t f e = sym (f refl) ∙ e
false_by false t f e = refl

-- what passes p passes q
filter_within : {X : Type 0} (p q : X → Bool) → ((x : X) → p x ≡ true → q x ≡ true) → (xs : List X) → filter p (filter q xs) ≡ filter p xs
filter_within {X} p q f [] = refl
filter_within {X} p q f (x ∷ xs) = by (q x) refl (filter_within p q f xs)
  where
    by : (t : Bool) → q x ≡ t → filter p (filter q xs) ≡ filter p xs →
        filter p (cond t (x ∷ filter q xs) (filter q xs)) ≡ cond (p x) (x ∷ filter p xs) (filter p xs)
    by true e h = ap (λ (l : List X). cond (p x) (x ∷ l) l) h
    by false e h = h ∙ ap (λ (b : Bool). cond b (x ∷ filter p xs) (filter p xs)) (sym (false_by (p x) (q x) (f x) e))

map-filter : {X Y : Type 0} (f : X → Y) (p : Y → Bool) (xs : List X) → map f (filter (λ x. p (f x)) xs) ≡ filter p (map f xs)
map-filter f p [] = refl
map-filter {X} {Y} f p (x ∷ xs) = by (p (f x)) (map-filter f p xs)
  where
    by : (t : Bool) → map f (filter (λ x. p (f x)) xs) ≡ filter p (map f xs) →
        map f (cond t (x ∷ filter (λ x. p (f x)) xs) (filter (λ x. p (f x)) xs)) ≡ cond t (f x ∷ filter p (map f xs))
        (filter p (map f xs))
    by true h = ap (λ (l : List Y). f x ∷ l) h
    by false h = h

-- ---- a half of a box
left_list : (ts : List Tri) (c : Cell) (k : Axis) → 0 < c.log k → near (near ts c) (left_half c k) ≡ near ts (left_half c k)
left_list ts c k p =
    filter_within (λ t. is_near (left_half c k) t) (λ t. is_near c t) (λ t. left_near c k t p) ts

right_list : (ts : List Tri) (c : Cell) (k : Axis) → 0 < c.log k → near (near ts c) (right_half c k) ≡ near ts (right_half c k)
right_list ts c k p =
    filter_within (λ t. is_near (right_half c k) t) (λ t. is_near c t) (λ t. right_near c k t p) ts

-- what is near the left half is found among what is near the box
pub left_places : (ts : List Tri) (c : Cell) (k : Axis) (is : List ℕ) → 0 < c.log k →
    near_indices ts (left_half c k) (near_indices ts c is) ≡ near_indices ts (left_half c k) is
left_places ts c k is p =
    filter_within (λ i. is_near (left_half c k) (tri_at ts i)) (λ i. is_near c (tri_at ts i)) (λ i. left_near c k (tri_at ts i) p) is

-- what is near the right half is found among what is near the box
pub right_places : (ts : List Tri) (c : Cell) (k : Axis) (is : List ℕ) → 0 < c.log k →
    near_indices ts (right_half c k) (near_indices ts c is) ≡ near_indices ts (right_half c k) is
right_places ts c k is p =
    filter_within (λ i. is_near (right_half c k) (tri_at ts i)) (λ i. is_near c (tri_at ts i)) (λ i. right_near c k (tri_at ts i) p) is

near_again : (ts : List Tri) (c : Cell) → near (near ts c) c ≡ near ts c
near_again ts c = filter_within (λ t. is_near c t) (λ t. is_near c t) (λ t e. e) ts

half_sum_near : (ts : List Tri) (c : Cell) (k : Axis) → 0 < c.log k → half_sum (near ts c) c k ≡ half_sum ts c k
unfolding half_sum
half_sum_near ts c k p = λ i. length (left_list ts c k p i) + length (right_list ts c k p i)

-- a number that passes the test is positive
pub positive : (n : ℕ) → nat_lt 0 n ≡ true → 0 < n
positive n e = grind arith

-- the near triangles alone decide along which axis a box is halved, and whether it is a leaf
module _ (u : ℕ) (ts : List Tri) (c : Cell) where
  abbrev box : Cell
  box = in_steps u c

  same_sum : (k : Axis) → nat_lt 0 (c.log k) ≡ true → half_sum (near ts box) box k ≡ half_sum ts box k
  same_sum k e = half_sum_near ts box k (above_in_steps u c k (positive (c.log k) e))

  no_better_near : (j k : Axis) → is_no_better_on u (near ts box) c j k ≡ is_no_better_on u ts c j k
  no_better_near j k = by (nat_lt 0 (c.log k)) (nat_lt 0 (c.log j)) (same_sum k) (same_sum j)
    where
      by : (p q : Bool) → (p ≡ true → half_sum (near ts box) box k ≡ half_sum ts box k) →
          (q ≡ true → half_sum (near ts box) box j ≡ half_sum ts box j) →
          (not p || (q && nat_le (half_sum (near ts box) box j) (half_sum (near ts box) box k)))
          ≡ (not p || (q && nat_le (half_sum ts box j) (half_sum ts box k)))
      by false q f g = refl
      by true false f g = refl
      by true true f g = λ i. nat_le (g refl i) (f refl i)

  spreads_near : (k : Axis) → is_unprofitable_on u (near ts box) c k ≡ is_unprofitable_on u ts c k
  spreads_near k = by (nat_lt 0 (c.log k)) (same_sum k)
    where
      by : (p : Bool) → (p ≡ true → half_sum (near ts box) box k ≡ half_sum ts box k) →
          (not p || nat_le (7 * length (near (near ts box) box)) (4 * half_sum (near ts box) box k))
          ≡ (not p || nat_le (7 * length (near ts box)) (4 * half_sum ts box k))
      by false f = refl
      by true f = λ i. nat_le (7 * length (near_again ts box i)) (4 * f refl i)

  -- the near triangles give the halving axis that all triangles give
  pub halving_axis_near : halving_axis_on u (near ts box) c ≡ halving_axis_on u ts c
  unfolding halving_axis_on
  halving_axis_near =
      λ i. if no_better_near X Y i && no_better_near X Z i then X else (if no_better_near Y Z i then Y else Z)

  -- the near triangles decide as all triangles whether the box is a leaf
  pub is_leaf_near : is_leaf_on u (near ts box) c ≡ is_leaf_on u ts c
  unfolding is_leaf_on
  is_leaf_near =
      λ i. nat_le (length (near_again ts box i)) 16 || spreads_near X i && spreads_near Y i && spreads_near Z i

-- ---- by places
listed_near : (ts : List Tri) (c : Cell) (is : List ℕ) → listed ts (near_indices ts c is) ≡ near (listed ts is) c
listed_near ts c is = map-filter (λ i. tri_at ts i) (λ t. is_near c t) is

from_place : (ts : List Tri) (ks : List Tri) (n : ℕ) → ((i : ℕ) → tri_at ks (n + i) ≡ tri_at ts i) → map (λ i. tri_at ks i) (range_with_len n (length ts)) ≡ ts
from_place [] ks n h = refl
from_place (t ∷ ts) ks n h =
    λ j. first j ∷ from_place ts ks (n + 1) (λ i. ap (λ m. tri_at ks m) (onward i) ∙ h (suc i)) j
  where
    first : tri_at ks n ≡ t
    first = let e : n ≡ n + 0 = omega arith in ap (λ m. tri_at ks m) e ∙ h 0

    onward : (i : ℕ) → n + 1 + i ≡ n + suc i
    onward i = omega arith

-- all places list all triangles
listed_all : (ts : List Tri) → listed ts (all_indices ts) ≡ ts
listed_all ts = from_place ts ts 0 (λ i. let e : 0 + i ≡ i = omega arith in ap (λ m. tri_at ts m) e)

-- the triangles that the near indices list are the near triangles
pub listed_near_all : (ts : List Tri) (c : Cell) → listed ts (near_indices ts c (all_indices ts)) ≡ near ts c
listed_near_all ts c = listed_near ts c (all_indices ts) ∙ ap (λ us. near us c) (listed_all ts)

-- the listed near triangles give the halving axis of the scene
pub halving_axis_listed : (u : ℕ) (ts : List Tri) (c : Cell) →
    halving_axis_on u (listed ts (near_indices ts (in_steps u c) (all_indices ts))) c ≡ halving_axis_on u ts c
halving_axis_listed u ts c = ap (λ us. halving_axis_on u us c) (listed_near_all ts (in_steps u c)) ∙ halving_axis_near u ts c

-- the listed near triangles decide as the scene whether the box is a leaf
pub is_leaf_listed : (u : ℕ) (ts : List Tri) (c : Cell) →
    is_leaf_on u (listed ts (near_indices ts (in_steps u c) (all_indices ts))) c ≡ is_leaf_on u ts c
is_leaf_listed u ts c = ap (λ us. is_leaf_on u us c) (listed_near_all ts (in_steps u c)) ∙ is_leaf_near u ts c

-- near indices are indices of the list
pub near_in_range : (ts : List Tri) (c : Cell) (is : List ℕ) → All (λ i. i < length ts) is → All (λ i. i < length ts) (near_indices ts c is)
near_in_range ts c is a = All-filter (λ i. is_near c (tri_at ts i)) (λ i. i < length ts) is a

-- all indices of a list are in range
pub all_indices_below : (ts : List Tri) → All (λ i. i < length ts) (all_indices ts)
all_indices_below ts =
    All-from_get_or (λ i. i < length ts) (all_indices ts) 0 (λ i l. let b : i < length ts =
    omega (arith, l, length-range_with_len 0 (length ts)) in let e = get_or-range_with_len 0 (length ts) i 0 b in
    rw e (omega arith))
