-- Triangles near a box and its halves, counted one triangle after another.
use Rattle.std.proofs.Common.{◌≡◌, ℕ, ◌+◌, ◌*◌, ◌<◌, ◌≤◌, refl, sym, ap, ◌∙◌, subst, arith, Bool, true, false, not}
use Rattle.std.proofs.Common.{◌&&◌, ◌||◌, if◌then◌else◌, nat_lt, nat_le, List, length, take, get_or}
use Rattle.std.proofs.lemmas.List.{length-take, take_all}
use Rattle.std.proofs.lemmas.List.Filters.{length-filter_more}
use Rattle.std.proofs.lemmas.List.Sums.{length-filter, count_by-le-length}
use Rattle.std.proofs.lemmas.Bool.{le-leb, or_left}
use Rattle.ember_model.specs.declared.tri.Tri.{Tri}
use Rattle.ember_model.specs.declared.point.Axis.{Axis}
use Rattle.ember_model.specs.declared.point.Axis.TheVariants.{X, Y, Z}
use Rattle.ember_box.specs.declared.sums.Sums.{Sums}
use Rattle.ember_box.specs.Boxes.{Cell, left_half, right_half, in_steps}
use Rattle.ember_box.specs.Near.{is_near, near, no_tri}
use Rattle.ember_box.specs.Halving.{half_sum, is_no_better_on, halving_axis_on, is_unprofitable_on, is_leaf_on}
use Rattle.ember_box.specs.Sums.{number, near_half_count, IsSumOf, AreSums}

-- ---- a list
half_sum_more : (ts : List Tri) (c : Cell) (k : Axis) (i : ℕ) → i < length ts →
    half_sum (take (i + 1) ts) c k ≡ half_sum (take i ts) c k + near_half_count c k (get_or ts i no_tri)
unfolding half_sum near_half_count
half_sum_more ts c k i l =
    omega (arith, length-filter_more (λ t. is_near (left_half c k) t) ts i no_tri l, length-filter_more (λ t. is_near (right_half c k) t) ts i no_tri l)

none_yet : (ts : List Tri) (c : Cell) (k : Axis) → half_sum (take 0 ts) c k ≡ 0
unfolding half_sum
none_yet ts c k = refl

abbrev pub sums_of : ℕ → ℕ → ℕ → ℕ → Sums
sums_of n x y z = record { near = n; x = x; y = y; z = z }

-- the sums of no triangles are 0
pub sums_none : (u : ℕ) (ts : List Tri) (c : Cell) → AreSums u (take 0 ts) c (sums_of 0 0 0 0)
sums_none u ts c = record { near = refl; bound = omega arith; x = at X; y = at Y; z = at Z }
  where
    at : (k : Axis) → IsSumOf u (take 0 ts) c k 0
    at k = record { value = λ _. sym (none_yet ts (in_steps u c) k); bound = omega arith }

sum_more : (u : ℕ) (ts : List Tri) (c : Cell) (k : Axis) (i n d : ℕ) → i < length ts → IsSumOf u (take i ts) c k n →
    (0 < c.log k → d ≡ near_half_count (in_steps u c) k (get_or ts i no_tri)) → d ≤ 2 →
    IsSumOf u (take (i + 1) ts) c k (n + d)
sum_more u ts c k i n d l s e b =
    record {
      value = λ p. (λ j. s.value p j + e p j) ∙ sym (half_sum_more ts (in_steps u c) k i l);
      bound = omega (arith, s.bound, length-take i ts, length-take (i + 1) ts);
    }

-- one more triangle, with what it adds to the sums
pub sums_more : (u : ℕ) (ts : List Tri) (c : Cell) (i n x y z m dx dy dz : ℕ) → i < length ts →
    AreSums u (take i ts) c (sums_of n x y z) → m ≡ number (is_near (in_steps u c) (get_or ts i no_tri)) → m ≤ 1 →
    (0 < c.log X → dx ≡ near_half_count (in_steps u c) X (get_or ts i no_tri)) → dx ≤ 2 →
    (0 < c.log Y → dy ≡ near_half_count (in_steps u c) Y (get_or ts i no_tri)) → dy ≤ 2 →
    (0 < c.log Z → dz ≡ near_half_count (in_steps u c) Z (get_or ts i no_tri)) → dz ≤ 2 →
    AreSums u (take (i + 1) ts) c (sums_of (n + m) (x + dx) (y + dy) (z + dz))
sums_more u ts c i n x y z m dx dy dz l s em bm ex bx ey by' ez bz =
    record {
      near = (λ j. s.near j + em j) ∙ sym (length-filter_more (λ t. is_near (in_steps u c) t) ts i no_tri l);
      bound = omega (arith, s.bound, length-take i ts, length-take (i + 1) ts);
      x = sum_more u ts c X i x dx l s.x ex bx;
      y = sum_more u ts c Y i y dy l s.y ey by';
      z = sum_more u ts c Z i z dz l s.z ez bz;
    }

-- the sums of all that were looked at are those of the list
pub sums_all : (u : ℕ) (ts : List Tri) (c : Cell) (i : ℕ) (s : Sums) → length ts ≤ i → AreSums u (take i ts) c s → AreSums u ts c s
sums_all u ts c i s l a = subst (λ xs. AreSums u xs c s) (take_all i ts l) a

-- ---- what is decided by the sums
no_better : (u : ℕ) (ts : List Tri) (c : Cell) (j k : Axis) (a b : ℕ) → IsSumOf u ts c j a → IsSumOf u ts c k b →
    (not (nat_lt 0 (c.log k)) || (nat_lt 0 (c.log j) && nat_le a b)) ≡ is_no_better_on u ts c j k
no_better u ts c j k a b s t =
    by (nat_lt 0 (c.log k)) (nat_lt 0 (c.log j)) (λ e. t.value (positive (c.log k) e)) (λ e. s.value (positive (c.log j) e))
  where
    positive : (n : ℕ) → nat_lt 0 n ≡ true → 0 < n
    positive n e = grind arith

    by : (p q : Bool) → (p ≡ true → b ≡ half_sum ts (in_steps u c) k) → (q ≡ true → a ≡ half_sum ts (in_steps u c) j) →
        (not p || (q && nat_le a b)) ≡ (not p || (q && nat_le (half_sum ts (in_steps u c) j) (half_sum ts (in_steps u c) k)))
    by false q f g = refl
    by true false f g = refl
    by true true f g = λ i. nat_le (g refl i) (f refl i)

unprofitable_by_counts : (u : ℕ) (ts : List Tri) (c : Cell) (k : Axis) (n a : ℕ) → n ≡ length (near ts (in_steps u c)) →
    IsSumOf u ts c k a →
    (not (nat_lt 0 (c.log k)) || nat_le (7 * n) (4 * a)) ≡ is_unprofitable_on u ts c k
unprofitable_by_counts u ts c k n a e s = by (nat_lt 0 (c.log k)) (λ p. s.value (positive (c.log k) p))
  where
    positive : (n : ℕ) → nat_lt 0 n ≡ true → 0 < n
    positive n e = grind arith

    by : (p : Bool) → (p ≡ true → a ≡ half_sum ts (in_steps u c) k) → (not p || nat_le (7 * n) (4 * a)) ≡ (not p || nat_le (7 * length (near ts (in_steps u c))) (4 * half_sum ts (in_steps u c) k))
    by false f = refl
    by true f = λ i. nat_le (7 * e i) (4 * f refl i)

-- the code's comparisons of the sums give the halving axis
pub halving_axis_is : (u : ℕ) (ts : List Tri) (c : Cell) (s : Sums) (p q r : Bool) → AreSums u ts c s →
    p ≡ (not (nat_lt 0 (c.log Y)) || (nat_lt 0 (c.log X) && nat_le s.x s.y)) →
    q ≡ (not (nat_lt 0 (c.log Z)) || (nat_lt 0 (c.log X) && nat_le s.x s.z)) →
    r ≡ (not (nat_lt 0 (c.log Z)) || (nat_lt 0 (c.log Y) && nat_le s.y s.z)) →
    (if p && q then X else (if r then Y else Z)) ≡ halving_axis_on u ts c
unfolding halving_axis_on
halving_axis_is u ts c s p q r a e f g =
    let xy = e ∙ no_better u ts c X Y s.x s.y a.x a.y in let xz = f ∙ no_better u ts c X Z s.x s.z a.x a.z in
    let yz = g ∙ no_better u ts c Y Z s.y s.z a.y a.z in
    λ i. if xy i && xz i then X else (if yz i then Y else Z)

-- the code's comparisons of the sums say whether the box is a leaf
pub is_leaf_is : (u : ℕ) (ts : List Tri) (c : Cell) (s : Sums) (few x y z : Bool) → AreSums u ts c s → few ≡ nat_le s.near 16 →
    x ≡ (not (nat_lt 0 (c.log X)) || nat_le (7 * s.near) (4 * s.x)) →
    y ≡ (not (nat_lt 0 (c.log Y)) || nat_le (7 * s.near) (4 * s.y)) →
    z ≡ (not (nat_lt 0 (c.log Z)) || nat_le (7 * s.near) (4 * s.z)) → (few || x && y && z) ≡ is_leaf_on u ts c
unfolding is_leaf_on
is_leaf_is u ts c s few x y z a e ex ey ez =
    let n = e ∙ ap (λ m. nat_le m 16) a.near in
    let px = ex ∙ unprofitable_by_counts u ts c X s.near s.x a.near a.x in let py = ey ∙ unprofitable_by_counts u ts c Y s.near s.y a.near a.y in
    let pz = ez ∙ unprofitable_by_counts u ts c Z s.near s.z a.near a.z in
    λ i. n i || px i && py i && pz i

-- a list of few triangles has few near ones
pub few_end : (u : ℕ) (ts : List Tri) (c : Cell) → length ts ≤ 16 → is_leaf_on u ts c ≡ true
unfolding is_leaf_on
few_end u ts c few =
    let n : nat_le (length (near ts (in_steps u c))) 16 ≡ true =
    le-leb (length (near ts (in_steps u c))) 16 (omega (
      arith,
      few,
      length-filter (λ t. is_near (in_steps u c) t) ts,
      count_by-le-length (λ t. is_near (in_steps u c) t) ts,
    )) in
    or_left (nat_le (length (near ts (in_steps u c))) 16) (is_unprofitable_on u ts c X && is_unprofitable_on u ts c Y && is_unprofitable_on u ts c Z) n
