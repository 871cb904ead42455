-- Boxes measured in steps.
use Rattle.std.proofs.Common.{◌≡◌, ℕ, zero, suc, pred, ◌+◌, ◌*◌, ◌^◌, ◌<◌, ◌≤◌, lit<, refl, sym, ap, ◌∙◌, subst, arith, [], ◌∷◌, All, to_z, of_z, ℤ, pos, ◌+ℤ◌, ◌*ℤ◌}
use Rattle.std.proofs.Math.Path.{fun_ext}
use Rattle.std.proofs.Math.Nat.{pow-succ', pow-le-pow_right}
use Rattle.std.proofs.lemmas.List.Elements.{All-cons, All-nil}
use mir.Syntax.{w32}
use borrow.Author.Differences.{ints}
use Rattle.ember_algebra.specs.Size.{Small}
use Rattle.ember_algebra.proofs.Exact.{input, stored, ◌&◌, done, exact}
use Rattle.ember_algebra.proofs.Laws.{linear}
use Rattle.ember_algebra.proofs.Ring.{solve, ◌⊕◌, ◌⊗◌, ◌≈◌, num, cancels}
use Rattle.ember_model.specs.declared.point.Axis.{Axis}
use Rattle.ember_model.specs.declared.point.Axis.TheVariants.{X, Y, Z}
use Rattle.ember_box.specs.Boxes.{Cell, low, high, side, put, left_half, right_half, doubled, in_steps}
use Rattle.ember_box.specs.Aabbs.{most_wall}

-- ---- numbers
twice : (m : ℕ) (x : ℤ) → pos m *ℤ x +ℤ pos m *ℤ x ≡ pos (2 * m) *ℤ x
twice m x =
    let e : pos (2 * m) ≡ pos m +ℤ pos m = omega (arith, ints) in
    solve 2 (λ m x. m ⊗ x ⊕ m ⊗ x ≈ (m ⊕ m) ⊗ x) cancels (pos m) x ∙ ap (λ y. y *ℤ x) (sym e)

-- what doubles with a box grows to 2^n times itself in steps
grown : (f : Cell → ℤ) → ((b : Cell) → f (doubled b) ≡ f b +ℤ f b) → (n : ℕ) (c : Cell) → f (in_steps n c) ≡ pos (2 ^ n) *ℤ f c
grown f h zero c = solve 1 (λ x. x ≈ num (pos 1) ⊗ x) cancels (f c)
grown f h (suc n) c =
    let r = grown f h n c in
    h (in_steps n c) ∙ (λ i. r i +ℤ r i) ∙ twice (2 ^ n) (f c) ∙ ap (λ m. pos m *ℤ f c) (sym (pow-succ' 2 n))

low_doubled : (k : Axis) (b : Cell) → low (doubled b) k ≡ low b k +ℤ low b k
low_doubled X b = refl
low_doubled Y b = refl
low_doubled Z b = refl

side_doubled : (k : Axis) (b : Cell) → side (doubled b) k ≡ side b k +ℤ side b k
side_doubled k b = let e = pow-succ' 2 (b.log k) in omega (arith, ints, e)

high_doubled : (k : Axis) (b : Cell) → high (doubled b) k ≡ high b k +ℤ high b k
high_doubled k b = omega (arith, linear, low_doubled k b, side_doubled k b)

-- the least coordinate of a box, in steps
pub low_in_steps : (n : ℕ) (c : Cell) (k : Axis) → low (in_steps n c) k ≡ pos (2 ^ n) *ℤ low c k
low_in_steps n c k = grown (λ b. low b k) (low_doubled k) n c

-- the coordinate at which it ends
pub high_in_steps : (n : ℕ) (c : Cell) (k : Axis) → high (in_steps n c) k ≡ pos (2 ^ n) *ℤ high c k
high_in_steps n c k = grown (λ b. high b k) (high_doubled k) n c

-- ---- sizes
-- a unit has at most 256 steps
pub few_steps : {n : ℕ} → n ≤ 8 → 2 ^ n ≤ 256
few_steps l = pow-le-pow_right {n = 2} (lit< tt) l

pub unit_small : {n : ℕ} {u : ℤ} → u ≡ pos (2 ^ n) → n ≤ 8 → Small 256 u
unit_small e l = subst (λ z. Small 256 z) (sym e) (record { small = few_steps l })

-- 2048 units are at most 524,288 steps
pub wall_steps : {n : ℕ} → n ≤ 8 → 2 ^ n * 2048 ≤ most_wall
wall_steps {n} l = let f = few_steps l in omega (arith, f)

-- ---- as the code reads them
-- a coordinate that was taken in units, and passed on, in steps
pub steps_are : (n : ℕ) {r l : ℤ} → Small 2048 l → r ≡ pos (2 ^ n) *ℤ to_z w32 (of_z w32 l) → r ≡ pos (2 ^ n) *ℤ l
steps_are n s e = e ∙ ap (λ x. pos (2 ^ n) *ℤ x) (exact (s & done) (stored w32 (input 0)) tt)

-- a coordinate in steps is read as it is
pub steps_read : {r : ℤ} → Small most_wall r → to_z w32 (of_z w32 r) ≡ r
steps_read s = exact (s & done) (stored w32 (input 0)) tt

-- with its bounds
pub read_small : {m : ℕ} {r : ℤ} → Small most_wall r → Small m r → Small m (to_z w32 (of_z w32 r))
read_small {m} s t = subst (λ (z : ℤ). Small m z) (sym (steps_read s)) t

pub three_small : {m : ℕ} {x y z : ℤ} → Small m x → Small m y → Small m z → All (Small m) (x ∷ y ∷ z ∷ [])
three_small {m} {x} {y} {z} p q r =
    All-cons (Small m) x (y ∷ z ∷ []) p (All-cons (Small m) y (z ∷ []) q (All-cons (Small m) z [] r (All-nil (Small m))))

-- ---- halves
-- a side above 1 is above 1 in steps
pub above_in_steps : (n : ℕ) (c : Cell) (k : Axis) → 0 < c.log k → 0 < (in_steps n c).log k
above_in_steps zero c k p = p
above_in_steps (suc n) c k p = omega arith

suc_pred : (a : ℕ) → 0 < a → a ≡ suc (pred a)
suc_pred zero p = absurd (omega (arith, p))
suc_pred (suc a) p = refl

log_doubled : (b : Cell) (k i : Axis) → 0 < b.log k → put k (pred (suc (b.log k))) (λ j. suc (b.log j)) i ≡ suc (put k (pred (b.log k)) b.log i)
log_doubled b X X p = suc_pred (b.log X) p
log_doubled b X Y p = refl
log_doubled b X Z p = refl
log_doubled b Y X p = refl
log_doubled b Y Y p = suc_pred (b.log Y) p
log_doubled b Y Z p = refl
log_doubled b Z X p = refl
log_doubled b Z Y p = refl
log_doubled b Z Z p = suc_pred (b.log Z) p

left_doubled : (b : Cell) (k : Axis) → 0 < b.log k → left_half (doubled b) k ≡ doubled (left_half b k)
left_doubled b k p =
    ap (λ f. record { lo = (doubled b).lo; log = f; path = 2 * b.path }) (fun_ext (λ i. log_doubled b k i p))

-- half a side of twice the box is twice half a side
half_doubled : (a : ℕ) → 0 < a → pos (2 ^ a) ≡ pos (2 ^ pred a) +ℤ pos (2 ^ pred a)
half_doubled zero p = absurd (omega (arith, p))
half_doubled (suc a) p = let e = pow-succ' 2 a in omega (arith, ints, e)

place_doubled : (x : ℤ) (a : ℕ) → 0 < a → x +ℤ x +ℤ pos (2 ^ a) ≡ x +ℤ pos (2 ^ pred a) +ℤ (x +ℤ pos (2 ^ pred a))
place_doubled x a p = omega (arith, linear, half_doubled a p)

right_doubled : (b : Cell) (k : Axis) → 0 < b.log k → right_half (doubled b) k ≡ doubled (right_half b k)
right_doubled b X p = λ i. record {
  lo = record { x = place_doubled b.lo.x (b.log X) p i; y = b.lo.y +ℤ b.lo.y; z = b.lo.z +ℤ b.lo.z };
  log = fun_ext (λ j. log_doubled b X j p) i;
  path = 2 * b.path + 1;
}
right_doubled b Y p = λ i. record {
  lo = record { x = b.lo.x +ℤ b.lo.x; y = place_doubled b.lo.y (b.log Y) p i; z = b.lo.z +ℤ b.lo.z };
  log = fun_ext (λ j. log_doubled b Y j p) i;
  path = 2 * b.path + 1;
}
right_doubled b Z p = λ i. record {
  lo = record { x = b.lo.x +ℤ b.lo.x; y = b.lo.y +ℤ b.lo.y; z = place_doubled b.lo.z (b.log Z) p i };
  log = fun_ext (λ j. log_doubled b Z j p) i;
  path = 2 * b.path + 1;
}

-- the left half of a box in steps is the left half, in steps
pub left_in_steps : (n : ℕ) (c : Cell) (k : Axis) → 0 < c.log k → left_half (in_steps n c) k ≡ in_steps n (left_half c k)
left_in_steps zero c k p = refl
left_in_steps (suc n) c k p = left_doubled (in_steps n c) k (above_in_steps n c k p) ∙ ap doubled (left_in_steps n c k p)

-- the right half of a box in steps is the right half, in steps
pub right_in_steps : (n : ℕ) (c : Cell) (k : Axis) → 0 < c.log k → right_half (in_steps n c) k ≡ in_steps n (right_half c k)
right_in_steps zero c k p = refl
right_in_steps (suc n) c k p = right_doubled (in_steps n c) k (above_in_steps n c k p) ∙ ap doubled (right_in_steps n c k p)
