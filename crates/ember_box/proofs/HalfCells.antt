-- The halves of a box are boxes, and what the code writes is those halves.
use Rattle.std.proofs.Common.{◌≡◌, ℕ, zero, suc, pred, ◌+◌, ◌-◌, ◌*◌, ◌^◌, ◌<◌, ◌≤◌, List, [], ◌∷◌, ℤ, pos, negsuc}
use Rattle.std.proofs.Common.{◌+ℤ◌, unsigned_abs, to_z, of_z, to_z-of_z, SFits, length, slice_index_or, slice_set, refl}
use Rattle.std.proofs.Common.{sym, ap, ap₂, ◌∙◌, subst, arith}
use Rattle.std.proofs.Math.Path.{fun_ext}
use Rattle.std.proofs.Math.Nat.{pow-succ'}
use mir.Syntax.{w32}
use Rattle.ember_algebra.specs.Size.{Small}
use Rattle.ember_algebra.proofs.Size.{fits_small, small_add}
use Rattle.ember_algebra.proofs.Laws.{linear}
use Rattle.ember_algebra.proofs.Ring.{solve, ◌⊕◌, ◌≈◌, cancels}
use Rattle.ember_model.specs.declared.point.Axis.{Axis}
use Rattle.ember_model.specs.declared.point.Axis.TheVariants.{X, Y, Z}
use Rattle.ember_box.specs.Boxes.{Cell, low, halvings_left, put, left_half, right_half, IsOnGrid, IsCell, three, cell_of, axis_index}

minus_pred : (a : ℕ) → a - 1 ≡ pred a
minus_pred zero = refl
minus_pred (suc a) = omega arith

log_at : (log : List ℕ) (k : Axis) → three (slice_index_or log 0 0) (slice_index_or log 1 0) (slice_index_or log 2 0) k ≡ slice_index_or log (axis_index k) 0
log_at log X = refl
log_at log Y = refl
log_at log Z = refl

-- the logarithms after one was lowered
lowered : (log : List ℕ) (k : Axis) → length log ≡ 3 → (i : Axis) →
    three (slice_index_or (slice_set log (axis_index k) (slice_index_or log (axis_index k) 0 - 1)) 0 0)
    (slice_index_or (slice_set log (axis_index k) (slice_index_or log (axis_index k) 0 - 1)) 1 0)
    (slice_index_or (slice_set log (axis_index k) (slice_index_or log (axis_index k) 0 - 1)) 2 0) i ≡ put k
    (pred (three (slice_index_or log 0 0) (slice_index_or log 1 0) (slice_index_or log 2 0) k))
    (three (slice_index_or log 0 0) (slice_index_or log 1 0) (slice_index_or log 2 0)) i
lowered [] k e i = absurd (omega arith)
lowered (a ∷ []) k e i = absurd (omega arith)
lowered (a ∷ b ∷ []) k e i = absurd (omega arith)
lowered (a ∷ b ∷ d ∷ []) X e X = minus_pred a
lowered (a ∷ b ∷ d ∷ []) X e Y = refl
lowered (a ∷ b ∷ d ∷ []) X e Z = refl
lowered (a ∷ b ∷ d ∷ []) Y e X = refl
lowered (a ∷ b ∷ d ∷ []) Y e Y = minus_pred b
lowered (a ∷ b ∷ d ∷ []) Y e Z = refl
lowered (a ∷ b ∷ d ∷ []) Z e X = refl
lowered (a ∷ b ∷ d ∷ []) Z e Y = refl
lowered (a ∷ b ∷ d ∷ []) Z e Z = minus_pred d
lowered (a ∷ b ∷ d ∷ x ∷ log) k e i = absurd (omega arith)

-- what the code writes is the left half
pub is_lower : (lo : List ℤ) (log : List ℕ) (path : ℕ) (k : Axis) → length log ≡ 3 →
    cell_of lo (slice_set log (axis_index k) (slice_index_or log (axis_index k) 0 - 1)) (2 * path) ≡ left_half
    (cell_of lo log path) k
is_lower lo log path k e = ap (λ f. record {
  lo =
      record { x = slice_index_or lo 0 (pos 0); y = slice_index_or lo 1 (pos 0); z = slice_index_or lo 2 (pos 0) };
  log =
      f;
  path = 2 * path;
}) (fun_ext (lowered log k e))

-- half a side further on
onward : (x : ℤ) (a : ℕ) → x +ℤ pos (2 ^ (a - 1)) ≡ x +ℤ pos (2 ^ pred a)
onward x a = ap (λ k. x +ℤ pos (2 ^ k)) (minus_pred a)

-- the fields that the code sets are those of the right half
pub is_upper : (lo : List ℤ) (log : List ℕ) (path : ℕ) (k : Axis) → length lo ≡ 3 → length log ≡ 3 →
    cell_of (slice_set lo (axis_index k) (slice_index_or lo (axis_index k) (pos 0) +ℤ pos
    (2 ^ (slice_index_or log (axis_index k) 0 - 1))))
    (slice_set log (axis_index k) (slice_index_or log (axis_index k) 0 - 1)) (2 * path + 1) ≡ right_half
    (cell_of lo log path) k
is_upper [] log path k e l = absurd (omega arith)
is_upper (x ∷ []) log path k e l = absurd (omega arith)
is_upper (x ∷ y ∷ []) log path k e l = absurd (omega arith)
is_upper (x ∷ y ∷ z ∷ []) log path X e l = ap₂ (λ n f. record {
  lo = record { x = n; y = y; z = z };
  log = f;
  path =
      2 * path + 1;
}) (onward x (slice_index_or log 0 0)) (fun_ext (lowered log X l))
is_upper (x ∷ y ∷ z ∷ []) log path Y e l = ap₂ (λ n f. record {
  lo = record { x = x; y = n; z = z };
  log = f;
  path =
      2 * path + 1;
}) (onward y (slice_index_or log 1 0)) (fun_ext (lowered log Y l))
is_upper (x ∷ y ∷ z ∷ []) log path Z e l = ap₂ (λ n f. record {
  lo = record { x = x; y = y; z = n };
  log = f;
  path =
      2 * path + 1;
}) (onward z (slice_index_or log 2 0)) (fun_ext (lowered log Z l))
is_upper (x ∷ y ∷ z ∷ w ∷ lo) log path k e l = absurd (omega arith)

-- twice as many of half the size
pub times_next_power : (p m : ℕ) → p * 2 ^ suc m ≡ 2 * (p * 2 ^ m)
times_next_power p m = ap (λ x. p * x) (pow-succ' 2 m) ∙ omega arith

even : (p x : ℕ) → 2 * p * x ≡ 2 * (p * x)
even p x = omega arith

-- one time more
pub times_one_more : (p x : ℕ) → (p + 1) * x ≡ p * x + x
times_one_more p x = omega arith

turn : (l a b : ℤ) → l +ℤ a +ℤ b ≡ l +ℤ b +ℤ a
turn = solve 3 (λ l a b. l ⊕ a ⊕ b ≈ l ⊕ b ⊕ a) cancels

lower_sits : (l : ℤ) (n : ℕ) → 0 < n → IsOnGrid l n → IsOnGrid l (pred n)
lower_sits l zero above s = absurd (omega arith)
lower_sits l (suc m) above s = record {
  small = omega (arith, s.small);
  index = 2 * s.index;
  at = s.at ∙ ap pos (times_next_power s.index m ∙ sym (even s.index (2 ^ m)));
  within = omega (
    arith,
    s.within,
    times_next_power (s.index + 1) m,
    even s.index (2 ^ m),
    times_one_more s.index (2 ^ m),
    times_one_more (2 * s.index) (2 ^ m),
  );
}

upper_sits : (l : ℤ) (n : ℕ) → 0 < n → IsOnGrid l n → IsOnGrid (l +ℤ pos (2 ^ pred n)) (pred n)
upper_sits l zero above s = absurd (omega arith)
upper_sits l (suc m) above s = record {
  small = omega (arith, s.small);
  index = 2 * s.index + 1;
  at = turn l (pos (2 ^ m)) (pos 2048) ∙ ap (λ x. x +ℤ pos (2 ^ m)) s.at
      ∙ ap pos (omega (arith, times_next_power s.index m, even s.index (2 ^ m), times_one_more (2 * s.index) (2 ^ m)));
  within = omega (
    arith,
    s.within,
    times_next_power (s.index + 1) m,
    even s.index (2 ^ m),
    times_one_more s.index (2 ^ m),
    times_one_more (2 * s.index) (2 ^ m),
    times_one_more (2 * s.index + 1) (2 ^ m),
  );
}

less_one : (n : ℕ) → 0 < n → pred n + 1 ≡ n
less_one zero above = absurd (omega arith)
less_one (suc n) above = omega arith

-- each half may be halved once less
pub left_less : (c : Cell) (k : Axis) → 0 < c.log k → halvings_left (left_half c k) + 1 ≡ halvings_left c
left_less c X above = omega (arith, less_one (c.log X) above)
left_less c Y above = omega (arith, less_one (c.log Y) above)
left_less c Z above = omega (arith, less_one (c.log Z) above)

path_from : (p l m : ℕ) → m + 1 ≡ l → 2 ^ 36 ≤ p * 2 ^ l → (p + 1) * 2 ^ l ≤ 2 ^ 37 → (2 ^ 36 ≤ 2 * (p * 2 ^ m)) × (2 * (p * 2 ^ m) + 2 * 2 ^ m ≤ 2 ^ 37)
path_from p zero m e low high = absurd (omega arith)
path_from p (suc l) m e low high =
    let same : m ≡ l = omega (arith, e) in
    rw same (omega (arith, low, times_next_power p l), omega (arith, high, times_next_power (p + 1) l, times_one_more p (2 ^ l)))

-- the left half of a box is a box
pub left_is_cell : (c : Cell) (k : Axis) → 0 < c.log k → IsCell c → IsCell (left_half c k)
left_is_cell c k above s =
    let m : ℕ = halvings_left (left_half c k) in
    let r = path_from c.path (halvings_left c) m (left_less c k above) s.from s.below in record {
      sits = at k above;
      from = omega (arith, r.0, even c.path (2 ^ m));
      below = omega (arith, r.1, even c.path (2 ^ m), times_one_more (2 * c.path) (2 ^ m));
    }
  where
    at : (k : Axis) → 0 < c.log k → (i : Axis) → IsOnGrid (low (left_half c k) i) ((left_half c k).log i)
    at X a X = lower_sits c.lo.x (c.log X) a (s.sits X)
    at X a Y = s.sits Y
    at X a Z = s.sits Z
    at Y a X = s.sits X
    at Y a Y = lower_sits c.lo.y (c.log Y) a (s.sits Y)
    at Y a Z = s.sits Z
    at Z a X = s.sits X
    at Z a Y = s.sits Y
    at Z a Z = lower_sits c.lo.z (c.log Z) a (s.sits Z)

-- the right half of a box is a box
pub right_is_cell : (c : Cell) (k : Axis) → 0 < c.log k → IsCell c → IsCell (right_half c k)
right_is_cell c k above s =
    let m : ℕ = halvings_left (left_half c k) in
    let r = path_from c.path (halvings_left c) m (left_less c k above) s.from s.below in record {
      sits = at k above;
      from = omega (arith, r.0, even c.path (2 ^ m), times_one_more (2 * c.path) (2 ^ m));
      below = omega (arith, r.1, even c.path (2 ^ m), times_one_more (2 * c.path) (2 ^ m), times_one_more (2 * c.path + 1) (2 ^ m));
    }
  where
    at : (k : Axis) → 0 < c.log k → (i : Axis) → IsOnGrid (low (right_half c k) i) ((right_half c k).log i)
    at X a X = upper_sits c.lo.x (c.log X) a (s.sits X)
    at X a Y = s.sits Y
    at X a Z = s.sits Z
    at Y a X = s.sits X
    at Y a Y = upper_sits c.lo.y (c.log Y) a (s.sits Y)
    at Y a Z = s.sits Z
    at Z a X = s.sits X
    at Z a Y = s.sits Y
    at Z a Z = upper_sits c.lo.z (c.log Z) a (s.sits Z)

-- a box cell_side_is_small in the root
between : (x : ℤ) (n : ℕ) → n ≤ 4096 → x +ℤ pos 2048 ≡ pos n → Small 2048 x
between (pos k) n l e = record { small = omega (arith, l, ap unsigned_abs e) }
between (negsuc k) n l e = record { small = omega (arith, linear, e) }

within : (x : ℤ) (n : ℕ) → IsOnGrid x n → Small 2048 x
within x n s = between x (s.index * 2 ^ n) (omega (arith, s.within, times_one_more s.index (2 ^ n))) s.at

-- the least coordinate and the side of a box are small
pub cell_side_is_small : (lo : List ℤ) (log : List ℕ) (path : ℕ) (k : Axis) → IsCell (cell_of lo log path) →
    Small 2048 (slice_index_or lo (axis_index k) (pos 0)) × (slice_index_or log (axis_index k) 0 ≤ 12)
cell_side_is_small lo log path X s = (within (slice_index_or lo 0 (pos 0)) (slice_index_or log 0 0) (s.sits X), (s.sits X).small)
cell_side_is_small lo log path Y s = (within (slice_index_or lo 1 (pos 0)) (slice_index_or log 1 0) (s.sits Y), (s.sits Y).small)
cell_side_is_small lo log path Z s = (within (slice_index_or lo 2 (pos 0)) (slice_index_or log 2 0) (s.sits Z), (s.sits Z).small)

-- the least coordinates of a box are small
pub low_small : (lo : List ℤ) (log : List ℕ) (path : ℕ) (k : Axis) {i : ℕ} → i ≡ axis_index k →
    IsCell (cell_of lo log path) → Small 2048 (slice_index_or lo i (pos 0))
low_small lo log path k e s = subst (λ j. Small 2048 (slice_index_or lo j (pos 0))) (sym e) (cell_side_is_small lo log path k s).0

-- a coordinate and a side are stored as they are, and so is their sum
pub side_stored : {h : ℤ} → Small 4096 h → to_z w32 (of_z w32 h) ≡ h
side_stored s = to_z-of_z (fits_small w32 s tt)

-- a coordinate plus a side fits into 32 bits
pub sum_fits : {x h : ℤ} → Small 2048 x → Small 4096 h → SFits w32 (to_z w32 (of_z w32 x) +ℤ to_z w32 (of_z w32 h))
sum_fits r s =
    subst (λ (y : ℤ). SFits w32 y) (sym (ap₂ (λ u v. u +ℤ v) (to_z-of_z (fits_small w32 r tt)) (side_stored s)))
    (fits_small w32 (small_add r s) tt)

-- a coordinate and a half side don't leave 32 bits
pub sum_stored : {x h : ℤ} → Small 2048 x → Small 4096 h → to_z w32 (of_z w32 (to_z w32 (of_z w32 x) +ℤ to_z w32 (of_z w32 h))) ≡ x +ℤ h
sum_stored r s =
    to_z-of_z (sum_fits r s) ∙ ap₂ (λ u v. u +ℤ v) (to_z-of_z (fits_small w32 r tt)) (side_stored s)

-- the logarithm along an axis is the one in the list
pub log_of : (lo : List ℤ) (log : List ℕ) (path : ℕ) (k : Axis) → (cell_of lo log path).log k ≡ slice_index_or log (axis_index k) 0
log_of lo log path k = log_at log k
