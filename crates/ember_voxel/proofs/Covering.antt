-- Which cells of the lattice lie in a box: those of its halves, in the root all of them, and in a
-- box of the size of a cell that one.
use Rattle.std.proofs.Common.{◌≡◌, ◌==◌, ℕ, pred, ◌+◌, ◌-◌, ◌*◌, ◌^◌, ◌<◌, ◌≤◌, Bool, true, false, ◌&&◌, ◌||◌, nat_lt}
use Rattle.std.proofs.Common.{int_le, int_lt, ℤ, pos, ◌+ℤ◌, neg_ℤ, ◌≤ℤ◌, ◌<ℤ◌, refl, sym, ap, ◌∙◌, subst, arith}
use Rattle.std.proofs.lemmas.Bool.{and_parts, and_from, eqb-true, ltb-true, ltb-false}
use Rattle.std.proofs.lemmas.Nat.{pow_pos}
use Rattle.std.proofs.Math.Nat.{mul-le-mul_right}
use borrow.Author.Differences.{ints}
use Rattle.ember_algebra.proofs.Laws.{linear}
use Rattle.ember_algebra.proofs.Numbers.{int_lt_in, int_lt_out, int_le_in, int_le_out}
use Rattle.ember_model.specs.declared.point.Axis.{Axis}
use Rattle.ember_model.specs.declared.point.Axis.TheVariants.{X, Y, Z}
use Rattle.ember_box.specs.Boxes.{Cell, entry_along, IsOnGrid, IsCell, low, high, root, left_half, right_half}
use Rattle.ember_box.proofs.NearByAabbs.{halves_end}
use Rattle.ember_box.proofs.HalfCells.{left_is_cell, right_is_cell, times_one_more}
use Rattle.ember_visit.specs.Values.{HasCorner}
use Rattle.ember_voxel.specs.Grid.{corner, contains_along, contains_cell}
use Rattle.ember_voxel.specs.Lattice.{longest, IsHalvedByLongest, whole, low as low_even, high as high_even, is_lattice_cell}
use Rattle.ember_voxel.specs.Voxels.{least_corner}
use Rattle.ember_voxel.proofs.Ceilings.{all_cells}

-- ---- halves
-- the tests of an interval that is cut in two
cut_span : (l m h x : ℤ) → l ≤ℤ m → m ≤ℤ h → ((int_le l x && int_lt x m) || (int_le m x && int_lt x h)) ≡ (int_le l x && int_lt x h)
cut_span l m h x p q = grind (arith, ints)

half_spans : (low : ℤ) (n : ℕ) (x : ℤ) → 0 < n →
    ((int_le low x && int_lt x (low +ℤ pos (2 ^ pred n)))
    || (int_le (low +ℤ pos (2 ^ pred n)) x && int_lt x (low +ℤ pos (2 ^ pred n) +ℤ pos (2 ^ pred n))))
    ≡ (int_le low x && int_lt x (low +ℤ pos (2 ^ n)))
half_spans low n x above =
    cut_span low (low +ℤ pos (2 ^ pred n)) (low +ℤ pos (2 ^ pred n) +ℤ pos (2 ^ pred n)) x (omega (arith, ints))
    (omega (arith, ints)) ∙ ap (λ h. int_le low x && int_lt x h) (halves_end low n above)

in_first : (a b s t : Bool) → ((s && (t && a)) || (s && (t && b))) ≡ (s && (t && (a || b)))
in_first a b true true = refl
in_first a b true false = refl
in_first a b false t = refl

in_second : (a b s t : Bool) → ((s && (a && t)) || (s && (b && t))) ≡ (s && ((a || b) && t))
in_second true b true true = refl
in_second true true true false = refl
in_second true false true false = refl
in_second false b true t = refl
in_second a b false t = refl

-- a factor in both cases of an "or" is a factor of the whole
pub in_third : (a b t : Bool) → ((a && t) || (b && t)) ≡ ((a || b) && t)
in_third true b true = refl
in_third true true false = refl
in_third true false false = refl
in_third false b t = refl

-- the cells of a box are those of its halves
pub halves_cover : (size : ℕ) (c : Cell) (k : Axis) (i j l : ℕ) → 0 < c.log k →
    (contains_cell size (left_half c k) i j l || contains_cell size (right_half c k) i j l) ≡ contains_cell size c i j l
halves_cover size c X i j l above =
    in_first (contains_along size (left_half c X) X i) (contains_along size (right_half c X) X i)
    (contains_along size c Z l) (contains_along size c Y j)
    ∙ ap (λ t. contains_along size c Z l && (contains_along size c Y j && t))
    (half_spans c.lo.x (c.log X) (corner size i) above)
halves_cover size c Y i j l above =
    in_second (contains_along size (left_half c Y) Y j) (contains_along size (right_half c Y) Y j)
    (contains_along size c Z l) (contains_along size c X i)
    ∙ ap (λ t. contains_along size c Z l && (t && contains_along size c X i))
    (half_spans c.lo.y (c.log Y) (corner size j) above)
halves_cover size c Z i j l above =
    in_third (contains_along size (left_half c Z) Z l) (contains_along size (right_half c Z) Z l)
    (contains_along size c Y j && contains_along size c X i)
    ∙ ap (λ t. t && (contains_along size c Y j && contains_along size c X i))
    (half_spans c.lo.z (c.log Z) (corner size l) above)

-- ---- the root
root_span : (size i : ℕ) → size ≤ 12 → i < 2 ^ (12 - size) →
    (int_le (neg_ℤ (pos 2048)) (corner size i) && int_lt (corner size i) (neg_ℤ (pos 2048) +ℤ pos (2 ^ 12))) ≡ true
root_span size i le within =
    let h : (i + 1) * 2 ^ size ≤ 2 ^ (12 - size) * 2 ^ size = mul-le-mul_right (2 ^ size) (let g : i + 1 ≤ 2 ^ (12 - size) = omega (arith, within) in g) in
    let below : i * 2 ^ size + 2 ^ size ≤ 4096 = omega (arith, h, all_cells size le, times_one_more i (2 ^ size)) in
    let some : 0 < 2 ^ size = pow_pos size in
    and_from (int_le (neg_ℤ (pos 2048)) (corner size i)) (int_lt (corner size i) (neg_ℤ (pos 2048) +ℤ pos (2 ^ 12)))
    (int_le_in (neg_ℤ (pos 2048)) (corner size i) (omega (arith, ints)))
    (int_lt_in (corner size i) (neg_ℤ (pos 2048) +ℤ pos (2 ^ 12)) (omega (arith, ints, below, some)))

-- the root has the least corner of every cell
pub root_covers : (size i j l : ℕ) → size ≤ 12 → i < 2 ^ (12 - size) → j < 2 ^ (12 - size) → l < 2 ^ (12 - size) → contains_cell size root i j l ≡ true
root_covers size i j l le p q r = λ t. root_span size l le r t && (root_span size j le q t && root_span size i le p t)

-- ---- the cells of a box
within : (size : ℕ) (c : Cell) (k : Axis) (i : ℕ) → contains_along size c k i ≡ true → (low c k ≤ℤ corner size i) × (corner size i <ℤ high c k)
within size c k i e =
    let p = and_parts (int_le (low c k) (corner size i)) (int_lt (corner size i) (high c k)) e in
    (int_le_out (low c k) (corner size i) p.0, int_lt_out (corner size i) (high c k) p.1)

-- a box that covers a lattice cell contains the cell's least corner
pub covered : (size : ℕ) (c : Cell) (i j l : ℕ) → contains_cell size c i j l ≡ true → HasCorner c (least_corner size i j l)
covered size c i j l e = record { from = λ k. (at k).0; until = λ k. (at k).1 } where
  p : (contains_along size c Z l ≡ true) × ((contains_along size c Y j && contains_along size c X i) ≡ true)
  p = and_parts (contains_along size c Z l) (contains_along size c Y j && contains_along size c X i) e

  q : (contains_along size c Y j ≡ true) × (contains_along size c X i ≡ true)
  q = and_parts (contains_along size c Y j) (contains_along size c X i) p.1

  at : (k : Axis) → (low c k ≤ℤ entry_along k (least_corner size i j l)) × (entry_along k (least_corner size i j l) <ℤ high c k)
  at X = within size c X i q.1
  at Y = within size c Y j q.0
  at Z = within size c Z l p.0

-- a box has its own least corner
pub own_corner : (c : Cell) → HasCorner c c.lo
own_corner c = record { from = λ k. omega (arith, linear); until = λ k. let some = pow_pos (c.log k) in omega (arith, ints) }

-- ---- a box of the size of a cell
root_is_cell : IsCell root
root_is_cell = record { sits = at; from = omega arith; below = omega arith } where
  at : (k : Axis) → IsOnGrid (low root k) (root.log k)
  at X = record { small = omega arith; index = 0; at = refl; within = omega arith }
  at Y = record { small = omega arith; index = 0; at = refl; within = omega arith }
  at Z = record { small = omega arith; index = 0; at = refl; within = omega arith }

even_is_cell : (c : Cell) → IsHalvedByLongest c → IsCell c
even_is_cell c whole = root_is_cell
even_is_cell c (low_even d even may) = left_is_cell d (longest d) may (even_is_cell d even)
even_is_cell c (high_even d even may) = right_is_cell d (longest d) may (even_is_cell d even)

-- of the multiples of d one lies in an interval of the length d
same_multiple : (d p i : ℕ) → p * d ≤ i * d → i * d < p * d + d → p * d ≡ i * d
same_multiple d p i from until = by (nat_lt p i) refl where
  by : (b : Bool) → nat_lt p i ≡ b → p * d ≡ i * d
  by true e =
      let h : (p + 1) * d ≤ i * d = mul-le-mul_right d (let g : p + 1 ≤ i = omega (arith, ltb-true p i e) in g) in
      absurd (omega (arith, h, times_one_more p d, until))
  by false e =
      let h : i * d ≤ p * d = mul-le-mul_right d (let g : i ≤ p = ltb-false p i e in g) in omega (arith, h, from)

begins_there : (size log i : ℕ) (lo : ℤ) → log ≡ size → IsOnGrid lo log → lo ≤ℤ corner size i → corner size i <ℤ (lo +ℤ pos (2 ^ log)) → lo ≡ corner size i
begins_there size log i lo e = subst (λ n. IsOnGrid lo n → lo ≤ℤ corner size i → corner size i <ℤ (lo +ℤ pos (2 ^ n)) →
    lo ≡ corner size i) (sym e) (λ s from until.
    let d = 2 ^ size in
    let m = same_multiple d s.index i (omega (arith, ints, s.at, from)) (omega (arith, ints, s.at, until)) in omega (arith, ints, s.at, m))

-- the least corner of a box that is one cell is the cell's
pub least_is : (size : ℕ) (c : Cell) (i j l : ℕ) → IsHalvedByLongest c → is_lattice_cell size c ≡ true →
    contains_cell size c i j l ≡ true → c.lo ≡ least_corner size i j l
least_is size c i j l even last e =
    let p = and_parts (c.log X == size) (c.log Y == size && c.log Z == size) last in let q = and_parts (c.log Y == size) (c.log Z == size) p.1 in
    let at = covered size c i j l e in let sits = (even_is_cell c even).sits in
    let x = begins_there size (c.log X) i c.lo.x (eqb-true (c.log X) size p.0) (sits X) (at.from X) (at.until X) in
    let y = begins_there size (c.log Y) j c.lo.y (eqb-true (c.log Y) size q.0) (sits Y) (at.from Y) (at.until Y) in
    let z = begins_there size (c.log Z) l c.lo.z (eqb-true (c.log Z) size q.1) (sits Z) (at.from Z) (at.until Z) in
    λ t. record { x = x t; y = y t; z = z t }
