-- The longest side of a box, and the sides of its halves.
use Rattle.std.proofs.Common.{◌≡◌, ℕ, zero, suc, pred, ◌<◌, ◌≤◌, ◌==◌, ◌&&◌, Bool, true, false, nat_le}
use Rattle.std.proofs.Common.{if◌then◌else◌, refl, arith}
use Rattle.std.proofs.lemmas.Bool.{eq-eqb, leb-true, leb-false}
use Rattle.ember_model.specs.declared.point.Axis.{Axis}
use Rattle.ember_model.specs.declared.point.Axis.TheVariants.{X, Y, Z}
use Rattle.ember_model.proofs.SignTests.{clash}
use Rattle.ember_box.specs.Boxes.{Cell, put}
use Rattle.ember_voxel.specs.Lattice.{longest, is_lattice_cell}

-- a longest one of three
abbrev Most : (Axis → ℕ) → Axis → Type 0
Most f m = (f X ≤ f m) × (f Y ≤ f m) × (f Z ≤ f m)

most : (f : Axis → ℕ) (a b c : Bool) → nat_le (f Y) (f X) ≡ a → nat_le (f Z) (f X) ≡ b → nat_le (f Z) (f Y) ≡ c →
    Most f (if a && b then X else (if c then Y else Z))
most f true true c p q r = (omega arith, leb-true (f Y) (f X) p, leb-true (f Z) (f X) q)
most f true false true p q r =
    absurd (omega (arith, leb-true (f Y) (f X) p, leb-false (f Z) (f X) q, leb-true (f Z) (f Y) r))
most f true false false p q r =
    (omega (arith, leb-false (f Z) (f X) q), omega (arith, leb-false (f Z) (f Y) r), omega arith)
most f false b true p q r = (omega (arith, leb-false (f Y) (f X) p), omega arith, leb-true (f Z) (f Y) r)
most f false b false p q r = (
  omega (arith, leb-false (f Y) (f X) p, leb-false (f Z) (f Y) r),
  omega (
    arith,
    leb-false (f Z)
        (f Y) r,
  ),
  omega arith,
)

longest_most : (c : Cell) → Most c.log (longest c)
longest_most c = most c.log (nat_le (c.log Y) (c.log X)) (nat_le (c.log Z) (c.log X))
    (nat_le (c.log Z) (c.log Y)) refl refl refl

-- if no side is below 2 ^ size and some is above, the longest is
pub longest_above : (c : Cell) (size : ℕ) → ((k : Axis) → size ≤ c.log k) → is_lattice_cell size c ≡ false →
    size < c.log (longest c)
longest_above c size sides e = at (nat_le (c.log (longest c)) size) refl where
  at : (b : Bool) → nat_le (c.log (longest c)) size ≡ b → size < c.log (longest c)
  at false p = leb-false (c.log (longest c)) size p
  at true p =
      let l = leb-true (c.log (longest c)) size p in
      let m = longest_most c in
      let x : (c.log X == size) ≡ true = eq-eqb (c.log X) size (omega (arith, l, m.0, sides X)) in
      let y : (c.log Y == size) ≡ true = eq-eqb (c.log Y) size (omega (arith, l, m.1, sides Y)) in
      let z : (c.log Z == size) ≡ true = eq-eqb (c.log Z) size (omega (arith, l, m.2, sides Z)) in
      absurd (clash (λ i. x i && (y i && z i)) e)

put_above : (m : Axis) (n size : ℕ) (f : Axis → ℕ) → size ≤ n → ((k : Axis) → size ≤ f k) → (k : Axis) →
    size ≤ put m n f k
put_above X n size f l s X = l
put_above X n size f l s Y = s Y
put_above X n size f l s Z = s Z
put_above Y n size f l s X = s X
put_above Y n size f l s Y = l
put_above Y n size f l s Z = s Z
put_above Z n size f l s X = s X
put_above Z n size f l s Y = s Y
put_above Z n size f l s Z = l

at_most_pred : (m n : ℕ) → m < n → m ≤ pred n
at_most_pred m zero l = absurd (omega arith)
at_most_pred m (suc n) l = omega arith

-- the sides of the halves
pub sides_of_halves : (c : Cell) (size : ℕ) → ((k : Axis) → size ≤ c.log k) → size < c.log (longest c) → (k : Axis) →
    size ≤ put (longest c) (pred (c.log (longest c))) c.log k
sides_of_halves c size s l =
    put_above (longest c) (pred (c.log (longest c))) size c.log (at_most_pred size (c.log (longest c)) l) s
