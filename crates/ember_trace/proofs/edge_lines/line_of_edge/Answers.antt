use Rattle.std.proofs.Common.{◌≡◌, ap, ◌∙◌, le_refl, ℕ, ℤ, pos, ◌-ℤ◌, ◌*ℤ◌, unsigned_abs}
use mir.Syntax.{w32}
use Rattle.ember_algebra.specs.Sign.{sgn}
use Rattle.ember_algebra.specs.Size.{Small}
use Rattle.ember_algebra.proofs.Exact.{Code, input, stored, narrow, ◌⊠◌, ◌⊟◌, ◌&◌, done, exact}
use Rattle.ember_algebra.proofs.Ring.{◌⊕◌, ◌⊖◌, ◌⊗◌, ◌≈◌, num, solve, cancels}
use Rattle.ember_model.specs.declared.point.Corner.{Corner}
use Rattle.ember_model.specs.declared.point.Spot.{Spot}
use Rattle.ember_model.specs.declared.point.Axis.TheVariants.{X, Y, Z}
use Rattle.ember_model.specs.Planes.{value_at, unit, times_plane, edge_through}
use Rattle.ember_trace.proofs.edge_lines.line_of_edge.Goals as goal

-- a line's value, as its numbers say it
abbrev seen : ℤ → ℤ → ℤ → ℤ → ℤ → ℤ → ℤ → ℤ → ℤ
seen s i j k l p q w = s *ℤ (l -ℤ j) *ℤ p -ℤ s *ℤ (k -ℤ i) *ℤ q -ℤ (s *ℤ (l -ℤ j) *ℤ i -ℤ s *ℤ (k -ℤ i) *ℤ j) *ℤ w

along_x : (s : ℤ) (u v : Corner) (m : Spot) → seen s u.y u.z v.y v.z m.y m.z m.w ≡ value_at (times_plane s (edge_through u v (unit X))) m
along_x s u v m =
    solve 11 (λ s a b c d e f x y z w. s ⊗ (f ⊖ c) ⊗ y ⊖ s ⊗ (e ⊖ b) ⊗ z ⊖ (s ⊗ (f ⊖ c) ⊗ b ⊖ s ⊗ (e ⊖ b) ⊗ c) ⊗ w ≈ s ⊗
    ((e ⊖ b) ⊗ num (pos 0) ⊖ (f ⊖ c) ⊗ num (pos 0)) ⊗ x ⊕ s ⊗ ((f ⊖ c) ⊗ num (pos 1) ⊖ (d ⊖ a) ⊗ num (pos 0)) ⊗ y ⊕ s
    ⊗ ((d ⊖ a) ⊗ num (pos 0) ⊖ (e ⊖ b) ⊗ num (pos 1)) ⊗ z ⊖ s ⊗
    (((e ⊖ b) ⊗ num (pos 0) ⊖ (f ⊖ c) ⊗ num (pos 0)) ⊗ a ⊕ ((f ⊖ c) ⊗ num (pos 1) ⊖ (d ⊖ a) ⊗ num (pos 0)) ⊗ b ⊕
    ((d ⊖ a) ⊗ num (pos 0) ⊖ (e ⊖ b) ⊗ num (pos 1)) ⊗ c) ⊗ w) cancels s u.x u.y u.z v.x v.y v.z m.x m.y m.z m.w

along_y : (s : ℤ) (u v : Corner) (m : Spot) → seen s u.z u.x v.z v.x m.z m.x m.w ≡ value_at (times_plane s (edge_through u v (unit Y))) m
along_y s u v m =
    solve 11 (λ s a b c d e f x y z w. s ⊗ (d ⊖ a) ⊗ z ⊖ s ⊗ (f ⊖ c) ⊗ x ⊖ (s ⊗ (d ⊖ a) ⊗ c ⊖ s ⊗ (f ⊖ c) ⊗ a) ⊗ w ≈ s ⊗
    ((e ⊖ b) ⊗ num (pos 0) ⊖ (f ⊖ c) ⊗ num (pos 1)) ⊗ x ⊕ s ⊗ ((f ⊖ c) ⊗ num (pos 0) ⊖ (d ⊖ a) ⊗ num (pos 0)) ⊗ y ⊕ s
    ⊗ ((d ⊖ a) ⊗ num (pos 1) ⊖ (e ⊖ b) ⊗ num (pos 0)) ⊗ z ⊖ s ⊗
    (((e ⊖ b) ⊗ num (pos 0) ⊖ (f ⊖ c) ⊗ num (pos 1)) ⊗ a ⊕ ((f ⊖ c) ⊗ num (pos 0) ⊖ (d ⊖ a) ⊗ num (pos 0)) ⊗ b ⊕
    ((d ⊖ a) ⊗ num (pos 1) ⊖ (e ⊖ b) ⊗ num (pos 0)) ⊗ c) ⊗ w) cancels s u.x u.y u.z v.x v.y v.z m.x m.y m.z m.w

along_z : (s : ℤ) (u v : Corner) (m : Spot) → seen s u.x u.y v.x v.y m.x m.y m.w ≡ value_at (times_plane s (edge_through u v (unit Z))) m
along_z s u v m =
    solve 11 (λ s a b c d e f x y z w. s ⊗ (e ⊖ b) ⊗ x ⊖ s ⊗ (d ⊖ a) ⊗ y ⊖ (s ⊗ (e ⊖ b) ⊗ a ⊖ s ⊗ (d ⊖ a) ⊗ b) ⊗ w ≈ s ⊗
    ((e ⊖ b) ⊗ num (pos 1) ⊖ (f ⊖ c) ⊗ num (pos 0)) ⊗ x ⊕ s ⊗ ((f ⊖ c) ⊗ num (pos 0) ⊖ (d ⊖ a) ⊗ num (pos 1)) ⊗ y ⊕ s
    ⊗ ((d ⊖ a) ⊗ num (pos 0) ⊖ (e ⊖ b) ⊗ num (pos 0)) ⊗ z ⊖ s ⊗
    (((e ⊖ b) ⊗ num (pos 1) ⊖ (f ⊖ c) ⊗ num (pos 0)) ⊗ a ⊕ ((f ⊖ c) ⊗ num (pos 0) ⊖ (d ⊖ a) ⊗ num (pos 1)) ⊗ b ⊕
    ((d ⊖ a) ⊗ num (pos 0) ⊖ (e ⊖ b) ⊗ num (pos 0)) ⊗ c) ⊗ w) cancels s u.x u.y u.z v.x v.y v.z m.x m.y m.z m.w

-- the same as the code has it; the numbers are s, the two places and the point
abbrev place : ℕ → Code
place i = stored w32 (input i)

abbrev a : Code
a = narrow 0 ⊠ (place 4 ⊟ place 2)

abbrev b : Code
b = narrow 0 ⊠ (place 3 ⊟ place 1)

abbrev code : Code
code = a ⊠ input 5 ⊟ b ⊠ input 6 ⊟ (a ⊠ place 1 ⊟ b ⊠ place 2) ⊠ input 7

-- nothing is stored of the point, so its numbers may be of any size
own : (z : ℤ) → Small (unsigned_abs z) z
own z = record { small = le_refl (unsigned_abs z) }

pub returns-in-X : goal.returns-in-X
returns-in-X c = λ m.
    let u = c.args.u.now in let v = c.args.v.now in let r = c.requires in let l = c.line_through.ensures in
    let e = exact (r.s & r.from.y & r.from.z & r.to.y & r.to.z & own m.y & own m.z & own m.w & done) code tt in
    rw c.in-X.is (ap sgn ((λ i. l.dq i *ℤ m.y -ℤ l.dp i *ℤ m.z -ℤ l.d i *ℤ m.w) ∙ e ∙ along_x c.args.s u v m))

pub returns-in-Y : goal.returns-in-Y
returns-in-Y c = λ m.
    let u = c.args.u.now in let v = c.args.v.now in let r = c.requires in let l = c.line_through-in-Y.ensures in
    let e = exact (r.s & r.from.z & r.from.x & r.to.z & r.to.x & own m.z & own m.x & own m.w & done) code tt in
    rw c.in-Y.is (ap sgn ((λ i. l.dq i *ℤ m.z -ℤ l.dp i *ℤ m.x -ℤ l.d i *ℤ m.w) ∙ e ∙ along_y c.args.s u v m))

pub returns-in-Z : goal.returns-in-Z
returns-in-Z c = λ m.
    let u = c.args.u.now in let v = c.args.v.now in let r = c.requires in let l = c.line_through-in-Z.ensures in
    let e = exact (r.s & r.from.x & r.from.y & r.to.x & r.to.y & own m.x & own m.y & own m.w & done) code tt in
    rw c.in-Z.is (ap sgn ((λ i. l.dq i *ℤ m.x -ℤ l.dp i *ℤ m.y -ℤ l.d i *ℤ m.w) ∙ e ∙ along_z c.args.s u v m))
