use Rattle.std.proofs.Common.{◌≡◌, ap, ◌∙◌, ℕ, ℤ, pos, ◌+ℤ◌, ◌-ℤ◌, ◌*ℤ◌, neg_ℤ}
use mir.Syntax.{w32, w64}
use mir.Val.{to_z, of_z}
use Rattle.ember_algebra.specs.Sign.{sgn}
use Rattle.ember_algebra.proofs.Exact.{Code, input, stored, narrow, minus, ◌⊠◌, ◌⊞◌, ◌⊟◌, ◌&◌, done, exact}
use Rattle.ember_algebra.proofs.Ring.{◌⊕◌, ◌⊖◌, ◌⊗◌, ◌≈◌, num, neg, solve, cancels}
use Rattle.ember_model.specs.declared.point.Corner.{Corner}
use Rattle.ember_model.specs.declared.point.Spot.{Spot}
use Rattle.ember_model.specs.declared.point.Axis.TheVariants.{X, Y, Z}
use Rattle.ember_model.specs.Planes.{value_at, unit, times_plane, edge_through}
use Rattle.ember_point.specs.Points.{slid}
use Rattle.ember_width.specs.BroadPoints.{short_spot}
use Rattle.ember_trace.proofs.edge_lines.moved_edge_side.Goals as goal

-- the value of a mark of the line through two places (i, j) and (k, l), at the coordinate x
abbrev at_first : ℤ → ℤ → ℤ → ℤ → ℤ → ℤ → ℤ → ℤ → ℤ
at_first s i j k l at x w = neg_ℤ (s *ℤ (k -ℤ i)) *ℤ x -ℤ (s *ℤ (l -ℤ j) *ℤ i -ℤ s *ℤ (k -ℤ i) *ℤ j -ℤ s *ℤ (l -ℤ j) *ℤ at) *ℤ w

abbrev at_last : ℤ → ℤ → ℤ → ℤ → ℤ → ℤ → ℤ → ℤ → ℤ
at_last s i j k l at x w = s *ℤ (l -ℤ j) *ℤ x -ℤ (s *ℤ (l -ℤ j) *ℤ i -ℤ s *ℤ (k -ℤ i) *ℤ j +ℤ s *ℤ (k -ℤ i) *ℤ at) *ℤ w

along_x : (s at by : ℤ) (u v : Corner) (m : Spot) →
    at_first s u.x u.y v.x v.y at m.y m.w ≡ value_at (slid (slid (times_plane s (edge_through u v (unit Z))) Z by) X at) m
along_x s at by u v m =
    solve 13 (λ s t g a b c d e f x y z w. neg (s ⊗ (d ⊖ a)) ⊗ y ⊖ (s ⊗ (e ⊖ b) ⊗ a ⊖ s ⊗ (d ⊖ a) ⊗ b ⊖ s ⊗ (e ⊖ b) ⊗ t)
    ⊗ w ≈ num (pos 0) ⊗ x ⊕ s ⊗ ((f ⊖ c) ⊗ num (pos 0) ⊖ (d ⊖ a) ⊗ num (pos 1)) ⊗ y ⊕ num (pos 0) ⊗ z ⊖
    (s ⊗ (((e ⊖ b) ⊗ num (pos 1) ⊖ (f ⊖ c) ⊗ num (pos 0)) ⊗ a ⊕ ((f ⊖ c) ⊗ num (pos 0) ⊖ (d ⊖ a) ⊗ num (pos 1)) ⊗ b ⊕
    ((d ⊖ a) ⊗ num (pos 0) ⊖ (e ⊖ b) ⊗ num (pos 0)) ⊗ c) ⊖ s ⊗ ((d ⊖ a) ⊗ num (pos 0) ⊖ (e ⊖ b) ⊗ num (pos 0)) ⊗ g ⊖ s
    ⊗ ((e ⊖ b) ⊗ num (pos 1) ⊖ (f ⊖ c) ⊗ num (pos 0)) ⊗ t) ⊗ w) cancels s at by u.x u.y u.z v.x v.y v.z m.x m.y m.z
    m.w

along_y : (s at by : ℤ) (u v : Corner) (m : Spot) →
    at_last s u.x u.y v.x v.y at m.x m.w ≡ value_at (slid (slid (times_plane s (edge_through u v (unit Z))) Z by) Y at) m
along_y s at by u v m =
    solve 13 (λ s t g a b c d e f x y z w. s ⊗ (e ⊖ b) ⊗ x ⊖ (s ⊗ (e ⊖ b) ⊗ a ⊖ s ⊗ (d ⊖ a) ⊗ b ⊕ s ⊗ (d ⊖ a) ⊗ t) ⊗ w ≈
    s ⊗ ((e ⊖ b) ⊗ num (pos 1) ⊖ (f ⊖ c) ⊗ num (pos 0)) ⊗ x ⊕ num (pos 0) ⊗ y ⊕ num (pos 0) ⊗ z ⊖
    (s ⊗ (((e ⊖ b) ⊗ num (pos 1) ⊖ (f ⊖ c) ⊗ num (pos 0)) ⊗ a ⊕ ((f ⊖ c) ⊗ num (pos 0) ⊖ (d ⊖ a) ⊗ num (pos 1)) ⊗ b ⊕
    ((d ⊖ a) ⊗ num (pos 0) ⊖ (e ⊖ b) ⊗ num (pos 0)) ⊗ c) ⊖ s ⊗ ((d ⊖ a) ⊗ num (pos 0) ⊖ (e ⊖ b) ⊗ num (pos 0)) ⊗ g ⊖ s
    ⊗ ((f ⊖ c) ⊗ num (pos 0) ⊖ (d ⊖ a) ⊗ num (pos 1)) ⊗ t) ⊗ w) cancels s at by u.x u.y u.z v.x v.y v.z m.x m.y m.z
    m.w

along_z : (s at by : ℤ) (u v : Corner) (m : Spot) →
    at_first s u.z u.x v.z v.x at m.x m.w ≡ value_at (slid (slid (times_plane s (edge_through u v (unit Y))) Y by) Z at) m
along_z s at by u v m =
    solve 13 (λ s t g a b c d e f x y z w. neg (s ⊗ (f ⊖ c)) ⊗ x ⊖ (s ⊗ (d ⊖ a) ⊗ c ⊖ s ⊗ (f ⊖ c) ⊗ a ⊖ s ⊗ (d ⊖ a) ⊗ t)
    ⊗ w ≈ s ⊗ ((e ⊖ b) ⊗ num (pos 0) ⊖ (f ⊖ c) ⊗ num (pos 1)) ⊗ x ⊕ num (pos 0) ⊗ y ⊕ num (pos 0) ⊗ z ⊖
    (s ⊗ (((e ⊖ b) ⊗ num (pos 0) ⊖ (f ⊖ c) ⊗ num (pos 1)) ⊗ a ⊕ ((f ⊖ c) ⊗ num (pos 0) ⊖ (d ⊖ a) ⊗ num (pos 0)) ⊗ b ⊕
    ((d ⊖ a) ⊗ num (pos 1) ⊖ (e ⊖ b) ⊗ num (pos 0)) ⊗ c) ⊖ s ⊗ ((f ⊖ c) ⊗ num (pos 0) ⊖ (d ⊖ a) ⊗ num (pos 0)) ⊗ g ⊖ s
    ⊗ ((d ⊖ a) ⊗ num (pos 1) ⊖ (e ⊖ b) ⊗ num (pos 0)) ⊗ t) ⊗ w) cancels s at by u.x u.y u.z v.x v.y v.z m.x m.y m.z
    m.w

-- the same as the code has it; the numbers are s, the two places, the coordinate and the point
abbrev place : ℕ → Code
place i = stored w32 (input i)

abbrev a : Code
a = narrow 0 ⊠ (place 4 ⊟ place 2)

abbrev b : Code
b = narrow 0 ⊠ (place 3 ⊟ place 1)

abbrev d : Code
d = a ⊠ place 1 ⊟ b ⊠ place 2

abbrev read : ℤ → ℤ
read z = to_z w64 (of_z w64 z)

abbrev first : Code
first = minus b ⊠ narrow 6 ⊟ (d ⊟ a ⊠ place 5) ⊠ narrow 7

abbrev last : Code
last = a ⊠ narrow 6 ⊟ (d ⊞ b ⊠ place 5) ⊠ narrow 7

pub returns-in-X : goal.returns-in-X
returns-in-X c = λ by.
    let u = c.args.u.now in let v = c.args.v.now in let m = c.args.m.now in let n = m.valid in let r = c.requires in
    let l = c.line_through.ensures in let k = c.axis_point_at_p.ensures in
    let e = exact (r.s & r.from.x & r.from.y & r.to.x & r.to.y & r.at & n.y & n.w & done) first tt in
    rw c.in-X.is (c.axis_point_side.ensures ∙ ap sgn
    ((λ i. k.n i *ℤ read m.y -ℤ k.e i *ℤ read m.w)
    ∙ (λ i. neg_ℤ (l.dp i) *ℤ read m.y -ℤ (l.d i -ℤ l.dq i *ℤ to_z w32 (of_z w32 c.args.at)) *ℤ read m.w) ∙ e
    ∙ along_x c.args.s c.args.at by u v (short_spot m)))

pub returns-in-Y : goal.returns-in-Y
returns-in-Y c = λ by.
    let u = c.args.u.now in let v = c.args.v.now in let m = c.args.m.now in let n = m.valid in let r = c.requires in
    let l = c.line_through-in-Y.ensures in let k = c.axis_point_at_q.ensures in
    let e = exact (r.s & r.from.x & r.from.y & r.to.x & r.to.y & r.at & n.x & n.w & done) last tt in
    rw c.in-Y.is (c.axis_point_side-in-Y.ensures
    ∙ ap sgn ((λ i. k.n i *ℤ read m.x -ℤ k.e i *ℤ read m.w)
    ∙ (λ i. l.dq i *ℤ read m.x -ℤ (l.d i +ℤ l.dp i *ℤ to_z w32 (of_z w32 c.args.at)) *ℤ read m.w) ∙ e
    ∙ along_y c.args.s c.args.at by u v (short_spot m)))

pub returns-in-Z : goal.returns-in-Z
returns-in-Z c = λ by.
    let u = c.args.u.now in let v = c.args.v.now in let m = c.args.m.now in let n = m.valid in let r = c.requires in
    let l = c.line_through-in-Z.ensures in let k = c.axis_point_at_p-in-Z.ensures in
    let e = exact (r.s & r.from.z & r.from.x & r.to.z & r.to.x & r.at & n.x & n.w & done) first tt in
    rw c.in-Z.is (c.axis_point_side-in-Z.ensures
    ∙ ap sgn ((λ i. k.n i *ℤ read m.x -ℤ k.e i *ℤ read m.w)
    ∙ (λ i. neg_ℤ (l.dp i) *ℤ read m.x -ℤ (l.d i -ℤ l.dq i *ℤ to_z w32 (of_z w32 c.args.at)) *ℤ read m.w) ∙ e
    ∙ along_z c.args.s c.args.at by u v (short_spot m)))
