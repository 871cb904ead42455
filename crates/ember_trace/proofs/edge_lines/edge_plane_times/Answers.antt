use Rattle.std.proofs.Common.{◌≡◌, sym, ap, ◌∙◌, subst, arith, ℕ, ℤ, pos, ◌-ℤ◌, ◌*ℤ◌, neg_ℤ}
use borrow.Author.Differences.{ints}
use mir.Syntax.{w32, w64}
use Rattle.ember_algebra.proofs.Exact.{Code, input, number, stored, narrow, ◌⊠◌, ◌⊟◌, ◌&◌, done, exact, no_overflow}
use Rattle.ember_algebra.proofs.Ring.{◌⊕◌, ◌⊖◌, ◌⊗◌, ◌≈◌, num, neg, solve, cancels}
use Rattle.ember_model.specs.declared.point.Corner.{Corner}
use Rattle.ember_model.specs.declared.point.Axis.TheVariants.{X, Y, Z}
use Rattle.ember_model.specs.Planes.{unit, times_plane, edge_through}
use Rattle.ember_model.specs.Within.{IsEdgeWithin}
use Rattle.ember_model.proofs.PlaneSizes.{edge_within}
use Rattle.ember_trace.proofs.edge_lines.edge_plane_times.Goals as goal

abbrev less : Code
less = number (pos 0) ⊟ narrow 0

-- the numbers are s and two places
abbrev place : ℕ → Code
place i = stored w32 (input i)

abbrev a : Code
a = narrow 0 ⊠ (place 4 ⊟ place 2)

abbrev b : Code
b = narrow 0 ⊠ (place 3 ⊟ place 1)

zero_less : (z : ℤ) → pos 0 -ℤ z ≡ neg_ℤ z
zero_less z = omega (arith, ints)

-- the entries of the normal, from the ways along the two other axes and along this one
none : (s p q : ℤ) → pos 0 ≡ s *ℤ (p *ℤ pos 0 -ℤ q *ℤ pos 0)
none s p q = sym (solve 3 (λ s p q. s ⊗ (p ⊗ num (pos 0) ⊖ q ⊗ num (pos 0)) ≈ num (pos 0)) cancels s p q)

one : (s q r : ℤ) → s *ℤ q ≡ s *ℤ (q *ℤ pos 1 -ℤ r *ℤ pos 0)
one s q r = solve 3 (λ s q r. s ⊗ q ≈ s ⊗ (q ⊗ num (pos 1) ⊖ r ⊗ num (pos 0))) cancels s q r

other : (s p r : ℤ) → neg_ℤ (s *ℤ p) ≡ s *ℤ (r *ℤ pos 0 -ℤ p *ℤ pos 1)
other s p r = solve 3 (λ s p r. neg (s ⊗ p) ≈ s ⊗ (r ⊗ num (pos 0) ⊖ p ⊗ num (pos 1))) cancels s p r

-- the constants
constant_x : (s : ℤ) (u v : Corner) → s *ℤ (v.z -ℤ u.z) *ℤ u.y -ℤ s *ℤ (v.y -ℤ u.y) *ℤ u.z ≡ (times_plane s (edge_through u v (unit X))).d
constant_x s u v =
    solve 7 (λ s a b c d e f. s ⊗ (f ⊖ c) ⊗ b ⊖ s ⊗ (e ⊖ b) ⊗ c ≈ s ⊗
    (((e ⊖ b) ⊗ num (pos 0) ⊖ (f ⊖ c) ⊗ num (pos 0)) ⊗ a ⊕ ((f ⊖ c) ⊗ num (pos 1) ⊖ (d ⊖ a) ⊗ num (pos 0)) ⊗ b ⊕
    ((d ⊖ a) ⊗ num (pos 0) ⊖ (e ⊖ b) ⊗ num (pos 1)) ⊗ c)) cancels s u.x u.y u.z v.x v.y v.z

constant_y : (s : ℤ) (u v : Corner) → s *ℤ (v.x -ℤ u.x) *ℤ u.z -ℤ s *ℤ (v.z -ℤ u.z) *ℤ u.x ≡ (times_plane s (edge_through u v (unit Y))).d
constant_y s u v =
    solve 7 (λ s a b c d e f. s ⊗ (d ⊖ a) ⊗ c ⊖ s ⊗ (f ⊖ c) ⊗ a ≈ s ⊗
    (((e ⊖ b) ⊗ num (pos 0) ⊖ (f ⊖ c) ⊗ num (pos 1)) ⊗ a ⊕ ((f ⊖ c) ⊗ num (pos 0) ⊖ (d ⊖ a) ⊗ num (pos 0)) ⊗ b ⊕
    ((d ⊖ a) ⊗ num (pos 1) ⊖ (e ⊖ b) ⊗ num (pos 0)) ⊗ c)) cancels s u.x u.y u.z v.x v.y v.z

constant_z : (s : ℤ) (u v : Corner) → s *ℤ (v.y -ℤ u.y) *ℤ u.x -ℤ s *ℤ (v.x -ℤ u.x) *ℤ u.y ≡ (times_plane s (edge_through u v (unit Z))).d
constant_z s u v =
    solve 7 (λ s a b c d e f. s ⊗ (e ⊖ b) ⊗ a ⊖ s ⊗ (d ⊖ a) ⊗ b ≈ s ⊗
    (((e ⊖ b) ⊗ num (pos 1) ⊖ (f ⊖ c) ⊗ num (pos 0)) ⊗ a ⊕ ((f ⊖ c) ⊗ num (pos 0) ⊖ (d ⊖ a) ⊗ num (pos 1)) ⊗ b ⊕
    ((d ⊖ a) ⊗ num (pos 0) ⊖ (e ⊖ b) ⊗ num (pos 0)) ⊗ c)) cancels s u.x u.y u.z v.x v.y v.z

pub overflow_sub-result : goal.overflow_sub-result
overflow_sub-result c = no_overflow (c.line_through-line.result.small_dp & done) w64 less tt

pub overflow_sub-result-in-Y : goal.overflow_sub-result-in-Y
overflow_sub-result-in-Y c = no_overflow (c.line_through-line-in-Y.result.small_dp & done) w64 less tt

pub overflow_sub-result-in-Z : goal.overflow_sub-result-in-Z
overflow_sub-result-in-Z c = no_overflow (c.line_through-line-in-Z.result.small_dp & done) w64 less tt

pub returns-in-X-clause-value : goal.returns-in-X-clause-value
returns-in-X-clause-value c =
    let u = c.args.u.now in let v = c.args.v.now in let s = c.args.s in let l = c.line_through-line.result in let m = c.line_through-line.ensures in
    let r = c.requires in
    let ea = exact (r.s & r.from.y & r.from.z & r.to.y & r.to.z & done) a tt in
    let eb = exact (r.s & r.from.y & r.from.z & r.to.y & r.to.z & done) b tt in
    let ed = exact (r.s & r.from.y & r.from.z & r.to.y & r.to.z & done) (a ⊠ place 1 ⊟ b ⊠ place 2) tt in
    let x = none s (v.y -ℤ u.y) (v.z -ℤ u.z) in
    let y = (exact (l.small_dq & done) (narrow 0) tt ∙ m.dq ∙ ea ∙ one s (v.z -ℤ u.z) (v.x -ℤ u.x)) in
    let z = (exact (l.small_dp & done) (stored w64 less) tt ∙ zero_less l.dp ∙ ap neg_ℤ (m.dp ∙ eb) ∙ other s (v.y -ℤ u.y) (v.x -ℤ u.x)) in
    let w = exact (l.small_d & done) (narrow 0) tt ∙ m.d ∙ ed ∙ constant_x s u v in
    rw c.in-X.is (λ i. record { a = x i; b = y i; c = z i; d = w i })

pub returns-in-X-clause-within : goal.returns-in-X-clause-within
returns-in-X-clause-within c = λ m p q.
    subst (λ h. IsEdgeWithin m h) (sym (returns-in-X-clause-value c)) (edge_within m c.args.u.now c.args.v.now c.args.k c.args.s p q c.requires.s)

pub returns-in-Y-clause-value : goal.returns-in-Y-clause-value
returns-in-Y-clause-value c =
    let u = c.args.u.now in let v = c.args.v.now in let s = c.args.s in let l = c.line_through-line-in-Y.result in let m = c.line_through-line-in-Y.ensures in
    let r = c.requires in
    let ea = exact (r.s & r.from.z & r.from.x & r.to.z & r.to.x & done) a tt in
    let eb = exact (r.s & r.from.z & r.from.x & r.to.z & r.to.x & done) b tt in
    let ed = exact (r.s & r.from.z & r.from.x & r.to.z & r.to.x & done) (a ⊠ place 1 ⊟ b ⊠ place 2) tt in
    let x = (exact (l.small_dp & done) (stored w64 less) tt ∙ zero_less l.dp ∙ ap neg_ℤ (m.dp ∙ eb) ∙ other s (v.z -ℤ u.z) (v.y -ℤ u.y)) in
    let y = none s (v.z -ℤ u.z) (v.x -ℤ u.x) in
    let z = (exact (l.small_dq & done) (narrow 0) tt ∙ m.dq ∙ ea ∙ one s (v.x -ℤ u.x) (v.y -ℤ u.y)) in
    let w = exact (l.small_d & done) (narrow 0) tt ∙ m.d ∙ ed ∙ constant_y s u v in
    rw c.in-Y.is (λ i. record { a = x i; b = y i; c = z i; d = w i })

pub returns-in-Y-clause-within : goal.returns-in-Y-clause-within
returns-in-Y-clause-within c = λ m p q.
    subst (λ h. IsEdgeWithin m h) (sym (returns-in-Y-clause-value c)) (edge_within m c.args.u.now c.args.v.now c.args.k c.args.s p q c.requires.s)

pub returns-in-Z-clause-value : goal.returns-in-Z-clause-value
returns-in-Z-clause-value c =
    let u = c.args.u.now in let v = c.args.v.now in let s = c.args.s in let l = c.line_through-line-in-Z.result in let m = c.line_through-line-in-Z.ensures in
    let r = c.requires in
    let ea = exact (r.s & r.from.x & r.from.y & r.to.x & r.to.y & done) a tt in
    let eb = exact (r.s & r.from.x & r.from.y & r.to.x & r.to.y & done) b tt in
    let ed = exact (r.s & r.from.x & r.from.y & r.to.x & r.to.y & done) (a ⊠ place 1 ⊟ b ⊠ place 2) tt in
    let x = (exact (l.small_dq & done) (narrow 0) tt ∙ m.dq ∙ ea ∙ one s (v.y -ℤ u.y) (v.z -ℤ u.z)) in
    let y = (exact (l.small_dp & done) (stored w64 less) tt ∙ zero_less l.dp ∙ ap neg_ℤ (m.dp ∙ eb) ∙ other s (v.x -ℤ u.x) (v.z -ℤ u.z)) in
    let z = none s (v.x -ℤ u.x) (v.y -ℤ u.y) in
    let w = exact (l.small_d & done) (narrow 0) tt ∙ m.d ∙ ed ∙ constant_z s u v in
    rw c.in-Z.is (λ i. record { a = x i; b = y i; c = z i; d = w i })

pub returns-in-Z-clause-within : goal.returns-in-Z-clause-within
returns-in-Z-clause-within c = λ m p q.
    subst (λ h. IsEdgeWithin m h) (sym (returns-in-Z-clause-value c)) (edge_within m c.args.u.now c.args.v.now c.args.k c.args.s p q c.requires.s)
