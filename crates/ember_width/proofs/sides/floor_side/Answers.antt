use Rattle.std.proofs.Common.{ℤ, pos, ◌+ℤ◌, ◌*ℤ◌, ◌<ℤ◌, ◌≤ℤ◌, ◌∙◌, sym, ap, subst, arith}
use Rattle.std.proofs.lemmas.Int.{ints}
use mir.Syntax.{w64}
use Rattle.ember_algebra.specs.Sign.{sgn}
use Rattle.ember_algebra.proofs.Signs.{sgn_pos, sgn_neg}
use Rattle.ember_algebra.proofs.Exact.{Code, stored, narrow, ◌⊞◌, ◌&◌, done, exact, no_overflow}
use Rattle.ember_width.proofs.CubeValues.{value_by_floor, in_front, behind, remainder_within}
use Rattle.ember_width.proofs.sides.floor_side.Goals as goal

abbrev one : Code
one = narrow 0 ⊞ narrow 1

abbrev two : Code
two = stored w64 one ⊞ narrow 2

abbrev three : Code
three = stored w64 two ⊞ narrow 3

pub overflow_add-low : goal.overflow_add-low
overflow_add-low c = no_overflow (c.value_at_corner-v.ensures.small & c.least.ensures.small & done) w64 one tt

pub overflow_add-low-2 : goal.overflow_add-low-2
overflow_add-low-2 c =
    no_overflow (c.value_at_corner-v.ensures.small & c.least.ensures.small & c.least-2.ensures.small & done) w64 two tt

pub overflow_add-low-3 : goal.overflow_add-low-3
overflow_add-low-3 c =
    no_overflow (c.value_at_corner-v.ensures.small & c.least.ensures.small & c.least-2.ensures.small & c.least-3.ensures.small & done) w64 three tt

pub overflow_add-high : goal.overflow_add-high
overflow_add-high c = no_overflow (c.value_at_corner-v.ensures.small & c.greatest.ensures.small & done) w64 one tt

pub overflow_add-high-2 : goal.overflow_add-high-2
overflow_add-high-2 c =
    no_overflow (c.value_at_corner-v.ensures.small & c.greatest.ensures.small & c.greatest-2.ensures.small & done) w64 two tt

pub overflow_add-high-3 : goal.overflow_add-high-3
overflow_add-high-3 c =
    no_overflow (c.value_at_corner-v.ensures.small & c.greatest.ensures.small & c.greatest-2.ensures.small & c.greatest-3.ensures.small & done) w64 three tt

pub returns-then-low-gt0 : goal.returns-then-low-gt0
returns-then-low-gt0 c =
    let p = c.requires in let f = c.args.p.now in let m = c.args.m.now in let s = m.valid in
    let v = c.value_at_corner-v in let l = c.least in let k = c.least-2 in let n = c.least-3 in
    let x = subst (λ (z : ℤ). (l.result *ℤ m.w) ≤ℤ (z *ℤ m.x)) (exact (p.a & done) (narrow 0) tt)
    (l.ensures.bound m.x m.w s.x.at_least (remainder_within s.x)) in
    let y = subst (λ (z : ℤ). (k.result *ℤ m.w) ≤ℤ (z *ℤ m.y)) (exact (p.b & done) (narrow 0) tt)
    (k.ensures.bound m.y m.w s.y.at_least (remainder_within s.y)) in
    let z = subst (λ (z : ℤ). (n.result *ℤ m.w) ≤ℤ (z *ℤ m.z)) (exact (p.c & done) (narrow 0) tt)
    (n.ensures.bound m.z m.w s.z.at_least (remainder_within s.z)) in
    let e = exact (v.ensures.small & l.ensures.small & k.ensures.small & n.ensures.small & done) (stored w64 three) tt in
    let above : pos 0 <ℤ (v.result +ℤ l.result +ℤ k.result +ℤ n.result) = omega (arith, e, c.if-low-gt0.true, ints) in
    let value = value_by_floor f m ∙ ap (λ (a : ℤ). a *ℤ m.w +ℤ f.a *ℤ m.x +ℤ f.b *ℤ m.y +ℤ f.c *ℤ m.z) (sym v.ensures.sum) in
    sym (ap sgn value ∙ sgn_pos (in_front v.result f.a f.b f.c m.x m.y m.z m.w l.result k.result n.result s.weight x y z above))

pub returns-then-high-lt0 : goal.returns-then-high-lt0
returns-then-high-lt0 c =
    let p = c.requires in let f = c.args.p.now in let m = c.args.m.now in let s = m.valid in
    let v = c.value_at_corner-v in let l = c.greatest in let k = c.greatest-2 in let n = c.greatest-3 in
    let x = subst (λ (z : ℤ). (z *ℤ m.x) ≤ℤ (l.result *ℤ m.w)) (exact (p.a & done) (narrow 0) tt)
    (l.ensures.bound m.x m.w s.x.at_least (remainder_within s.x)) in
    let y = subst (λ (z : ℤ). (z *ℤ m.y) ≤ℤ (k.result *ℤ m.w)) (exact (p.b & done) (narrow 0) tt)
    (k.ensures.bound m.y m.w s.y.at_least (remainder_within s.y)) in
    let z = subst (λ (z : ℤ). (z *ℤ m.z) ≤ℤ (n.result *ℤ m.w)) (exact (p.c & done) (narrow 0) tt)
    (n.ensures.bound m.z m.w s.z.at_least (remainder_within s.z)) in
    let e = exact (v.ensures.small & l.ensures.small & k.ensures.small & n.ensures.small & done) (stored w64 three) tt in
    let below : (v.result +ℤ l.result +ℤ k.result +ℤ n.result) <ℤ pos 0 = omega (arith, e, c.if-high-lt0.true, ints) in
    let value = value_by_floor f m ∙ ap (λ (a : ℤ). a *ℤ m.w +ℤ f.a *ℤ m.x +ℤ f.b *ℤ m.y +ℤ f.c *ℤ m.z) (sym v.ensures.sum) in
    sym (ap sgn value ∙ sgn_neg (behind v.result f.a f.b f.c m.x m.y m.z m.w l.result k.result n.result s.weight x y z below))

pub returns : goal.returns
returns c =
    let f = c.args.p.now in let m = c.args.m.now in let v = c.value_at_corner-v in
    let e = exact (v.ensures.small & done) (narrow 0) tt ∙ v.ensures.sum in
    c.exact_side.ensures ∙ ap sgn (ap (λ (a : ℤ). a *ℤ m.w +ℤ f.a *ℤ m.x +ℤ f.b *ℤ m.y +ℤ f.c *ℤ m.z) e ∙ sym (value_by_floor f m))
