use Rattle.std.proofs.Common.{◌≡◌, ℤ, pos, neg_ℤ, ◌<ℤ◌, ◌+ℤ◌, ◌*ℤ◌, sym, ap, ◌∙◌, arith}
use Rattle.std.proofs.lemmas.Int.{ints}
use mir.Syntax.{w64}
use Rattle.ember_algebra.specs.Sign.{sgn}
use Rattle.ember_algebra.proofs.Signs.{sgn_pos, sgn_neg}
use Rattle.ember_algebra.specs.Size.{Small}
use Rattle.ember_algebra.proofs.Exact.{stored, kept, ◌&◌, done, exact}
use Rattle.mesh_point.specs.Sides.{floor_value, rest_value, most_change}
use Rattle.mesh_point.proofs.SideValues.{value_by_floor, rest_size, far_in_front, far_behind}
use Rattle.mesh_point.proofs.sides.side.Goals as goal

pub returns-then-value-gt-MOST_CHANGE : goal.returns-then-value-gt-MOST_CHANGE
returns-then-value-gt-MOST_CHANGE c =
    let h = c.args.plane.now in let p = c.args.p.now in let f = c.floor_value-value.ensures in
    let k = exact (f.small & done) (kept 0) tt in
    let l : pos most_change <ℤ floor_value h p = omega (arith, ints, k, f.value, c.if-value-gt-MOST_CHANGE.true) in
    sym (ap sgn (value_by_floor h p)
    ∙ sgn_pos (far_in_front (floor_value h p) p.w (rest_value h p) most_change p.valid.positive (rest_size h p c.requires) l))

pub returns-then-value : goal.returns-then-value
returns-then-value c =
    let h = c.args.plane.now in let p = c.args.p.now in let f = c.floor_value-value.ensures in
    let k = exact (f.small & done) (kept 0) tt in
    let l : floor_value h p <ℤ neg_ℤ (pos most_change) = omega (arith, ints, k, f.value, c.if-value.true) in
    sym (ap sgn (value_by_floor h p)
    ∙ sgn_neg (far_behind (floor_value h p) p.w (rest_value h p) most_change p.valid.positive (rest_size h p c.requires) l))

pub returns-else-value : goal.returns-else-value
returns-else-value c =
    let h = c.args.plane.now in let p = c.args.p.now in let f = c.floor_value-value.ensures in let v = c.floor_value-value.result in
    let k = exact (f.small & done) (kept 0) tt in
    let small : Small most_change v = record { small = omega (arith, ints, k, c.if-value-gt-MOST_CHANGE.false, c.if-value.false) } in
    let e = exact (small & done) (stored w64 (kept 0)) tt ∙ f.value in
    c.exact_side.ensures ∙ ap sgn ((λ n. e n *ℤ p.w +ℤ rest_value h p) ∙ sym (value_by_floor h p))
