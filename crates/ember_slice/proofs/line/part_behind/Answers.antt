use Rattle.std.proofs.Common.{to_z-of_z, ◌≡◌, ◌∙◌, sym, ap, subst, pos, arith, refl, ℤ, ◌<ℤ◌, ◌≤ℤ◌}
use Rattle.ember_algebra.proofs.Laws.{linear}
use Rattle.ember_algebra.proofs.Order.{by_sign}
use Rattle.std.proofs.lemmas.Int.{ints}
use Rattle.ember_algebra.proofs.Exact.{kept, ◌&◌, done, exact}
use Rattle.ember_model.specs.Planes.{value_at}
use Rattle.ember_point.specs.Points.{spot_of, weight}
use Rattle.ember_slice.specs.Lines.{level}
use Rattle.ember_slice.proofs.Along.{OnLine, slope, parallel_slope, crossing_slope, enters_at, leaves_at}
use Rattle.ember_slice.proofs.line.part_behind.Goals as goal

pub is_behind-requires-clause-parallel : goal.is_behind-requires-clause-parallel
is_behind-requires-clause-parallel c =
    let n = c.args.support.now in
    parallel_slope n c.args.at c.args.p.now (subst (λ q. weight n q c.args.p.now ≡ pos 0)
    (c.level_plane.ensures.value ∙ ap level (to_z-of_z c.ranges.at)) (c.in-None.ensures.none.0 refl))

pub returns-then-climb-lt0 : goal.returns-then-climb-lt0
returns-then-climb-lt0 c =
    let n = c.args.support.now in let m = spot_of c.in-Some.point in let k = c.in-Some.ensures in
    let on : OnLine n c.args.at m = record {
      weight = c.in-Some.point.valid.weight;
      support = k.on_first;
      level =
          subst (λ q. value_at q m ≡ pos 0) (c.level_plane.ensures.value ∙ ap level (to_z-of_z c.ranges.at)) k.on_second;
    }
    in
    let e = exact (c.climb.ensures.small & done) (kept 0) tt in
    let s : slope n c.args.p.now <ℤ pos 0 = omega (arith, ints, e, c.climb.ensures.value, c.if-climb-lt0.true) in
    enters_at n c.args.at c.args.p.now m c.requires.tilted on k.on_third s

pub returns-else-climb-lt0 : goal.returns-else-climb-lt0
returns-else-climb-lt0 c =
    let n = c.args.support.now in let m = spot_of c.in-Some.point in let k = c.in-Some.ensures in
    let on : OnLine n c.args.at m = record {
      weight = c.in-Some.point.valid.weight;
      support = k.on_first;
      level =
          subst (λ q. value_at q m ≡ pos 0) (c.level_plane.ensures.value ∙ ap level (to_z-of_z c.ranges.at)) k.on_second;
    }
    in
    let e = exact (c.climb.ensures.small & done) (kept 0) tt in
    let crosses = crossing_slope n c.args.at c.args.p.now
    (λ z. absurd (let f = k.none.1 (subst (λ q. weight n q c.args.p.now ≡ pos 0)
    (sym (c.level_plane.ensures.value ∙ ap level (to_z-of_z c.ranges.at))) z) in cc)) in
    let s : pos 0 <ℤ slope n c.args.p.now = above (slope n c.args.p.now) crosses (omega (arith, ints, e, c.climb.ensures.value, c.if-climb-lt0.false)) in
    leaves_at n c.args.at c.args.p.now m c.requires.tilted on k.on_third s
  where
    above : (s : ℤ) → (s ≡ pos 0 → ⊥) → pos 0 ≤ℤ s → pos 0 <ℤ s
    above s f l = by_sign s (λ h. h) (λ z. absurd (f z)) (λ h. absurd (omega (arith, linear, l, h)))
