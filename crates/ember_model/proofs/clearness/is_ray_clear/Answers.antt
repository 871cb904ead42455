use Rattle.std.proofs.Common.{◌≡◌, sym, ap, ◌∙◌, true, false, not, cond, ◌&&◌, ◌*ℤ◌}
use mir.Syntax.{w64, w128}
use Rattle.ember_algebra.specs.Sign.{is_negative, is_zero}
use Rattle.ember_algebra.proofs.Exact.{input, stored, ◌&◌, done, exact}
use Rattle.ember_model.specs.Planes.{value_at, along}
use Rattle.ember_model.specs.Faces.{hit}
use Rattle.ember_model.specs.ClearTest.{enters, none_positive, all_negative}
use Rattle.ember_model.proofs.RayPoints.{ray_point_is_hit}
use Rattle.ember_model.proofs.clearness.is_ray_clear.Goals as goal

pub returns-then-not-none_positive : goal.returns-then-not-none_positive
returns-then-not-none_positive c =
    let n = c.args.support.now in let p = c.args.p.now in let a = c.args.a in let es = c.args.edges.now in
    let s = exact (c.plane_value-front.ensures.small & done) (stored w128 (input 0)) tt ∙ c.plane_value-front.ensures.value in
    let k = exact (c.component-slope.ensures.small & done) (stored w64 (input 0)) tt ∙ c.component-slope.ensures.value in
    let l : is_zero (along n a) ≡ false = (λ i. is_zero (sym k i)) ∙ sym c.is_parallel.ensures ∙ c.if-is_parallel.false in
    let m : is_negative (value_at n p *ℤ along n a) ≡ true = (λ i. is_negative (sym s i *ℤ sym k i)) ∙ sym c.meets.ensures ∙ c.if-meets.true in
    let q = ray_point_is_hit n a p _ _ c.hit_on_ray-hit.result s k c.hit_on_ray-hit.ensures.value in
    let h : none_positive es (hit n a p) ≡ false = (λ i. none_positive es (sym q i)) ∙ sym c.none_positive.ensures ∙ c.if-not-none_positive.true in
    ap not c.if-not-none_positive.true ∙ sym (λ i. cond (l i) (cond (is_zero (value_at n p)) (not (enters es a p)) true)
    (cond (m i && h i) (all_negative es (hit n a p)) true))

pub returns-else-not-none_positive : goal.returns-else-not-none_positive
returns-else-not-none_positive c =
    let n = c.args.support.now in let p = c.args.p.now in let a = c.args.a in let es = c.args.edges.now in
    let s = exact (c.plane_value-front.ensures.small & done) (stored w128 (input 0)) tt ∙ c.plane_value-front.ensures.value in
    let k = exact (c.component-slope.ensures.small & done) (stored w64 (input 0)) tt ∙ c.component-slope.ensures.value in
    let l : is_zero (along n a) ≡ false = (λ i. is_zero (sym k i)) ∙ sym c.is_parallel.ensures ∙ c.if-is_parallel.false in
    let m : is_negative (value_at n p *ℤ along n a) ≡ true = (λ i. is_negative (sym s i *ℤ sym k i)) ∙ sym c.meets.ensures ∙ c.if-meets.true in
    let q = ray_point_is_hit n a p _ _ c.hit_on_ray-hit.result s k c.hit_on_ray-hit.ensures.value in
    let h : none_positive es (hit n a p) ≡ true = (λ i. none_positive es (sym q i)) ∙ sym c.none_positive.ensures ∙ c.if-not-none_positive.false in
    c.all_negative.ensures ∙ (λ i. all_negative es (q i))
    ∙ sym (λ i. cond (l i) (cond (is_zero (value_at n p)) (not (enters es a p)) true)
    (cond (m i && h i) (all_negative es (hit n a p)) true))
