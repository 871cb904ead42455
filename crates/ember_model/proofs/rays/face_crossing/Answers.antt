use Rattle.std.proofs.Common.{◌≡◌, ap, sym, ◌∙◌, ◌*ℤ◌, true, false}
use mir.Syntax.{w32, w64, w128}
use Rattle.ember_algebra.specs.Sign.{sign, is_negative}
use Rattle.ember_algebra.proofs.Exact.{input, stored, ◌&◌, done, exact}
use Rattle.ember_model.specs.Planes.{value_at, along}
use Rattle.ember_model.specs.Faces.{hit}
use Rattle.ember_model.specs.ClearTest.{all_negative}
use Rattle.ember_model.proofs.Hits.{crossing_on, crossing_off}
use Rattle.ember_model.proofs.RayPoints.{ray_point_is_hit}
use Rattle.ember_model.proofs.rays.face_crossing.Goals as goal
use Rattle.ember_model.proofs.rays.face_crossing.Goals.{else-meets-via-then-meets+else-all_negative, else-meets-via-else-meets}

pub returns-then-all_negative-clause-value : goal.returns-then-all_negative-clause-value
returns-then-all_negative-clause-value c =
    let f = c.args.f.now in let p = c.args.p.now in let a = c.args.a in
    let s = exact (c.plane_value-front.ensures.small & done) (stored w128 (input 0)) tt ∙ c.plane_value-front.ensures.value in
    let k = exact (c.component-slope.ensures.small & done) (stored w64 (input 0)) tt ∙ c.component-slope.ensures.value in
    let m : is_negative (value_at f.support p *ℤ along f.support a) ≡ true = (λ i. is_negative (sym s i *ℤ sym k i)) ∙ sym c.meets.ensures ∙ c.if-meets.true in
    let q = ray_point_is_hit f.support a p _ _ c.hit_on_ray.result s k c.hit_on_ray.ensures.value in
    let e = c.items.ensures in
    let h : all_negative f.edges (hit f.support a p) ≡ true = (λ i. all_negative (sym e i) (sym q i)) ∙ sym c.all_negative.ensures ∙ c.if-all_negative.true in
    exact (c.sign_number.ensures.small & done) (stored w32 (stored w64 (input 0))) tt ∙ c.sign_number.ensures.value
    ∙ ap sign k ∙ sym (crossing_on f a p true c.requires.spot.weight m h)

pub returns-else-meets-clause-value : goal.returns-else-meets-clause-value
returns-else-meets-clause-value c =
    let f = c.args.f.now in let p = c.args.p.now in let a = c.args.a in
    let s = exact (c.plane_value-front.ensures.small & done) (stored w128 (input 0)) tt ∙ c.plane_value-front.ensures.value in
    let k = exact (c.component-slope.ensures.small & done) (stored w64 (input 0)) tt ∙ c.component-slope.ensures.value in
    let m : is_negative (value_at f.support p *ℤ along f.support a) ≡ c.meets.result = (λ i. is_negative (sym s i *ℤ sym k i)) ∙ sym c.meets.ensures in
    elim c.else-meets.branch [
      | else-meets-via-then-meets+else-all_negative w ↦
          let q = ray_point_is_hit f.support a p _ _ w.hit_on_ray.result s k w.hit_on_ray.ensures.value in
          let e = w.items.ensures in
          let h : all_negative f.edges (hit f.support a p) ≡ false =
          (λ i. all_negative (sym e i) (sym q i)) ∙ sym w.all_negative.ensures ∙ w.if-all_negative.false in
          sym (crossing_on f a p false c.requires.spot.weight (m ∙ w.if-meets.true) h)
      | else-meets-via-else-meets w ↦ sym (crossing_off f a p (m ∙ w.if-meets.false))
    ]
