use Rattle.std.proofs.Common.{sym, ap, subst, ◌∙◌, ◌&&◌, ℤ, pos, ◌-ℤ◌, ◌<ℤ◌}
use mir.Syntax.{w64, w128}
use Rattle.ember_algebra.proofs.Ring.{◌⊖◌, ◌≈◌, num, neg, solve, cancels}
use Rattle.ember_algebra.proofs.Exact.{input, number, stored, ◌⊟◌, ◌&◌, done, exact}
use Rattle.ember_model.specs.Planes.{along}
use Rattle.ember_model.specs.Points.{scaled, moved}
use Rattle.ember_model.specs.ClearTest.{entry_point, none_positive}
use Rattle.ember_model.proofs.SignTests.{less_out, negative_in, positive_in}
use Rattle.ember_model.proofs.clearness.is_entry.Goals as goal

pub returns-then-offset-gt0 : goal.returns-then-offset-gt0
returns-then-offset-gt0 c =
    let h = c.args.edge.now in let p = c.args.p.now in let a = c.args.a in let es = c.args.edges.now in
    let k = exact (c.component-slope.ensures.small & done) (stored w64 (input 0)) tt ∙ c.component-slope.ensures.value in
    let v = exact (c.plane_value-offset.ensures.small & done) (stored w128 (input 0)) tt ∙ c.plane_value-offset.ensures.value in
    let n = negative_in (subst (λ (z : ℤ). z <ℤ pos 0) k (less_out _ _ c.if-slope-lt0.true)) in
    let u = positive_in (subst (λ (z : ℤ). pos 0 <ℤ z) v (less_out _ _ c.if-offset-gt0.true)) in
    let m = exact (c.component-slope.ensures.small & done) (stored w64 (number (pos 0) ⊟ stored w64 (input 0))) tt
    ∙ ap (λ (z : ℤ). pos 0 -ℤ z) c.component-slope.ensures.value
    ∙ solve 1 (λ k. num (pos 0) ⊖ k ≈ neg k) cancels (along h a) in
    c.none_positive.ensures ∙ (λ i. none_positive es (moved (scaled (m i) p) a (v i))) ∙ sym (λ i. n i && (u i && none_positive es (entry_point h a p)))
