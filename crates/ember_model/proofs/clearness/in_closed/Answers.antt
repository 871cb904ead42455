use Rattle.std.proofs.Common.{◌≡◌, sym, ◌∙◌, true, ◌&&◌, List, pos, arith}
use mir.Syntax.{w128}
use Rattle.ember_algebra.specs.Sign.{is_zero}
use Rattle.ember_algebra.proofs.Laws.{linear}
use Rattle.ember_algebra.proofs.Ring.{◌⊕◌, ◌⊗◌, ◌≈◌, num, solve, cancels}
use Rattle.ember_algebra.proofs.Exact.{input, stored, ◌&◌, done, exact}
use Rattle.ember_model.specs.declared.plane.Plane.{Plane}
use Rattle.ember_model.specs.declared.point.Spot.{Spot}
use Rattle.ember_model.specs.declared.point.Axis.TheVariants.{X}
use Rattle.ember_model.specs.Planes.{value_at, along}
use Rattle.ember_model.specs.Points.{scaled, moved}
use Rattle.ember_model.specs.ClearTest.{none_positive}
use Rattle.ember_model.proofs.SignTests.{positive_in}
use Rattle.ember_model.proofs.Hits.{same_none_positive, value_ray}
use Rattle.ember_model.proofs.clearness.in_closed.Goals as goal

-- a point is a place on its own ray
here : (p : Spot) (es : List Plane) → none_positive es (moved (scaled (pos 1) p) X (pos 0)) ≡ none_positive es p
here p es =
    same_none_positive (pos 1) p (moved (scaled (pos 1) p) X (pos 0)) es (omega (arith, linear))
    (λ g. value_ray g X p (pos 1) (pos 0) ∙ solve 2 (λ v k. num (pos 1) ⊗ v ⊕ num (pos 0) ⊗ k ≈ num (pos 1) ⊗ v)
    cancels (value_at g p) (along g X))

pub returns-then-is_on : goal.returns-then-is_on
returns-then-is_on c =
    let n = c.args.support.now in let p = c.args.p.now in let es = c.args.edges.now in
    let v = exact (c.plane_value.ensures.small & done) (stored w128 (input 0)) tt ∙ c.plane_value.ensures.value in
    let z : is_zero (value_at n p) ≡ true = (λ i. is_zero (sym v i)) ∙ sym c.is_on.ensures ∙ c.if-is_on.true in
    let w = positive_in c.requires.spot.weight in
    c.none_positive.ensures ∙ here p es ∙ sym (λ i. w i && (z i && none_positive es p))
