use Rattle.std.proofs.Common.{◌≡◌, ap, sym, ◌∙◌, true, false, ◌&&◌}
use Rattle.ember_algebra.specs.Sign.{is_zero}
use Rattle.ember_model.specs.declared.plane.Plane.{Plane}
use Rattle.ember_model.specs.Faces.{is_flat, face_of}
use Rattle.ember_model.specs.ClearTest.{is_clear, face_with}
use Rattle.ember_model.specs.Limits.{narrow_limit}
use Rattle.ember_model.proofs.PlaneSizes.{edges_valid, edges_sized_within}
use Rattle.ember_model.proofs.SignTests.{clash}
use Rattle.ember_model.proofs.ClearPoints.{clear_from, clear_to}
use Rattle.ember_model.proofs.clearness.clear.Goals as goal

pub returns-then-has_no_normal : goal.returns-then-has_no_normal
unfolding is_flat
returns-then-has_no_normal c =
    let n = c.support_of-support.ensures.value in
    let flat : is_flat c.args.t.now ≡ true = ap (λ (n : Plane). is_zero n.a && (is_zero n.b && is_zero n.c)) (sym n)
    ∙ sym c.has_no_normal.ensures ∙ c.if-has_no_normal.true in
    (λ t q. absurd (clash flat q), λ q. c.if-has_no_normal.true)

pub returns-else-has_no_normal : goal.returns-else-has_no_normal
unfolding is_flat face_of
returns-else-has_no_normal c =
    let t = c.args.t.now in let p = c.args.p.now in let w = c.requires.spot.weight in
    let n = c.support_of-support.ensures.value in let es = c.main_edges.ensures.value in
    let full : is_flat t ≡ false = ap (λ (n : Plane). is_zero n.a && (is_zero n.b && is_zero n.c)) (sym n)
    ∙ sym c.has_no_normal.ensures ∙ c.if-has_no_normal.false in
    let e : c.clear_of.result ≡ is_clear (face_of t) p = c.clear_of.ensures ∙ (λ i. is_clear (face_with (n i) (es i)) p) in
    (λ q d. clear_from (face_of t) p w (sym e ∙ q), λ q. e ∙ clear_to (face_of t) p w (q full))

pub clear_of-requires-clause-edges : goal.clear_of-requires-clause-edges
clear_of-requires-clause-edges c =
    edges_valid _ (edges_sized_within _ (c.main_edges.ensures.within narrow_limit c.requires.tri))
