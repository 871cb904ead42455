use Rattle.std.proofs.Common.{◌≡◌, ◌∙◌, sym, ap, subst, ℤ, pos}
use Rattle.std.proofs.lemmas.Bool.{eq-eqb}
use mir.Syntax.{w128}
use mir.Val.{to_z, of_z}
use Rattle.ember_algebra.specs.Size.{Small}
use Rattle.ember_algebra.proofs.Exact.{kept, ◌&◌, done, exact}
use Rattle.ember_model.specs.FaceFiles.{IsLowest}
use Rattle.ember_point.specs.Points.{spot_of}
use Rattle.ember_reread.proofs.Lowest.{same_lowest, whole_lowest, spots_are_equal}
use Rattle.ember_reread.proofs.parts.is_lowest.Goals as goal

is_one : {w : ℤ} → Small 302231454903657293676543 w → of_z w128 w ≡ 1 → w ≡ pos 1
is_one s e = sym (exact (s & done) (kept 0) tt) ∙ ap (λ n. to_z w128 n) e

pub returns-then-corner-eq1 : goal.returns-then-corner-eq1
returns-then-corner-eq1 c =
    let v = c.args.corner.now in
    (λ _. whole_lowest (spot_of v) (is_one v.valid.w c.if-corner-eq1.true), λ _. eq-eqb _ 1 c.if-corner-eq1.true)

pub returns-else-corner-eq1 : goal.returns-else-corner-eq1
returns-else-corner-eq1 c =
    let v = c.args.corner.now in let r = c.reduce.result in
    let d = spots_are_equal (spot_of r) (spot_of v) in (
      λ t. subst (λ s. IsLowest s) (d.0 (sym c.eq.ensures ∙ t)) c.reduce.ensures.lowest,
      λ l. c.eq.ensures ∙ d.1 (sym (same_lowest (spot_of v) (spot_of r) v.valid.weight r.valid.weight
          c.reduce.ensures.same l c.reduce.ensures.lowest)),
    )
