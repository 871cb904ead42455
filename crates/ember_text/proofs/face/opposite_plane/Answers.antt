use Rattle.std.proofs.Common.{pos, ◌∙◌, arith, sym, subst, ◌≡◌, ℤ, ◌-ℤ◌, neg_ℤ}
use mir.Syntax.{w64}
use Rattle.ember_algebra.proofs.Exact.{Code, number, narrow, stored, ◌⊟◌, ◌&◌, done, exact}
use Rattle.ember_algebra.proofs.Laws.{linear}
use Rattle.ember_model.specs.Valid.{IsValidPlane}
use Rattle.ember_model.proofs.Tuples.{same_plane}
use Rattle.ember_width.specs.Laws.{narrow_opposite}
use Rattle.ember_text.proofs.face.opposite_plane.Goals as goal

minus : (a : ℤ) → pos 0 -ℤ a ≡ neg_ℤ a
minus a = omega (arith, linear)

abbrev code : Code
code = stored w64 (number (pos 0) ⊟ narrow 0)

pub returns-clause-value : goal.returns-clause-value
returns-clause-value c =
    let p = c.requires in
    same_plane (exact (p.a & done) code tt ∙ minus c.args.p.now.a) (exact (p.b & done) code tt ∙ minus c.args.p.now.b)
    (exact (p.c & done) code tt ∙ minus c.args.p.now.c) (exact (p.d & done) code tt ∙ minus c.args.p.now.d)

pub returns-clause-valid : goal.returns-clause-valid
unfolding returns-clause-value
returns-clause-valid c = λ v. subst IsValidPlane (sym (returns-clause-value c)) (narrow_opposite c.args.p.now v)
