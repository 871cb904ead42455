use Rattle.std.proofs.Common.{◌≡◌, sym, ap, ◌∙◌}
use Rattle.ember_algebra.specs.declared.Sign.{Sign}
use Rattle.ember_algebra.specs.Sign.{sgn}
use Rattle.ember_ref.specs.References.{vector_of_list, reference_of_list, or_sign}
use Rattle.ember_ref.proofs.ReferenceSigns.{sign_beside, sign_beside_is, level_from}
use Rattle.ember_ref.proofs.signs.side_beside.Goals as goal
use Rattle.ember_ref.proofs.signs.side_beside.Goals.{After-or_lead}

decided : (c : After-or_lead) → c.or_lead.result ≡ sign_beside c.args.p.now (vector_of_list c.args.lo)
decided c =
    let p = c.args.p.now in
    c.or_lead.ensures ∙ ap (λ (s : Sign). or_sign s (or_sign (sgn p.a) (or_sign (sgn p.b) (sgn p.c)))) c.side_of_corner.ensures

pub returns-clause-value : goal.returns-clause-value
unfolding reference_of_list
returns-clause-value c = λ m f s l. decided c ∙ sym (sign_beside_is f c.args.p.now (vector_of_list c.args.lo) s l)

pub returns-clause-normal : goal.returns-clause-normal
returns-clause-normal c = λ e. level_from c.args.p.now (vector_of_list c.args.lo) (sym (decided c) ∙ e)
