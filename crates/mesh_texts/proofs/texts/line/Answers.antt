use Rattle.std.proofs.Common.{ℕ, sym, subst}
use Rattle.std.proofs.lemmas.Result.{IfOk-weaker}
use Rattle.std.specs.declared.alloc.Global.{Global}
use Rattle.std.specs.Prelude.{Vec}
use Rattle.mesh_texts.specs.Texts.{IsOneLine}
use Rattle.mesh_texts.proofs.OneLines.{line_is_one}
use Rattle.mesh_texts.proofs.texts.line.Goals as goal

pub returns-clause-single : goal.returns-clause-single
returns-clause-single c =
    IfOk-weaker c.line_text.result _ (λ (text : Vec ℕ Global). IsOneLine text.items)
    (λ text is. subst IsOneLine (sym is) (line_is_one c.args.why.now)) c.line_text.ensures
