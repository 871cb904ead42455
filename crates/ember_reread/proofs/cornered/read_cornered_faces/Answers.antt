use Rattle.std.proofs.Common.{inl, inr, ⊎_elim}
use Rattle.std.proofs.lemmas.Result.{IfOk-weaker, IfErr-weaker}
use Rattle.ember_reread.proofs.BodyTexts.{no_file}
use Rattle.ember_reread.proofs.CorneredTexts.{cornered_file, cornered_valid}
use Rattle.ember_reread.proofs.cornered.read_cornered_faces.Goals as goal

pub returns-in-Some-clause-faces : goal.returns-in-Some-clause-faces
returns-in-Some-clause-faces c =
    IfOk-weaker c.cornered_faces_in.result _ _ (λ fs h. cornered_file fs.items c.in-Some.ensures h) c.cornered_faces_in.ensures.ok

pub returns-in-Some-clause-form : goal.returns-in-Some-clause-form
returns-in-Some-clause-form c =
    IfErr-weaker c.cornered_faces_in.result _ _ (λ e h. ⊎_elim (λ a. inl a) (λ f. inr (no_file c.in-Some.ensures f)) h) c.cornered_faces_in.ensures.form

pub returns-in-Some-clause-valid : goal.returns-in-Some-clause-valid
returns-in-Some-clause-valid c =
    IfOk-weaker c.cornered_faces_in.result _ _ (λ fs h. cornered_valid fs.items h) c.cornered_faces_in.ensures.ok
