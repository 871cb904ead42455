use Rattle.std.proofs.Common.{inl, inr, ⊎_elim}
use Rattle.std.proofs.lemmas.Result.{IfOk-weaker, IfErr-weaker}
use Rattle.ember_reread.proofs.BodyTexts.{file_found, no_file, body_fits, body_valid}
use Rattle.ember_reread.proofs.faces.read_faces.Goals as goal

pub returns-in-Some-clause-faces : goal.returns-in-Some-clause-faces
returns-in-Some-clause-faces c =
    IfOk-weaker c.faces_in.result _ _ (λ fs h. file_found c.in-Some.ensures h) c.faces_in.ensures.ok

pub returns-in-Some-clause-form : goal.returns-in-Some-clause-form
returns-in-Some-clause-form c =
    IfErr-weaker c.faces_in.result _ _ (λ e h. ⊎_elim (λ a. inl a) (λ f. inr (no_file c.in-Some.ensures f)) h) c.faces_in.ensures.form

pub returns-in-Some-clause-valid : goal.returns-in-Some-clause-valid
returns-in-Some-clause-valid c = IfOk-weaker c.faces_in.result _ _ (λ fs h. body_valid h) c.faces_in.ensures.ok

pub returns-in-Some-clause-few : goal.returns-in-Some-clause-few
returns-in-Some-clause-few c =
    IfOk-weaker c.faces_in.result _ _ (λ fs h. body_fits c.in-Some.ensures h) c.faces_in.ensures.ok
