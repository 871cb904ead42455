use Rattle.std.proofs.Common.{◌≡◌, ◌∙◌, ap, arith, length, inl, inr, ⊎_elim}
use Rattle.std.proofs.lemmas.Result.{err_from_is_err_and}
use Rattle.ember_model.specs.FaceFiles.{ending}
use Rattle.ember_reread.proofs.BodyTexts.{not_an_end, no_face_here, no_body}
use Rattle.ember_reread.proofs.CorneredTexts.{no_cornered_faces, push_cornered_face, cornered_are_faces, as_many_cornered, cornered_body}
use Rattle.ember_reread.proofs.FaceTexts.{face_shorter}
use Rattle.ember_reread.proofs.cornered.cornered_faces_in.Goals as goal

pub loop-alloc-init : goal.loop-alloc-init
loop-alloc-init c = no_cornered_faces c.args.bytes.now c.new-faces.ensures.items

pub returns-in_err-face-clause-form : goal.returns-in_err-face-clause-form
returns-in_err-face-clause-form c =
    let t = c.begins_face.ensures.0 c.loop-alloc-test.true in
    let p = err_from_is_err_and c.from_residual.result c.from_residual.ensures.1 in
    let fs = c.loop-alloc.faces.items in
    rw p.1 (⊎_elim (λ a. inl (p.2 ∙ a)) (λ f. inr
    (no_body (omega arith) (cornered_are_faces fs c.loop-alloc.invariant) f (not_an_end _ t.1)))
    c.in_err-face.ensures.form)

pub loop-alloc-preserved : goal.loop-alloc-preserved
loop-alloc-preserved c = push_cornered_face c.in_ok-face.face c.loop-alloc.faces.items c.loop-alloc.invariant c.in_ok-face.ensures.ok c.in_ok-push.ensures.items

pub loop-alloc-smaller : goal.loop-alloc-smaller
loop-alloc-smaller c = face_shorter c.in_ok-face.ensures.ok

pub returns-then-is_ending-clause-ok : goal.returns-then-is_ending-clause-ok
returns-then-is_ending-clause-ok c =
    cornered_body c.loop-alloc.faces.items c.loop-alloc.invariant (c.is_ending.ensures.0 c.if-is_ending.true) (omega arith)

pub returns-else-is_ending-clause-form : goal.returns-else-is_ending-clause-form
returns-else-is_ending-clause-form c =
    let fs = c.loop-alloc.faces.items in
    inr (no_body (omega arith) (cornered_are_faces fs c.loop-alloc.invariant)
    (no_face_here (λ t. let b = c.begins_face.ensures.1 t in let n = c.loop-alloc-test.false in cc)) (λ e.
    let same : length fs ≡ c.len.result = omega arith in
    let b = c.is_ending.ensures.1 (e ∙ ap ending (as_many_cornered fs ∙ same)) in let n = c.if-is_ending.false in cc))
