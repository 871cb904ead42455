use Rattle.std.proofs.Common.{◌≡◌, ◌∙◌, ap, arith, length, inl, inr, ⊎_elim}
use Rattle.std.proofs.lemmas.Result.{err_from_is_err_and}
use Rattle.ember_model.specs.FaceFiles.{ending}
use Rattle.ember_reread.proofs.BodyTexts.{no_faces, push_face, not_an_end, no_face_here, no_body}
use Rattle.ember_reread.proofs.faces.faces_in.Goals as goal

pub loop-alloc-init : goal.loop-alloc-init
loop-alloc-init c = no_faces c.args.bytes.now c.new-faces.ensures.items

pub returns-in_err-face-clause-form : goal.returns-in_err-face-clause-form
returns-in_err-face-clause-form c =
    let t = c.begins_face.ensures.0 c.loop-alloc-test.true in
    let p = err_from_is_err_and c.from_residual.result c.from_residual.ensures.1 in
    rw p.1 (⊎_elim (λ a. inl (p.2 ∙ a)) (λ f. inr
    (no_body (omega arith) c.loop-alloc.invariant f (not_an_end (length c.loop-alloc.faces.items) t.1)))
    c.in_err-face.ensures.form)

pub loop-alloc-preserved : goal.loop-alloc-preserved
loop-alloc-preserved c = push_face c.loop-alloc.invariant c.in_ok-face.ensures.ok c.in_ok-push.ensures.items

pub returns-else-is_ending-clause-form : goal.returns-else-is_ending-clause-form
returns-else-is_ending-clause-form c =
    inr (no_body (omega arith) c.loop-alloc.invariant (no_face_here (λ t. let b = c.begins_face.ensures.1 t in let n = c.loop-alloc-test.false in cc)) (λ e.
    let same : length c.loop-alloc.faces.items ≡ c.len.result = omega arith in
    let b = c.is_ending.ensures.1 (e ∙ ap ending same) in let n = c.if-is_ending.false in cc))
