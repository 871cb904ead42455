use Rattle.std.proofs.Common.{ℕ, List, [], ◌∷◌, subst}
use Rattle.ember_io.specs.Calls.{shelf_call}
use Rattle.ember_model.specs.declared.tri.Tri.{Tri}
use Rattle.ember_verdict.specs.FaceTexts.{IsFaceFileOf}
use Rattle.ember_verdict.specs.Held.{MayHold}
use Rattle.ember_verdict.specs.NoReplies.{IsNoReply}
use Rattle.ember_verdict.specs.Statuses.{IsText}
use Rattle.ember_verdict.specs.Verdict.{faces_verdict, file_at}
use Rattle.ember_verdict.proofs.OneFile.{face_file_is_no_reply, faces_held}
use Rattle.ember_verdict.proofs.Verdicts.{passed_on}
use Rattle.ember_verdict.proofs.faces.faces_output.Goals as goal

pub returns-in_err-soup-clause-no_reply : goal.returns-in_err-soup-clause-no_reply
returns-in_err-soup-clause-no_reply g c =
    let a = c.args in
    let shelf = shelf_call g.S.Shelf.contents g.S.Shelf.faults g.S.Shelf.fault_at g.S.Shelf.fault_kind a.shelf.now c.read_file.new.shelf in
    passed_on (IsNoReply (λ contents. faces_verdict a.places (file_at contents 1)) (a.file.now ∷ []) shelf) _ _ c.from_residual.ensures.1
    (subst (λ (name : List ℕ). IsNoReply (λ contents. faces_verdict a.places (file_at contents 1)) (name ∷ []) shelf c.in_err-soup.field-0.0) c.as_str.ensures
    (face_file_is_no_reply a.places _ shelf c.in_err-soup.field-0.0 c.in_err-soup.ensures.no_file))

pub returns-clause-text : goal.returns-clause-text
returns-clause-text g c =
    let a = c.args in let told = g.S.Shelf.contents a.shelf.now in let text = c.in_ok-faces_text.field-0.items in
    subst (λ (name : List ℕ). MayHold told (name ∷ []) (λ contents. IsText (faces_verdict a.places (file_at contents 1)) text)) c.as_str.ensures
    (faces_held told _ a.places _ text c.in_ok-soup.ensures.read
    (subst (λ (tris : List Tri). IsFaceFileOf tris text) c.items.ensures c.in_ok-faces_text.ensures))
