use Rattle.std.proofs.Common.{ℕ, List, subst, IfOk, IfErr, refl}
use Rattle.ember_verdict.specs.Statuses.{IsText}
use Rattle.ember_io.specs.Calls.{shelf_call}
use Rattle.ember_verdict.specs.Held.{MayHold}
use Rattle.ember_verdict.specs.NoReplies.{IsNoReply}
use Rattle.ember_verdict.specs.Verdict.{after_given, at_verdict, counts_verdict}
use Rattle.ember_verdict.proofs.AtVerdict.{point_is_no_reply_if, text_if}
use Rattle.ember_verdict.proofs.NoReplies.{scene_is_no_reply, expression_is_no_reply}
use Rattle.ember_verdict.proofs.at.at_output.Goals as goal

pub returns-in-Err-clause-no_reply : goal.returns-in-Err-clause-no_reply
returns-in-Err-clause-no_reply g c =
    let a = c.args in
    let shelf = shelf_call g.S.Shelf.contents g.S.Shelf.faults g.S.Shelf.fault_at g.S.Shelf.fault_kind a.shelf.now a.shelf.now in
    subst (λ (names : List (List ℕ)). IsNoReply (at_verdict a.point.now a.expr.now a.places) names shelf c.in-Err.status) c.items-files.ensures
    (expression_is_no_reply (after_given a.expr.now) (counts_verdict a.point.now) a.places _ c.items-files.result.now
    shelf c.in-Err.status refl c.in-Err.ensures.no_reply)

pub returns-in-Err-read_scene-clause-no_reply : goal.returns-in-Err-read_scene-clause-no_reply
returns-in-Err-read_scene-clause-no_reply g c =
    let a = c.args in
    let shelf = shelf_call g.S.Shelf.contents g.S.Shelf.faults g.S.Shelf.fault_at g.S.Shelf.fault_kind a.shelf.now c.read_scene.new.shelf in
    subst (λ (names : List (List ℕ)). IsNoReply (at_verdict a.point.now a.expr.now a.places) names shelf c.in-Err-read_scene.status) c.items-files.ensures
    (scene_is_no_reply (after_given a.expr.now) (counts_verdict a.point.now) a.places _ c.items-files.result.now shelf
    c.in-Err-read_scene.status _ refl c.in-Ok.ensures.expr c.in-Err-read_scene.ensures.no_reply)

pub returns-clause-text : goal.returns-clause-text
returns-clause-text g c =
    let a = c.args in let told = g.S.Shelf.contents a.shelf.now in
    subst (λ (names : List (List ℕ)). IfOk c.text_at.result
    (λ text. MayHold told names (λ contents. IsText (at_verdict a.point.now a.expr.now a.places contents)
    text.items))) c.items-files.ensures
    (text_if a.point.now a.expr.now a.places _ told c.items-files.result.now _ _ c.text_at.result refl
    c.in-Ok.ensures.expr c.in-Ok-read_scene.ensures.read c.text_at.ensures.text)

pub returns-clause-no_reply : goal.returns-clause-no_reply
returns-clause-no_reply g c =
    let a = c.args in let names = c.items-files.result.now in let e = c.text_at.ensures in
    let shelf = shelf_call g.S.Shelf.contents g.S.Shelf.faults g.S.Shelf.fault_at g.S.Shelf.fault_kind a.shelf.now c.read_scene.new.shelf in
    subst (λ (names : List (List ℕ)). IfErr c.text_at.result (IsNoReply (at_verdict a.point.now a.expr.now a.places) names shelf)) c.items-files.ensures
    (point_is_no_reply_if a.point.now a.expr.now a.places _ names shelf _ _ c.text_at.result refl c.in-Ok.ensures.expr
    c.in-Ok-read_scene.ensures.read e.refused e.kind e.no_read_fault e.never)
