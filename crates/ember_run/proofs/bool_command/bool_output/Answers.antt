use Rattle.std.proofs.Common.{ℕ, List, refl, subst}
use Rattle.ember_verdict.specs.Outputs.{SolidFaces}
use Rattle.ember_io.specs.Calls.{shelf_call}
use Rattle.ember_verdict.specs.Held.{MayHold}
use Rattle.ember_verdict.specs.NoReplies.{IsNoReply}
use Rattle.ember_verdict.specs.Verdict.{Writes, after_bounded_expr, bool_verdict}
use Rattle.ember_verdict.proofs.HeldContents.{held_then}
use Rattle.ember_verdict.proofs.SceneVerdicts.{SceneRead}
use Rattle.ember_verdict.proofs.SolidFiles.{solid_file}
use Rattle.ember_verdict.proofs.NoReplies.{scene_is_no_reply, expression_is_no_reply}
use Rattle.ember_run.specs.Serves.{IsReply}
use Rattle.ember_run.proofs.Replies.{solid_replied}
use Rattle.ember_run.proofs.bool_command.bool_output.Goals as goal

pub returns-in-Err-clause-no_reply : goal.returns-in-Err-clause-no_reply
returns-in-Err-clause-no_reply g c =
    let a = c.args in
    let shelf = shelf_call g.S.Shelf.contents g.S.Shelf.faults g.S.Shelf.fault_at g.S.Shelf.fault_kind a.shelf.now a.shelf.now in
    subst (λ (names : List (List ℕ)). IsNoReply (bool_verdict a.expr.now a.places) names shelf c.in-Err.status) c.items-files.ensures
    (expression_is_no_reply (after_bounded_expr a.expr.now) (λ m formula tris. Writes (SolidFaces tris formula))
    a.places _ c.items-files.result.now shelf c.in-Err.status refl c.in-Err.ensures.no_reply)

pub returns-in-Err-read_scene-clause-no_reply : goal.returns-in-Err-read_scene-clause-no_reply
returns-in-Err-read_scene-clause-no_reply g c =
    let a = c.args in
    let shelf = shelf_call g.S.Shelf.contents g.S.Shelf.faults g.S.Shelf.fault_at g.S.Shelf.fault_kind a.shelf.now c.read_scene.new.shelf in
    subst (λ (names : List (List ℕ)). IsNoReply (bool_verdict a.expr.now a.places) names shelf c.in-Err-read_scene.status) c.items-files.ensures
    (scene_is_no_reply (after_bounded_expr a.expr.now) (λ m formula tris. Writes (SolidFaces tris formula)) a.places _
    c.items-files.result.now shelf c.in-Err-read_scene.status _ refl c.in-Ok.ensures.expr
    c.in-Err-read_scene.ensures.no_reply)

pub returns-clause-reply : goal.returns-clause-reply
returns-clause-reply g c =
    let a = c.args in let told = g.S.Shelf.contents a.shelf.now in let names = c.items-files.result.now in
    let scene = c.in-Ok-read_scene.scene in let reply = c.in_ok-reply.reply in
    subst (λ (names : List (List ℕ)). MayHold told names
    (λ contents. IsReply a.reported (bool_verdict a.expr.now a.places contents) reply)) c.items-files.ensures
    (held_then told names (λ contents. SceneRead a.places contents scene.tris)
    (λ contents. IsReply a.reported (bool_verdict a.expr.now a.places contents) reply)
    (λ contents l read. solid_replied a.reported a.expr.now a.places _ contents _ scene.tris reply l c.in-Ok.ensures.expr read
    (solid_file a.expr.now _ _ scene _ c.in-Ok.ensures.expr c.in_ok-reply.ensures.text) c.in_ok-reply.ensures.report)
    c.in-Ok-read_scene.ensures.read)
