use Rattle.std.proofs.Common.{ℕ, List, refl, subst}
use Rattle.ember_verdict.specs.Outputs.{Lattice}
use Rattle.ember_verdict.specs.Statuses.{IsText}
use Rattle.ember_io.specs.Calls.{shelf_call}
use Rattle.ember_verdict.specs.Held.{MayHold}
use Rattle.ember_verdict.specs.NoReplies.{IsNoReply}
use Rattle.ember_verdict.specs.Verdict.{Writes, after_expr, voxels_verdict}
use Rattle.ember_verdict.proofs.SceneVerdicts.{SceneRead, lattice_sampled}
use Rattle.ember_verdict.proofs.HeldContents.{held_then}
use Rattle.ember_verdict.proofs.NoReplies.{scene_is_no_reply, expression_is_no_reply}
use Rattle.ember_run.proofs.voxels.voxels_output.Goals as goal

pub returns-in-Err-clause-no_reply : goal.returns-in-Err-clause-no_reply
returns-in-Err-clause-no_reply g c =
    let a = c.args in
    let shelf = shelf_call g.S.Shelf.contents g.S.Shelf.faults g.S.Shelf.fault_at g.S.Shelf.fault_kind a.shelf.now a.shelf.now in
    subst (λ (names : List (List ℕ)). IsNoReply (voxels_verdict a.expr.now a.size a.places) names shelf c.in-Err.status) c.items-files.ensures
    (expression_is_no_reply (after_expr a.expr.now) (λ m formula tris. Writes (Lattice tris formula a.size)) a.places _
    c.items-files.result.now shelf c.in-Err.status refl c.in-Err.ensures.no_reply)

pub returns-in-Err-read_scene-clause-no_reply : goal.returns-in-Err-read_scene-clause-no_reply
returns-in-Err-read_scene-clause-no_reply g c =
    let a = c.args in
    let shelf = shelf_call g.S.Shelf.contents g.S.Shelf.faults g.S.Shelf.fault_at g.S.Shelf.fault_kind a.shelf.now c.read_scene.new.shelf in
    subst (λ (names : List (List ℕ)). IsNoReply (voxels_verdict a.expr.now a.size a.places) names shelf c.in-Err-read_scene.status) c.items-files.ensures
    (scene_is_no_reply (after_expr a.expr.now) (λ m formula tris. Writes (Lattice tris formula a.size)) a.places _
    c.items-files.result.now shelf c.in-Err-read_scene.status _ refl c.in-Ok.ensures.expr
    c.in-Err-read_scene.ensures.no_reply)

pub returns-clause-text : goal.returns-clause-text
returns-clause-text g c =
    let a = c.args in let told = g.S.Shelf.contents a.shelf.now in let names = c.items-files.result.now in let scene = c.in-Ok-read_scene.scene in
    subst (λ (names : List (List ℕ)). MayHold told names
    (λ contents. IsText (voxels_verdict a.expr.now a.size a.places contents)
    c.in_ok-text_of_voxels.field-0.items)) c.items-files.ensures
    (held_then told names (λ contents. SceneRead a.places contents scene.tris)
    (λ contents. IsText (voxels_verdict a.expr.now a.size a.places contents)
    c.in_ok-text_of_voxels.field-0.items)
    (λ contents l read. lattice_sampled a.expr.now a.size a.places _ contents _ _ _ l c.in-Ok.ensures.expr read
    c.in_ok-text_of_voxels.ensures) c.in-Ok-read_scene.ensures.read)
