use Rattle.std.proofs.Common.{ℕ, List, subst}
use Rattle.ember_io.specs.Calls.{shelf_call}
use Rattle.ember_verdict.specs.Held.{MayHold}
use Rattle.ember_verdict.specs.Outputs.{MeetingPairs}
use Rattle.ember_verdict.specs.NoReplies.{IsNoReply}
use Rattle.ember_verdict.specs.Statuses.{IsText}
use Rattle.ember_verdict.specs.Verdict.{Writes, pairs_verdict}
use Rattle.ember_verdict.proofs.HeldContents.{held_then}
use Rattle.ember_verdict.proofs.SceneVerdicts.{SceneRead, pairs_listed}
use Rattle.ember_run.proofs.pairs.pairs_output.Goals as goal

pub returns-in-Err-clause-no_reply : goal.returns-in-Err-clause-no_reply
returns-in-Err-clause-no_reply g c =
    let a = c.args in
    let shelf = shelf_call g.S.Shelf.contents g.S.Shelf.faults g.S.Shelf.fault_at g.S.Shelf.fault_kind a.shelf.now c.read_scene.new.shelf in
    subst (λ (names : List (List ℕ)). IsNoReply (pairs_verdict a.places) names shelf c.in-Err.status) c.items.ensures
    (c.in-Err.ensures.no_reply (λ tris. Writes (MeetingPairs tris)))

pub returns-clause-text : goal.returns-clause-text
returns-clause-text g c =
    let a = c.args in let told = g.S.Shelf.contents a.shelf.now in let names = c.items.result.now in let scene = c.in-Ok.scene in
    subst (λ (names : List (List ℕ)). MayHold told names
    (λ contents. IsText (pairs_verdict a.places contents) c.in_ok-text_of_pairs.field-0.items)) c.items.ensures
    (held_then told names (λ contents. SceneRead a.places contents scene.tris)
    (λ contents. IsText (pairs_verdict a.places contents) c.in_ok-text_of_pairs.field-0.items)
    (λ contents l read. pairs_listed a.places contents scene.tris _ read c.in_ok-text_of_pairs.ensures) c.in-Ok.ensures.read)
