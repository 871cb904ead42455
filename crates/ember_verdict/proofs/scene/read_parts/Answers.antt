use Rattle.std.proofs.Common.{arith, ◌≡◌, IfErr, refl, rules, ◌∙◌}
use Rattle.ember_verdict.specs.declared.status.Status.TheVariants.{OutOfMemory}
use Rattle.ember_io.specs.Calls.{shelf_call}
use Rattle.ember_verdict.specs.Verdict.{after_mesh}
use Rattle.ember_verdict.proofs.NoFiles.{no_file_since}
use Rattle.ember_verdict.proofs.NoReplies.{memory_is_no_scene}
use Rattle.ember_verdict.proofs.SceneFiles.{more_held_parts, part_is_no_scene}
use Rattle.ember_verdict.proofs.scene.read_parts.Goals as goal

pub returns-in-Err-clause-no_reply : goal.returns-in-Err-clause-no_reply
returns-in-Err-clause-no_reply g c =
    let a = c.args in let l = c.loop-file.invariant in let name = c.as_str.result.now in
    let late = shelf_call g.S.Shelf.contents g.S.Shelf.faults g.S.Shelf.fault_at g.S.Shelf.fault_kind c.loop-file.shelf c.read_mesh.new.shelf in
    let all = shelf_call g.S.Shelf.contents g.S.Shelf.faults g.S.Shelf.fault_at g.S.Shelf.fault_kind a.shelf.now c.read_mesh.new.shelf in
    part_is_no_scene a.places _ _ c.loop-file.number _ name _ all c.in-Err.status c.loop-file-test.true l.parts l.number
    (c.as_str.ensures ∙ c.file-item.is)
    (no_file_since (after_mesh a.places c.loop-file.number) c.loop-file.number name name late all c.in-Err.status
    l.contents l.later refl refl refl c.in-Err.ensures.no_file)

pub returns-in_err-push-clause-no_reply : goal.returns-in_err-push-clause-no_reply
returns-in_err-push-clause-no_reply g c =
    let short : IfErr c.from_residual.result (λ status. status ≡ OutOfMemory) = search rules in memory_is_no_scene _ _ _ _ short

pub loop-file-preserved : goal.loop-file-preserved
loop-file-preserved g c =
    let l = c.loop-file.invariant in
    let e = c.in-Ok.ensures in
    record {
      contents = e.contents ∙ l.contents;
      later = omega arith;
      number = omega arith;
      parts = more_held_parts _ _ _ _ _ _ _ _ _ _ _ c.loop-file-test.true l.parts l.contents l.number
          (c.as_str.ensures ∙ c.file-item.is) c.in_ok-push.ensures.items e.number e.read;
    }
