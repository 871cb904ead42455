use Rattle.mesh_outside.specs.Target.Several.{names_and_bytes}
use Rattle.mesh_outside.proofs.SeveralFiles.{PutsBefore-after_same, PutsEach-after_same}
use Rattle.mesh_run.specs.Calls.{target_call}
use Rattle.mesh_run.proofs.UnmetRequests.{unwritten_status_stops}
use Rattle.mesh_run.proofs.writing.write_files.Goals as goal

pub returns-in-Ok-clause-written : goal.returns-in-Ok-clause-written
returns-in-Ok-clause-written g c =
    PutsEach-after_same (names_and_bytes c.args.files.now) _ (g.T.Target.held c.make_folder.new.target) _ c.make_folder.ensures.held c.in-Ok.ensures.each

pub returns-in-Err-clause-stop : goal.returns-in-Err-clause-stop
returns-in-Err-clause-stop g c =
    let files = names_and_bytes c.args.files.now in
    let target = target_call g.T.Target.held g.T.Target.begun g.T.Target.faults c.args.target.now c.write_each.new.target in
    let file = c.in-Err.file in
    let before = PutsBefore-after_same files file.name.now file.why _ (g.T.Target.held c.make_folder.new.target) _ _
    (g.T.Target.faults c.make_folder.new.target) _ c.make_folder.ensures.held c.make_folder.ensures.later
    c.in-Err.ensures.some in
    unwritten_status_stops files target file.name.now file.why c.unwritten_status.result before c.unwritten_status.ensures
