use Rattle.std.proofs.Common.{sym, ap, subst, ◌∙◌}
use Rattle.ember_balance.specs.Loose.{loose_of}
use Rattle.ember_mesh.specs.Faults.{IsMeshFault}
use Rattle.ember_mesh.specs.declared.fault.MeshFault.{MeshFault}
use Rattle.ember_io.specs.Calls.{shelf_call}
use Rattle.ember_verdict.specs.NoReplies.{IsNoFile}
use Rattle.ember_verdict.specs.Verdict.{after_mesh}
use Rattle.ember_verdict.proofs.NoFiles.{file_is_no_mesh, loose_is_no_file}
use Rattle.ember_verdict.proofs.Verdicts.{passed_on}
use Rattle.ember_verdict.proofs.scene.read_mesh.Goals as goal

pub returns-in_err-soup-clause-no_file : goal.returns-in_err-soup-clause-no_file
returns-in_err-soup-clause-no_file g c =
    let a = c.args in
    let shelf = shelf_call g.S.Shelf.contents g.S.Shelf.faults g.S.Shelf.fault_at g.S.Shelf.fault_kind a.shelf.now c.read_file.new.shelf in
    passed_on (IsNoFile (after_mesh a.places a.number) a.number a.name.now shelf) _ _ c.from_residual.ensures.1
    (file_is_no_mesh a.places a.number a.name.now shelf _ c.in_err-soup.ensures.no_file)

pub returns-in-Err-default-Unbalanced-clause-no_file : goal.returns-in-Err-default-Unbalanced-clause-no_file
returns-in-Err-default-Unbalanced-clause-no_file g c =
    let a = c.args in let e = c.in-Err-default-Unbalanced in
    let shelf = shelf_call g.S.Shelf.contents g.S.Shelf.faults g.S.Shelf.fault_at g.S.Shelf.fault_kind a.shelf.now c.read_file.new.shelf in
    loose_is_no_file a.places a.number a.name.now shelf _ _ c.in_ok-soup.ensures.read
    (ap loose_of (sym c.check.ensures.tris)
    ∙ subst (λ (fault : MeshFault). IsMeshFault c.check.result.tris fault) e.field-0-1-is e.ensures.fault)
