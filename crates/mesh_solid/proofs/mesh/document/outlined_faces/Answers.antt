use Rattle.std.proofs.Common.{sym, subst}
use Rattle.mesh_solid.specs.Mesh.Faults.{IsDocumentFault}
use Rattle.mesh_solid.proofs.Outlined.{faces_more, round_more, first_fault_is}
use Rattle.mesh_solid.proofs.mesh.document.outlined_faces.Goals as goal

pub returns-in-Err-clause-fault : goal.returns-in-Err-clause-fault
returns-in-Err-clause-fault c = λ bytes file.
    let x = c.index-written-number in
    subst (IsDocumentFault bytes) (sym c.face_fault.ensures)
    (first_fault_is c.args.written.now c.loop-number.number c.loop-number-test.true x.result x.is bytes file
    c.loop-number.invariant.round c.in-Err.fault c.in-Err.ensures.fault)

pub loop-number-preserved : goal.loop-number-preserved
loop-number-preserved c =
    let x = c.index-written-number in
    let i = c.loop-number.number in
    record {
      faces = faces_more c.args.written.now i c.loop-number-test.true x.result x.is _ _ _ c.loop-number.invariant.faces
          c.in_ok-push-in-Ok.ensures.items c.in_ok-face-in-Ok.ensures;
      round = round_more c.args.written.now i c.loop-number-test.true x.result x.is c.loop-number.invariant.round c.in-Ok.ensures.round;
    }
