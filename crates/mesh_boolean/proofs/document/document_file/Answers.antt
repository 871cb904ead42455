use Rattle.mesh_solid.proofs.Passing.{passed_on}
use Rattle.mesh_boolean.specs.DocumentFiles.{IsDocumentFileFault, of_document_fault, of_unwritten_fault}
use Rattle.mesh_boolean.proofs.DocumentRefusals.{document_fault_is, unwritten_fault_is}
use Rattle.mesh_boolean.proofs.Outputs.{planes_are_valid, written_is_closed}
use Rattle.mesh_boolean.proofs.document.document_file.Goals as goal

pub returns-in_err-mesh-clause-fault : goal.returns-in_err-mesh-clause-fault
returns-in_err-mesh-clause-fault c =
    let cause = c.in_err-mesh.field-0.0 in
    passed_on (IsDocumentFileFault c.args.bytes.now c.args.grid c.args.format) c.from_residual.result
    (of_document_fault cause) c.from_residual.ensures.1
    (document_fault_is c.args.bytes.now c.args.grid c.args.format cause c.in_err-mesh.ensures.fault)

pub written_of-requires-clause-proper : goal.written_of-requires-clause-proper
written_of-requires-clause-proper c = c.in_ok-mesh.ensures.mesh.of_document.cut.certified.proper

pub written_of-requires-clause-valid : goal.written_of-requires-clause-valid
written_of-requires-clause-valid c = planes_are_valid c.args.bytes.now c.in_ok-mesh.mesh c.in_ok-mesh.ensures.mesh.of_document

pub returns-in_err-written-clause-fault : goal.returns-in_err-written-clause-fault
returns-in_err-written-clause-fault c =
    let cause = c.in_err-written.field-0.0 in
    passed_on (IsDocumentFileFault c.args.bytes.now c.args.grid c.args.format) c.from_residual-in_err-written.result
    (of_unwritten_fault cause) c.from_residual-in_err-written.ensures.1
    (unwritten_fault_is c.args.bytes.now c.args.grid c.args.format c.in_ok-mesh.mesh c.in_ok-mesh.ensures.mesh cause
    c.in_err-written.ensures.fault)

pub returns-clause-output : goal.returns-clause-output
returns-clause-output c =
    let of_document = c.in_ok-mesh.ensures.mesh in
    record {
      mesh = c.in_ok-mesh.mesh;
      of_document = of_document;
      written = written_is_closed c.args.bytes.now c.args.format c.args.grid c.in_ok-mesh.mesh c.in_ok-written.written
          of_document.of_document c.in_ok-written.ensures.written;
      shown = c.in_ok-written.ensures.shown;
    }
