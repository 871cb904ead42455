use Rattle.mesh_solid.proofs.Passing.{passed_on}
use Rattle.mesh_boolean.specs.WritingFaults.{IsWritingFault, of_place_fault}
use Rattle.mesh_boolean.specs.declared.wanted.MeshFormat.{MeshFormat}
use Rattle.mesh_boolean.specs.declared.writing_fault.WritingFault.{WritingFault}
use Rattle.mesh_boolean.proofs.WritingRefusals.{place_fault_is}
use Rattle.mesh_boolean.proofs.shown_files.shown_files_if.Goals as goal

pub returns-in_err-files-clause-fault : goal.returns-in_err-files-clause-fault
returns-in_err-files-clause-fault c =
    let grid = c.args.grid.now in
    let mesh = c.args.mesh.now in
    let cause = c.in_err-files.field-0.0 in
    passed_on (λ (fault : WritingFault). (format : MeshFormat) → IsWritingFault format grid mesh fault)
    c.from_residual.result (of_place_fault cause) c.from_residual.ensures.1
    (λ format. place_fault_is format grid mesh cause c.in_err-files.ensures.fault)
