use Rattle.std.proofs.Common.{arith}
use Rattle.std.proofs.lemmas.Result.{IfErr-weaker}
use Rattle.mesh_solid.specs.Mesh.FaceMeshes.{IsFacesFault}
use Rattle.mesh_solid.specs.Mesh.Faults.{IsFileFault, of_table_fault}
use Rattle.mesh_solid.proofs.FaceSteps.{faces_mesh_is, faces_cut_fault, faces_table_fault}
use Rattle.mesh_solid.proofs.Passing.{passed_on}
use Rattle.mesh_solid.proofs.SolidSteps.{document_mesh_is, cut_fault_is, table_fault_is}
use Rattle.mesh_solid.proofs.mesh.mesh.mesh_of_faces.Goals as goal

pub returns-clause-mesh : goal.returns-clause-mesh
returns-clause-mesh g c = λ bytes read.
    document_mesh_is bytes c.args.faces.items c.deref.result.now read c.deref.ensures.value c.in_ok-tables.tables
    c.in_ok-tables.ensures.tables c.mesh_of.result c.len-count.result (omega arith) c.mesh_of.ensures.mesh
    c.mesh_of.ensures.faces

pub returns-clause-fault : goal.returns-clause-fault
returns-clause-fault g c = λ bytes read.
    IfErr-weaker c.mesh_of.result _ _ (cut_fault_is bytes c.args.faces.items c.deref.result.now read
    c.deref.ensures.value c.in_ok-tables.tables c.in_ok-tables.ensures.tables) c.mesh_of.ensures.fault

pub returns-in_err-tables-clause-fault : goal.returns-in_err-tables-clause-fault
returns-in_err-tables-clause-fault g c = λ bytes read.
    let cause = c.in_err-tables.field-0.0 in
    passed_on (IsFileFault bytes) c.from_residual.result (of_table_fault cause) c.from_residual.ensures.1
    (table_fault_is bytes c.args.faces.items c.deref.result.now read c.deref.ensures.value cause
    c.in_err-tables.ensures.fault)

pub returns-clause-faces : goal.returns-clause-faces
returns-clause-faces g c =
    faces_mesh_is c.args.faces.items c.deref.result.now c.deref.ensures.value c.in_ok-tables.tables
    c.in_ok-tables.ensures.tables c.mesh_of.result c.len-count.result (omega arith) c.mesh_of.ensures.mesh
    c.mesh_of.ensures.faces

pub returns-clause-faces_fault : goal.returns-clause-faces_fault
returns-clause-faces_fault g c =
    IfErr-weaker c.mesh_of.result _ _ (faces_cut_fault c.args.faces.items c.deref.result.now c.deref.ensures.value
    c.in_ok-tables.tables c.in_ok-tables.ensures.tables) c.mesh_of.ensures.fault

pub returns-in_err-tables-clause-faces_fault : goal.returns-in_err-tables-clause-faces_fault
returns-in_err-tables-clause-faces_fault g c =
    let cause = c.in_err-tables.field-0.0 in
    passed_on (IsFacesFault c.args.faces.items) c.from_residual.result (of_table_fault cause) c.from_residual.ensures.1
    (faces_table_fault c.args.faces.items c.deref.result.now c.deref.ensures.value cause c.in_err-tables.ensures.fault)
