use Rattle.std.proofs.Common.{refl}
use Rattle.ember_expr.specs.Formula.{formula_of}
use Rattle.mesh_solid.specs.Mesh.Faults.{IsSolidFault}
use Rattle.mesh_solid.proofs.BroadFaces.{valid_faces_are_broad}
use Rattle.mesh_solid.proofs.Passing.{passed_on}
use Rattle.mesh_solid.proofs.SolidSteps.{solid_fault_is}
use Rattle.mesh_solid.proofs.mesh.solid.mesh_alone.Goals as goal

pub returns-clause-solid : goal.returns-clause-solid
returns-clause-solid g c =
    let held = c.in_ok-faces.ensures.faces in
    record {
      mesh = record { bytes = held.bytes; text = held.text; of_document = c.in_ok-mesh.ensures.mesh held.bytes held.read };
      report = c.in_ok-faces.ensures.report;
      document = refl;
    }

pub returns-in_err-mesh-clause-fault : goal.returns-in_err-mesh-clause-fault
returns-in_err-mesh-clause-fault g c =
    let formula = formula_of c.args.expr.now in
    let held = c.in_ok-faces.ensures.faces in
    let cause = c.in_err-mesh.field-0.0 in
    passed_on (IsSolidFault c.args.scene.now.tris formula) c.from_residual-in_err-mesh.result cause
    c.from_residual-in_err-mesh.ensures.1 (solid_fault_is c.args.scene.now.tris formula held.bytes held.text cause
    (c.in_err-mesh.ensures.fault held.bytes held.read))

pub mesh_of_faces-requires-clause-broad : goal.mesh_of_faces-requires-clause-broad
mesh_of_faces-requires-clause-broad g c = valid_faces_are_broad _ c.in_ok-faces.ensures.valid
