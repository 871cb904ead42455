use Rattle.std.proofs.Common.{refl}
use Rattle.ember_expr.specs.Formula.{formula_of}
use Rattle.mesh_solid.specs.Mesh.FaceMeshes.{IsBroadFault}
use Rattle.mesh_solid.proofs.BroadFaces.{scene_outlines_are_broad}
use Rattle.mesh_solid.proofs.FaceSteps.{broad_fault_is}
use Rattle.mesh_solid.proofs.Passing.{passed_on}
use Rattle.mesh_solid.proofs.mesh.broad.broad_solid_mesh.Goals as goal

pub mesh_of_faces-requires-clause-broad : goal.mesh_of_faces-requires-clause-broad
mesh_of_faces-requires-clause-broad g c = scene_outlines_are_broad _ _ _ c.in_ok-faces.ensures.faces

pub returns-clause-solid : goal.returns-clause-solid
returns-clause-solid g c =
    record {
      faces = c.in_ok-faces.field-0.faces.items;
      outlines = c.in_ok-faces.ensures.faces;
      mesh = c.in_ok-mesh.ensures.faces;
      report = c.in_ok-faces.ensures.report;
      document = refl;
    }

pub returns-in_err-mesh-clause-fault : goal.returns-in_err-mesh-clause-fault
returns-in_err-mesh-clause-fault g c =
    let formula = formula_of c.args.expr.now in
    let cause = c.in_err-mesh.field-0.0 in
    passed_on (IsBroadFault c.args.tris.now formula) c.from_residual-in_err-mesh.result cause
    c.from_residual-in_err-mesh.ensures.1 (broad_fault_is c.args.tris.now formula _ c.in_ok-faces.ensures.faces cause
    c.in_err-mesh.ensures.faces_fault)
