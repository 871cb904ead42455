use Rattle.std.proofs.Common.{ℕ, List, refl, sym, subst}
use Rattle.ember_expr.specs.Formula.{formula_of}
use Rattle.ember_model.specs.FaceFiles.{IsFaceFile}
use Rattle.mesh_solid.specs.Mesh.FaceTables.{HoldsFaces}
use Rattle.mesh_solid.specs.Mesh.Faults.{IsSolidFault}
use Rattle.mesh_solid.proofs.BroadFaces.{valid_faces_are_broad}
use Rattle.mesh_solid.proofs.Passing.{passed_on}
use Rattle.mesh_solid.proofs.ReadBack.{solid_holds_faces}
use Rattle.mesh_solid.proofs.SolidSteps.{solid_fault_is}
use Rattle.mesh_solid.proofs.mesh.solid.mesh_with_document.Goals as goal

pub faces_in-requires : goal.faces_in-requires
faces_in-requires g c =
    subst HoldsFaces (sym c.deref.ensures.value) (solid_holds_faces _ _ _ c.in_ok-text.ensures.text)

pub returns-clause-solid : goal.returns-clause-solid
returns-clause-solid g c =
    let text = c.in_ok-text.field-0.text in
    let faces = c.in_ok-faces.faces.items in
    let read = subst (λ (bytes : List ℕ). IsFaceFile bytes faces) c.deref.ensures.value c.in_ok-faces.ensures.faces in
    record {
      mesh = record { bytes = text.items; text = c.in_ok-text.ensures.text; of_document = c.in_ok-mesh.ensures.mesh text.items read };
      report = c.in_ok-text.ensures.report;
      document = (refl, refl);
    }

pub returns-in_err-mesh-clause-fault : goal.returns-in_err-mesh-clause-fault
returns-in_err-mesh-clause-fault g c =
    let formula = formula_of c.args.expr.now in
    let text = c.in_ok-text.field-0.text in
    let faces = c.in_ok-faces.faces.items in
    let read = subst (λ (bytes : List ℕ). IsFaceFile bytes faces) c.deref.ensures.value c.in_ok-faces.ensures.faces in
    let cause = c.in_err-mesh.field-0.0 in
    passed_on (IsSolidFault c.args.scene.now.tris formula) c.from_residual-in_err-mesh.result cause
    c.from_residual-in_err-mesh.ensures.1 (solid_fault_is c.args.scene.now.tris formula text.items
    c.in_ok-text.ensures.text cause (c.in_err-mesh.ensures.fault text.items read))

pub mesh_of_faces-requires-clause-broad : goal.mesh_of_faces-requires-clause-broad
mesh_of_faces-requires-clause-broad g c = valid_faces_are_broad _ c.in_ok-faces.ensures.valid
