use Rattle.std.proofs.Common.{◌≤◌, List, length, subst, sym}
use Rattle.std.specs.List.{All}
use Rattle.ember_expr.specs.Formula.{formula_of}
use Rattle.ember_model.specs.Limits.{most_triangles}
use Rattle.ember_model.specs.Valid.{IsValidTri}
use Rattle.ember_model.specs.declared.tri.Tri.{Tri}
use Rattle.mesh_solid.specs.Mesh.Asked.{IsThereIf}
use Rattle.mesh_solid.specs.Mesh.Faults.{IsSolidFault}
use Rattle.mesh_solid.specs.Mesh.Meshes.{IsSolidMesh}
use Rattle.mesh_solid.proofs.Passing.{passed_on}
use Rattle.mesh_boolean.specs.Faults.{IsBooleanFault, of_solid_fault, of_writing_fault}
use Rattle.mesh_boolean.specs.ShownFiles.{AreShownFiles}
use Rattle.mesh_boolean.proofs.Refusals.{placing_fault_is, solid_fault_is, writing_fault_is}
use Rattle.mesh_boolean.proofs.Outputs.{output_is, planes_are_valid}
use Rattle.mesh_boolean.proofs.solid.solid_file.Goals as goal

pub returns-in_err-placed-clause-fault : goal.returns-in_err-placed-clause-fault
returns-in_err-placed-clause-fault g c =
    let formula = formula_of c.args.expr.now in
    let fault = c.in_err-placed.field-0.0 in
    passed_on (IsBooleanFault c.args.files.now formula c.args.wanted) c.from_residual.result fault
    c.from_residual.ensures.1 (placing_fault_is c.args.files.now formula c.args.wanted fault
    c.in_err-placed.ensures.fault)

pub returns-in_err-mesh-clause-fault : goal.returns-in_err-mesh-clause-fault
returns-in_err-mesh-clause-fault g c =
    let formula = formula_of c.args.expr.now in
    let cause = c.in_err-mesh.field-0.0 in
    let is = c.in_ok-placed.ensures.placed in
    let of_images = subst (λ (tris : List Tri). IsSolidFault tris formula cause) is.tris c.in_err-mesh.ensures.fault in
    passed_on (IsBooleanFault c.args.files.now formula c.args.wanted) c.from_residual-in_err-mesh.result
    (of_solid_fault cause) c.from_residual-in_err-mesh.ensures.1
    (solid_fault_is c.args.files.now formula c.args.wanted is.surfaces c.in_ok-placed.placed.grid is.are_placed cause
    of_images)

pub lying_if-requires : goal.lying_if-requires
lying_if-requires g c =
    let is = c.in_ok-mesh.ensures.solid.mesh in planes_are_valid is.bytes c.in_ok-mesh.field-0.mesh is.of_document

pub shown_files_if-requires-clause-few : goal.shown_files_if-requires-clause-few
shown_files_if-requires-clause-few g c =
    subst (λ (tris : List Tri). length tris ≤ most_triangles) (sym c.items-tris.ensures) c.in_ok-placed.placed.scene.kept.few

pub shown_files_if-requires-clause-scene : goal.shown_files_if-requires-clause-scene
shown_files_if-requires-clause-scene g c = subst (All IsValidTri) (sym c.items-tris.ensures) c.in_ok-placed.placed.scene.kept.valid

pub shown_files_if-requires-clause-step : goal.shown_files_if-requires-clause-step
shown_files_if-requires-clause-step g c = c.in_ok-placed.ensures.placed.are_placed.on_grid.step

pub shown_files_if-requires-clause-proper : goal.shown_files_if-requires-clause-proper
shown_files_if-requires-clause-proper g c = c.in_ok-mesh.ensures.solid.mesh.of_document.cut.certified.proper

pub shown_files_if-requires-clause-planes : goal.shown_files_if-requires-clause-planes
shown_files_if-requires-clause-planes g c =
    let is = c.in_ok-mesh.ensures.solid.mesh in planes_are_valid is.bytes c.in_ok-mesh.field-0.mesh is.of_document

pub returns-in_err-shown_files-clause-fault : goal.returns-in_err-shown_files-clause-fault
returns-in_err-shown_files-clause-fault g c =
    let formula = formula_of c.args.expr.now in
    let cause = c.in_err-shown_files.field-0.0 in
    let is = c.in_ok-placed.ensures.placed in
    let mesh = c.in_ok-mesh.field-0.mesh in
    let solid = subst (λ (tris : List Tri). IsSolidMesh tris formula mesh) is.tris c.in_ok-mesh.ensures.solid.mesh in
    passed_on (IsBooleanFault c.args.files.now formula c.args.wanted) c.from_residual-in_err-shown_files.result
    (of_writing_fault cause) c.from_residual-in_err-shown_files.ensures.1
    (writing_fault_is c.args.files.now formula c.args.wanted is.surfaces c.in_ok-placed.placed.grid is.are_placed mesh
    solid cause (c.in_err-shown_files.ensures.fault c.args.wanted.format))

pub written_of-requires-clause-step : goal.written_of-requires-clause-step
written_of-requires-clause-step g c = c.in_ok-placed.ensures.placed.are_placed.on_grid.step

pub written_of-requires-clause-proper : goal.written_of-requires-clause-proper
written_of-requires-clause-proper g c = c.in_ok-mesh.ensures.solid.mesh.of_document.cut.certified.proper

pub written_of-requires-clause-valid : goal.written_of-requires-clause-valid
written_of-requires-clause-valid g c =
    let is = c.in_ok-mesh.ensures.solid.mesh in planes_are_valid is.bytes c.in_ok-mesh.field-0.mesh is.of_document

pub returns-in_err-written-clause-fault : goal.returns-in_err-written-clause-fault
returns-in_err-written-clause-fault g c =
    let formula = formula_of c.args.expr.now in
    let cause = c.in_err-written.field-0.0 in
    let is = c.in_ok-placed.ensures.placed in
    let mesh = c.in_ok-mesh.field-0.mesh in
    let solid = subst (λ (tris : List Tri). IsSolidMesh tris formula mesh) is.tris c.in_ok-mesh.ensures.solid.mesh in
    passed_on (IsBooleanFault c.args.files.now formula c.args.wanted) c.from_residual-in_err-written.result
    (of_writing_fault cause) c.from_residual-in_err-written.ensures.1
    (writing_fault_is c.args.files.now formula c.args.wanted is.surfaces c.in_ok-placed.placed.grid is.are_placed mesh
    solid cause c.in_err-written.ensures.fault)

pub returns-clause-output : goal.returns-clause-output
returns-clause-output g c =
    let of_files = subst (λ (tris : List Tri). IsThereIf c.args.wanted.shows
    (AreShownFiles tris c.in_ok-placed.placed.grid c.in_ok-mesh.field-0.mesh) c.in_ok-shown_files.shown_files)
    c.items-tris.ensures c.in_ok-shown_files.ensures.files in
    output_is c.args.files.now (formula_of c.args.expr.now) c.args.wanted c.in_ok-placed.placed
    c.in_ok-placed.ensures.placed c.in_ok-mesh.field-0 c.in_ok-mesh.ensures.solid c.in_ok-written.written
    c.in_ok-written.ensures.written c.in_ok-written.ensures.shown c.in_ok-shown_files.shown_files of_files
    c.kept_with-kept.result c.kept_with-kept.ensures c.in_ok-sixfold_volumes.sixfold_volumes
    c.in_ok-sixfold_volumes.ensures c.in_ok-lying.lying c.in_ok-lying.ensures
