use Rattle.std.proofs.Common.{◌≤◌, ℕ, List, length, subst, sym}
use Rattle.std.specs.List.{All}
use Rattle.ember_expr.specs.Formula.{formula_of}
use Rattle.ember_model.specs.Limits.{most_triangles}
use Rattle.ember_model.specs.Valid.{IsValidTri}
use Rattle.ember_model.specs.declared.tri.Tri.{Tri}
use Rattle.mesh_boolean.proofs.Outputs.{planes_are_valid}
use Rattle.mesh_boolean.specs.Faults.{of_solid_fault, of_writing_fault}
use Rattle.mesh_solid.proofs.Passing.{passed_on}
use Rattle.mesh_solid.specs.Mesh.Faults.{IsSolidFault}
use Rattle.mesh_solid.specs.Mesh.Meshes.{IsSolidMesh}
use Rattle.ember_arrays.specs.Faults.{IsArrayFault}
use Rattle.ember_arrays.specs.Sources.{AreSourcesIf}
use Rattle.ember_arrays.proofs.Refusals.{arrays_fault_is, placing_fault_is, solid_fault_is}
use Rattle.ember_arrays.proofs.SolidArrays.{arrays_are_solid}
use Rattle.ember_arrays.proofs.solid.array_solid.Goals as goal

pub returns-in_err-placed-clause-fault : goal.returns-in_err-placed-clause-fault
returns-in_err-placed-clause-fault c =
    let formula = formula_of c.args.expr.now in
    let fault = c.in_err-placed.field-0.0 in
    passed_on (IsArrayFault c.args.meshes.now formula c.args.wanted c.args.digits) c.from_residual.result fault
    c.from_residual.ensures.1 (placing_fault_is c.args.meshes.now formula c.args.wanted c.args.digits fault
    c.in_err-placed.ensures.fault)

pub returns-in_err-mesh-clause-fault : goal.returns-in_err-mesh-clause-fault
returns-in_err-mesh-clause-fault c =
    let formula = formula_of c.args.expr.now in
    let cause = c.in_err-mesh.field-0.0 in
    let is = c.in_ok-placed.ensures.placed.is in
    let of_images = subst (λ (tris : List Tri). IsSolidFault tris formula cause) is.tris c.in_err-mesh.ensures.fault in
    passed_on (IsArrayFault c.args.meshes.now formula c.args.wanted c.args.digits) c.from_residual-in_err-mesh.result
    (of_solid_fault cause) c.from_residual-in_err-mesh.ensures.1
    (solid_fault_is c.args.meshes.now formula c.args.wanted c.args.digits is.surfaces c.in_ok-placed.field-0.placed.grid
    is.are_placed cause of_images)

pub lying_if-requires : goal.lying_if-requires
lying_if-requires c =
    let is = c.in_ok-mesh.ensures.solid.mesh in planes_are_valid is.bytes c.in_ok-mesh.field-0.mesh is.of_document

pub arrays_of-requires-clause-step : goal.arrays_of-requires-clause-step
arrays_of-requires-clause-step c = c.in_ok-placed.ensures.placed.is.are_placed.on_grid.step

pub arrays_of-requires-clause-proper : goal.arrays_of-requires-clause-proper
arrays_of-requires-clause-proper c = c.in_ok-mesh.ensures.solid.mesh.of_document.cut.certified.proper

pub arrays_of-requires-clause-valid : goal.arrays_of-requires-clause-valid
arrays_of-requires-clause-valid c =
    let is = c.in_ok-mesh.ensures.solid.mesh in planes_are_valid is.bytes c.in_ok-mesh.field-0.mesh is.of_document

pub returns-in_err-arrays-clause-fault : goal.returns-in_err-arrays-clause-fault
returns-in_err-arrays-clause-fault c =
    let formula = formula_of c.args.expr.now in
    let cause = c.in_err-arrays.field-0.0 in
    let is = c.in_ok-placed.ensures.placed.is in
    let mesh = c.in_ok-mesh.field-0.mesh in
    let solid = subst (λ (tris : List Tri). IsSolidMesh tris formula mesh) is.tris c.in_ok-mesh.ensures.solid.mesh in
    passed_on (IsArrayFault c.args.meshes.now formula c.args.wanted c.args.digits) c.from_residual-in_err-arrays.result
    (of_writing_fault cause) c.from_residual-in_err-arrays.ensures.1
    (arrays_fault_is c.args.meshes.now formula c.args.wanted c.args.digits is.surfaces c.in_ok-placed.field-0.placed.grid
    is.are_placed mesh solid cause c.in_err-arrays.ensures.fault)

pub sources_if-requires-clause-few : goal.sources_if-requires-clause-few
sources_if-requires-clause-few c =
    subst (λ (tris : List Tri). length tris ≤ most_triangles) (sym c.items-tris.ensures) c.in_ok-placed.field-0.placed.scene.kept.few

pub sources_if-requires-clause-scene : goal.sources_if-requires-clause-scene
sources_if-requires-clause-scene c = subst (All IsValidTri) (sym c.items-tris.ensures) c.in_ok-placed.field-0.placed.scene.kept.valid

pub sources_if-requires-clause-planes : goal.sources_if-requires-clause-planes
sources_if-requires-clause-planes c =
    let is = c.in_ok-mesh.ensures.solid.mesh in planes_are_valid is.bytes c.in_ok-mesh.field-0.mesh is.of_document

pub returns-clause-solid : goal.returns-clause-solid
returns-clause-solid c =
    let inputs = c.in_ok-placed.field-0.inputs in
    let mesh = c.in_ok-mesh.field-0.mesh in
    let sources = c.in_ok-sources.sources in
    let of_inputs = subst (λ (tris : List Tri). AreSourcesIf inputs tris mesh c.in_ok-arrays.arrays.origins.items sources) c.items-tris.ensures
    (subst (λ (origins : List ℕ). AreSourcesIf inputs c.items-tris.result.now mesh origins sources) c.deref.ensures.value c.in_ok-sources.ensures) in
    arrays_are_solid c.args.meshes.now (formula_of c.args.expr.now) c.args.wanted c.args.digits c.in_ok-placed.field-0.placed
    c.in_ok-placed.ensures.placed.is c.in_ok-mesh.field-0 c.in_ok-mesh.ensures.solid c.in_ok-arrays.arrays
    c.in_ok-arrays.ensures.arrays c.in_ok-sixfold_volumes.sixfold_volumes c.in_ok-sixfold_volumes.ensures c.in_ok-lying.lying c.in_ok-lying.ensures
    c.args.wants_sources inputs
    c.in_ok-placed.ensures.placed.inputs sources of_inputs
