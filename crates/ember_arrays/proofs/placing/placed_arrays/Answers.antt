use Rattle.std.proofs.Common.{◌≡◌, ◌∙◌, List, length, sym, ap, subst, arith}
use Rattle.std.specs.List.{All}
use Rattle.mesh_boolean.specs.Faults.{of_scene_fault}
use Rattle.mesh_grid.specs.Grid.Corners.{Lands}
use Rattle.mesh_grid.specs.Grid.Grids.{IsWithinLimit}
use Rattle.mesh_read.specs.declared.surface.surface.Surface.{Surface}
use Rattle.mesh_solid.specs.Mesh.Asked.{IsThereIf}
use Rattle.mesh_solid.proofs.Passing.{passed_on}
use Rattle.ember_arrays.specs.Faults.{IsPlacingFault}
use Rattle.ember_arrays.specs.Meshes.{AreSurfacesOf}
use Rattle.ember_arrays.specs.Sources.{inputs_from}
use Rattle.ember_arrays.proofs.InOrder.{meshes_are_placed, surfaces_are_as_many}
use Rattle.ember_arrays.proofs.Refusals.{scene_fault_is, surfaces_fault_is}
use Rattle.ember_arrays.proofs.placing.placed_arrays.Goals as goal

pub returns-in_err-surfaces-clause-fault : goal.returns-in_err-surfaces-clause-fault
returns-in_err-surfaces-clause-fault c =
    passed_on (IsPlacingFault c.args.meshes.now c.args.wanted) c.from_residual.result c.in_err-surfaces.field-0.0
    c.from_residual.ensures.1 (surfaces_fault_is c.args.meshes.now c.args.wanted c.in_err-surfaces.field-0.0
    c.in_err-surfaces.ensures.fault)

pub scene_of-requires-clause-few : goal.scene_of-requires-clause-few
scene_of-requires-clause-few c =
    let many = surfaces_are_as_many c.args.meshes.now c.in_ok-surfaces.surfaces.items c.in_ok-surfaces.ensures.surfaces in
    let same = ap length c.deref.ensures.value in
    omega (arith, many, same, c.requires.few)

pub scene_of-requires-clause-within : goal.scene_of-requires-clause-within
scene_of-requires-clause-within c =
    subst (All IsWithinLimit) (sym c.deref.ensures.value) c.in_ok-surfaces.ensures.within

pub returns-in_err-placed-clause-fault : goal.returns-in_err-placed-clause-fault
returns-in_err-placed-clause-fault c =
    let cause = c.in_err-placed.field-0.0 in
    let are = subst (AreSurfacesOf c.args.meshes.now) (sym c.deref.ensures.value) c.in_ok-surfaces.ensures.surfaces in
    passed_on (IsPlacingFault c.args.meshes.now c.args.wanted) c.from_residual-in_err-placed.result
    (of_scene_fault cause) c.from_residual-in_err-placed.ensures.1
    (scene_fault_is c.args.meshes.now c.args.wanted c.deref.result.now cause are c.in_err-placed.ensures.fault)

pub inputs_if-requires-clause-few : goal.inputs_if-requires-clause-few
inputs_if-requires-clause-few c =
    let many = surfaces_are_as_many c.args.meshes.now c.in_ok-surfaces.surfaces.items c.in_ok-surfaces.ensures.surfaces in
    let same = ap length c.deref-2.ensures.value in
    omega (arith, many, same, c.requires.few)

pub inputs_if-requires-clause-lands : goal.inputs_if-requires-clause-lands
inputs_if-requires-clause-lands c =
    subst (All (Lands c.in_ok-placed.placed.grid)) (c.deref.ensures.value ∙ sym c.deref-2.ensures.value) c.in_ok-placed.ensures.lands

pub returns-clause-placed : goal.returns-clause-placed
unfolding meshes_are_placed
returns-clause-placed c =
    let are = subst (AreSurfacesOf c.args.meshes.now) (sym c.deref.ensures.value) c.in_ok-surfaces.ensures.surfaces in
    let is = c.in_ok-placed.ensures in
    record {
      is = meshes_are_placed c.args.meshes.now c.args.wanted c.deref.result.now c.in_ok-placed.placed are is.step is.grid
          is.tris is.meshes is.counts is.moves;
      inputs = subst (λ (surfaces : List Surface). IsThereIf c.args.wants_inputs (λ inputs. inputs.items ≡ inputs_from c.in_ok-placed.placed.grid 1 surfaces) c.in_ok-inputs.inputs)
          (c.deref-2.ensures.value ∙ sym c.deref.ensures.value) c.in_ok-inputs.ensures;
    }
