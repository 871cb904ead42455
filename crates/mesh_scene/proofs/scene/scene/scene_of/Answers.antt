use Rattle.std.proofs.Common.{◌∙◌, List, length, sym, ap, subst, arith}
use Rattle.ember_mesh.specs.declared.states.Closed.{Closed}
use Rattle.ember_mesh.specs.Joined.{triangles_of, AreNumbered, IsJoinFault}
use Rattle.mesh_scene.specs.Scene.Faults.{of_join_fault, IsSceneGrid, IsSceneFault}
use Rattle.mesh_scene.proofs.Scenes.{joined_images, parts_are_numbered, parts_are_as_many}
use Rattle.mesh_scene.proofs.SceneFaults.{fault_has, fault_on_grid_is, join_fault_is}
use Rattle.mesh_scene.proofs.scene.scene.scene_of.Goals as goal

pub join-requires-clause-few : goal.join-requires-clause-few
join-requires-clause-few c =
    let many = parts_are_as_many c.in_ok-grid.grid c.args.surfaces.now c.in_ok-meshes.meshes.parts.items c.in_ok-meshes.ensures.tris in
    let same = ap length c.of.ensures in
    omega (arith, many, same, c.requires.few)

pub join-requires-clause-numbered : goal.join-requires-clause-numbered
join-requires-clause-numbered c =
    subst (AreNumbered 1) (sym c.of.ensures) (parts_are_numbered c.in_ok-grid.grid 1 c.args.surfaces.now
    c.in_ok-meshes.meshes.parts.items c.in_ok-meshes.ensures.tris)

pub returns-in_err-scene-clause-fault : goal.returns-in_err-scene-clause-fault
returns-in_err-scene-clause-fault c =
    let cause = c.in_err-scene.field-0.0 in
    let parts = c.in_ok-meshes.meshes.parts.items in
    let grid : IsSceneGrid c.args.surfaces.now c.args.wanted c.in_ok-grid.grid =
    record { step = c.in_ok-grid.ensures.step; grid = c.in_ok-grid.ensures.grid } in
    let joined = subst (λ (ps : List Closed). IsJoinFault ps cause) c.of.ensures c.in_err-scene.ensures.fault in
    let fault = join_fault_is c.in_ok-grid.grid c.args.surfaces.now parts cause c.in_ok-meshes.ensures.tris joined in
    fault_has c.from_residual-in_err-scene.result (of_join_fault cause) (IsSceneFault c.args.surfaces.now c.args.wanted)
    c.from_residual-in_err-scene.ensures.1 (fault_on_grid_is c.in_ok-grid.grid c.args.surfaces.now c.args.wanted
    (of_join_fault cause) grid fault)

pub returns-clause-tris : goal.returns-clause-tris
returns-clause-tris c =
    c.in_ok-scene.ensures.tris ∙ ap triangles_of c.of.ensures
    ∙ joined_images c.in_ok-grid.grid c.args.surfaces.now c.in_ok-meshes.meshes.parts.items
    c.in_ok-meshes.ensures.tris

pub returns-clause-meshes : goal.returns-clause-meshes
returns-clause-meshes c =
    c.in_ok-scene.ensures.meshes ∙ ap length c.of.ensures
    ∙ parts_are_as_many c.in_ok-grid.grid c.args.surfaces.now c.in_ok-meshes.meshes.parts.items
    c.in_ok-meshes.ensures.tris
