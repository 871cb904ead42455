-- Faults of the parts of a scene are those of the scene
use Rattle.std.proofs.Common.{◌≡◌, Result, Ok, Err, IfErr, List, map, length, sym, ap, subst, ◌∙◌}
use Rattle.std.specs.List.{All}
use Rattle.std.specs.Result.{IsErrAnd}
use Rattle.mesh_read.specs.declared.surface.surface.Surface.{Surface}
use Rattle.ember_mesh.specs.declared.states.Closed.{Closed}
use Rattle.ember_mesh.specs.declared.fault.JoinFault.{JoinFault}
use Rattle.ember_mesh.specs.declared.fault.JoinFault.TheVariants as join_fault
use Rattle.ember_mesh.specs.Joined.{IsJoinFault}
use Rattle.mesh_grid.specs.declared.grid.grid.Grid.{Grid}
use Rattle.mesh_grid.specs.declared.grid.choice.Wanted.{Wanted}
use Rattle.mesh_grid.specs.declared.grid.fault.GridFault.TheVariants as grid_fault
use Rattle.mesh_scene.specs.declared.scene.fault.SceneFault.{SceneFault}
use Rattle.mesh_scene.specs.declared.scene.fault.SceneFault.TheVariants as scene_fault
use Rattle.mesh_scene.specs.Scene.Images.{meshes_on}
use Rattle.mesh_scene.specs.Scene.Faults.{IsClosedMesh, IsFirstOpen, IsFaultOn, of_join_fault, IsSceneGrid, IsSceneFault}
use Rattle.mesh_scene.proofs.Scenes.{parts_are_closed, closed_are_balanced, joined_images}

-- what holds of the fault that a result has
pub fault_has : {T : Type 0} (r : Result T SceneFault) (fault : SceneFault) (P : SceneFault → Type 0) → IsErrAnd r (λ e. e ≡ fault) → P fault → IfErr r P
fault_has (Ok x) fault P h p = tt
fault_has (Err e) fault P h p = subst P (sym h) p

-- a fault of the surfaces on the grid
pub fault_on_grid_is : (g : Grid) (ss : List Surface) (wanted : Wanted) (fault : SceneFault) → IsSceneGrid ss wanted g →
    IsFaultOn g ss fault → IsSceneFault ss wanted fault
fault_on_grid_is g ss wanted scene_fault.NoTriangles grid h = absurd h
fault_on_grid_is g ss wanted (scene_fault.StepTooSmall extent) grid h = absurd h
fault_on_grid_is g ss wanted (scene_fault.Open o) grid h =
    (subst (IsSceneGrid ss wanted) (sym h.0) grid, subst (λ (k : Grid). IsFirstOpen k ss o) (sym h.0) h.1)
fault_on_grid_is g ss wanted (scene_fault.TooManyTriangles n) grid h = (g, grid, h)
fault_on_grid_is g ss wanted scene_fault.OutOfMemory grid h = tt

-- a fault of all meshes together
pub join_fault_is : (g : Grid) (ss : List Surface) (parts : List Closed) (cause : JoinFault) →
    map (λ part. part.tris) parts ≡ meshes_on g 1 ss → IsJoinFault parts cause → IsFaultOn g ss (of_join_fault cause)
join_fault_is g ss parts (join_fault.TooManyTriangles n) e h = record {
  number = h.0 ∙ ap length (joined_images g ss parts e);
  many = h.1;
  closed = closed_are_balanced (meshes_on g 1 ss) (subst (All IsClosedMesh) e (parts_are_closed parts));
}
join_fault_is g ss parts join_fault.OutOfMemory e h = tt
