use Rattle.std.proofs.Common.{◌≡◌, List, ap, ◌+◌, ◌∙◌, to_z, of_z, to_z-of_z}
use mir.Syntax.{w64}
use Rattle.ember_model.specs.declared.tri.Tri.{Tri}
use Rattle.mesh_boolean.specs.Volumes.{sixfold_volume_of_mesh}
use Rattle.mesh_boolean.proofs.VolumeSums.{volumes_more}
use Rattle.mesh_boolean.proofs.volumes.sixfold_volumes_of_meshes.Goals as goal

pub loop-index-preserved : goal.loop-index-preserved
loop-index-preserved c =
    let i = c.loop-index.index in
    let stored : to_z w64 (of_z w64 c.sixfold_volume_of_mesh.result) ≡ c.sixfold_volume_of_mesh.result =
    to_z-of_z {w = w64} (record { sfits = c.sixfold_volume_of_mesh.type_inv }) in
    let part = stored ∙ c.sixfold_volume_of_mesh.ensures ∙ ap (λ (ts : List Tri). sixfold_volume_of_mesh ts (i + 1)) c.items.ensures in
    c.in_ok-push.ensures.items ∙ volumes_more c.args.scene.now.tris i _ _ c.loop-index.invariant part
