use Rattle.std.proofs.Common.{subst, sym}
use Rattle.ember_model.specs.Limits.{broad_limit, most_meshes}
use Rattle.ember_width.specs.Scenes.{IsSceneWithin}
use Rattle.ember_box_tests.proofs.BroadScenes.{broad_scene}
use Rattle.ember_box_tests.proofs.broad_steps.broad_root.Goals as goal

pub root_job_among-requires : goal.root_job_among-requires
root_job_among-requires c =
    subst (λ ts. IsSceneWithin broad_limit ts most_meshes) (sym c.items.ensures)
    (broad_scene c.args.s.now.tris c.args.s.now.meshes c.args.s.now.kept)
