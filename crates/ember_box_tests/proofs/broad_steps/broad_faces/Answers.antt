use Rattle.std.proofs.Common.{◌^◌, subst, sym}
use Rattle.ember_model.specs.Limits.{broad_limit, most_meshes}
use Rattle.ember_width.specs.Scenes.{IsSceneWithin}
use Rattle.ember_box_tests.proofs.BroadScenes.{broad_scene}
use Rattle.ember_visit.specs.Jobs.{IsJobOn}
use Rattle.ember_box_tests.proofs.broad_steps.broad_faces.Goals as goal

pub outlines_step-requires-clause-scene : goal.outlines_step-requires-clause-scene
outlines_step-requires-clause-scene c =
    subst (λ ts. IsSceneWithin broad_limit ts most_meshes) (sym c.items.ensures)
    (broad_scene c.args.s.now.tris c.args.s.now.meshes c.args.s.now.kept)

pub outlines_step-requires-clause-job : goal.outlines_step-requires-clause-job
outlines_step-requires-clause-job c =
    subst (λ ts. IsJobOn 8 (2 ^ 43) ts c.in_ok-job.job) (sym c.items.ensures) c.in_ok-job.ensures
