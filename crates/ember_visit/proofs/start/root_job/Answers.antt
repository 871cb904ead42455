use Rattle.std.proofs.Common.{subst, sym}
use Rattle.ember_model.specs.Limits.{narrow_limit, most_meshes}
use Rattle.ember_width.specs.Scenes.{IsSceneWithin}
use Rattle.ember_visit.proofs.IndexLists.{scene_within}
use Rattle.ember_visit.proofs.start.root_job.Goals as goal

pub root_job_among-requires : goal.root_job_among-requires
root_job_among-requires c =
    subst (λ ts. IsSceneWithin narrow_limit ts most_meshes) (sym c.items.ensures)
    (scene_within c.args.s.now.tris c.args.s.now.meshes c.args.s.now.kept)
