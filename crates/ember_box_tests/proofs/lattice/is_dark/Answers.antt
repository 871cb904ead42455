use Rattle.std.proofs.Common.{subst, sym, lit≤}
use Rattle.ember_voxel.specs.Lattice.{IsVoxelJob}
use Rattle.ember_voxel.specs.Laws.{root_is_voxel_job}
use Rattle.ember_box_tests.proofs.lattice.is_dark.Goals as goal

pub voxel_step-requires : goal.voxel_step-requires
voxel_step-requires c =
    let s = c.args.s.now in
    subst (IsVoxelJob s.tris 12) (sym c.in_ok-job.ensures.value) (root_is_voxel_job s.tris s.meshes 12 s.kept (lit≤ tt))
