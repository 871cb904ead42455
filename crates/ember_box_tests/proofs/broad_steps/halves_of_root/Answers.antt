use Rattle.std.proofs.Common.{◌<◌, All, length, subst, sym, arith}
use Rattle.ember_model.specs.Limits.{broad_limit}
use Rattle.ember_model.specs.Meshes.{HasMesh}
use Rattle.ember_model.specs.Within.{IsTriWithin}
use Rattle.ember_visit.proofs.IndexLists.{job_places, few_listed, counts_within}
use Rattle.ember_box_tests.proofs.BroadScenes.{broad_scene}
use Rattle.ember_box_tests.proofs.broad_steps.halves_of_root.Goals as goal

pub halve_unless_leaf_among-requires-clause-within : goal.halve_unless_leaf_among-requires-clause-within
halve_unless_leaf_among-requires-clause-within c =
    subst (All (IsTriWithin broad_limit)) (sym c.items.ensures) (broad_scene c.args.s.now.tris c.args.s.now.meshes c.args.s.now.kept).within

pub halve_unless_leaf_among-requires-clause-numbered : goal.halve_unless_leaf_among-requires-clause-numbered
halve_unless_leaf_among-requires-clause-numbered c =
    subst (All (HasMesh 64)) (sym c.items.ensures) (broad_scene c.args.s.now.tris c.args.s.now.meshes c.args.s.now.kept).numbered

pub halve_unless_leaf_among-requires-clause-places : goal.halve_unless_leaf_among-requires-clause-places
halve_unless_leaf_among-requires-clause-places c =
    subst (λ ts. All (λ i. i < length ts) c.in_ok-job.job.list) (sym c.items.ensures) (job_places c.args.s.now.tris c.in_ok-job.job c.in_ok-job.ensures)

pub halve_unless_leaf_among-requires-clause-few : goal.halve_unless_leaf_among-requires-clause-few
halve_unless_leaf_among-requires-clause-few c = few_listed c.args.s.now.tris c.in_ok-job.job c.in_ok-job.ensures c.args.s.now.kept.few

pub halve_unless_leaf_among-requires-clause-room : goal.halve_unless_leaf_among-requires-clause-room
halve_unless_leaf_among-requires-clause-room c = counts_within c.args.s.now.tris c.in_ok-job.job c.in_ok-job.ensures 16515072 (omega arith) c.args.s.now.kept.few
