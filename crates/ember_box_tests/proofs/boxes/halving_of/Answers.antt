use Rattle.std.proofs.Common.{◌<◌, All, length, subst, sym}
use Rattle.ember_visit.proofs.IndexLists.{job_places}
use Rattle.ember_box_tests.proofs.boxes.halving_of.Goals as goal

pub halving-axis-requires : goal.halving-axis-requires
halving-axis-requires c = subst (All (λ i. i < length c.args.s.now.tris)) (sym c.items-list.ensures) (job_places c.args.s.now.tris c.args.job.now c.requires)

pub is_leaf-requires : goal.is_leaf-requires
is_leaf-requires c = subst (All (λ i. i < length c.args.s.now.tris)) (sym c.items-list.ensures) (job_places c.args.s.now.tris c.args.job.now c.requires)

pub split_axis-requires : goal.split_axis-requires
split_axis-requires c = subst (All (λ i. i < length c.args.s.now.tris)) (sym c.items-list.ensures) (job_places c.args.s.now.tris c.args.job.now c.requires)
