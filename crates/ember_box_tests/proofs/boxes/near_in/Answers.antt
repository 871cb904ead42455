use Rattle.std.proofs.Common.{◌<◌, All, length, subst, sym}
use Rattle.ember_visit.proofs.IndexLists.{job_places}
use Rattle.ember_box_tests.proofs.boxes.near_in.Goals as goal

pub near_list-requires : goal.near_list-requires
near_list-requires c = subst (All (λ i. i < length c.args.s.now.tris)) (sym c.items.ensures) (job_places c.args.s.now.tris c.args.job.now c.requires)
