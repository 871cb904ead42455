use Rattle.std.proofs.Common.{◌<◌, All, length, subst, sym}
use Rattle.ember_visit.proofs.IndexLists.{job_places}
use Rattle.ember_box_tests.proofs.boxes.look_at.Goals as goal

pub halve_box-requires : goal.halve_box-requires
halve_box-requires c = subst (All (λ i. i < length c.args.s.now.tris)) (sym c.items.ensures) (job_places c.args.s.now.tris c.args.job.now c.requires)
