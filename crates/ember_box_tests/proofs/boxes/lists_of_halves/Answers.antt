use Rattle.std.proofs.Common.{◌<◌, All, length, subst, sym}
use Rattle.ember_visit.proofs.IndexLists.{job_places}
use Rattle.ember_box_tests.proofs.boxes.lists_of_halves.Goals as goal

pub near_halves-requires-clause-places : goal.near_halves-requires-clause-places
near_halves-requires-clause-places c = subst (All (λ i. i < length c.args.s.now.tris)) (sym c.items.ensures)
    (job_places c.args.s.now.tris c.args.job.now c.requires.job)
