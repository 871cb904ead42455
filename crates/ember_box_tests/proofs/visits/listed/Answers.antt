use Rattle.std.proofs.Common.{◌<◌, All, length, subst, sym}
use Rattle.ember_visit.proofs.IndexLists.{job_places}
use Rattle.ember_box_tests.proofs.visits.listed.Goals as goal

pub listed_tris-requires : goal.listed_tris-requires
listed_tris-requires c =
    let ts = c.args.s.now.tris in let list = c.args.job.now.list in
    let places : All (λ i. i < length c.items.result.now) list =
    subst (λ us. All (λ i. i < length us) list) (sym c.items.ensures) (job_places ts c.args.job.now c.requires) in
    subst (All (λ i. i < length c.items.result.now)) (sym c.items-2.ensures) places
