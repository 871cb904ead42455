use Rattle.std.proofs.Common.{rules, All, subst, sym}
use Rattle.ember_model.specs.Meshes.{HasMesh}
use Rattle.ember_model.specs.Valid.{IsValidTri}
use Rattle.ember_box.specs.Halved.{AreNearLists}
use Rattle.ember_visit.proofs.IndexLists.{numbered_less}
use Rattle.ember_visit.proofs.halving.halve_job.Goals as goal

pub jobs_of-requires-clause-within : goal.jobs_of-requires-clause-within
jobs_of-requires-clause-within c = subst (All IsValidTri) (sym c.items-2.ensures) c.args.s.now.kept.valid

pub jobs_of-requires-clause-numbered : goal.jobs_of-requires-clause-numbered
jobs_of-requires-clause-numbered c =
    let kept = c.args.s.now.kept in
    subst (All (HasMesh 64)) (sym c.items-2.ensures) (numbered_less c.args.s.now.meshes c.args.s.now.tris kept.few_meshes kept.numbered)

pub jobs_of-requires-clause-lists : goal.jobs_of-requires-clause-lists
jobs_of-requires-clause-lists c =
    let job = c.args.job.now in
    let lists : AreNearLists c.args.s.now.tris job.cell c.args.axis job.list c.in_ok-near_left.near_left.items
    c.in_ok-near_left.near_right.items = search rules in
    subst (λ ts. AreNearLists ts job.cell c.args.axis job.list c.in_ok-near_left.near_left.items
    c.in_ok-near_left.near_right.items) (sym c.items-2.ensures) lists
