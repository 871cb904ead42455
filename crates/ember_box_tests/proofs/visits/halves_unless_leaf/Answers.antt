use Rattle.std.proofs.Common.{◌<◌, All, arith, length, subst, sym}
use Rattle.ember_model.specs.Meshes.{HasMesh}
use Rattle.ember_model.specs.Valid.{IsValidTri}
use Rattle.ember_visit.proofs.IndexLists.{job_places, few_listed, counts_within, numbered_less}
use Rattle.ember_box_tests.proofs.visits.halves_unless_leaf.Goals as goal

pub halve_unless_leaf_among-requires-clause-within : goal.halve_unless_leaf_among-requires-clause-within
halve_unless_leaf_among-requires-clause-within c = subst (All IsValidTri) (sym c.items.ensures) c.args.s.now.kept.valid

pub halve_unless_leaf_among-requires-clause-numbered : goal.halve_unless_leaf_among-requires-clause-numbered
halve_unless_leaf_among-requires-clause-numbered c =
    let kept = c.args.s.now.kept in
    subst (All (HasMesh 64)) (sym c.items.ensures) (numbered_less c.args.s.now.meshes c.args.s.now.tris kept.few_meshes kept.numbered)

pub halve_unless_leaf_among-requires-clause-places : goal.halve_unless_leaf_among-requires-clause-places
halve_unless_leaf_among-requires-clause-places c =
    subst (λ us. All (λ i. i < length us) c.args.job.now.list) (sym c.items.ensures) (job_places c.args.s.now.tris c.args.job.now c.requires)

pub halve_unless_leaf_among-requires-clause-few : goal.halve_unless_leaf_among-requires-clause-few
halve_unless_leaf_among-requires-clause-few c = few_listed c.args.s.now.tris c.args.job.now c.requires c.args.s.now.kept.few

pub halve_unless_leaf_among-requires-clause-room : goal.halve_unless_leaf_among-requires-clause-room
halve_unless_leaf_among-requires-clause-room c = counts_within c.args.s.now.tris c.args.job.now c.requires 16515072 (omega arith) c.args.s.now.kept.few
