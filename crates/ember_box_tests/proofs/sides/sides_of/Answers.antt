use Rattle.std.proofs.Common.{◌≡◌, ◌<◌, All, subst, sym, ◌∙◌, ap, arith, length}
use Rattle.std.proofs.lemmas.List.{length-map}
use Rattle.ember_model.specs.Valid.{IsValidTri}
use Rattle.ember_model.specs.Meshes.{HasMesh}
use Rattle.ember_box.specs.Near.{listed, tri_at}
use Rattle.ember_visit.proofs.IndexLists.{all_listed, numbered_less, job_places, few_listed, counts_within}
use Rattle.ember_box_tests.proofs.sides.sides_of.Goals as goal

copied : (c : goal.After-deref) → c.deref.result.now ≡ listed c.args.s.now.tris c.args.job.now.list
copied c = c.deref.ensures.value ∙ c.in_ok-near.ensures ∙ (λ i. listed (c.items.ensures i) (c.items-2.ensures i))

pub listed_tris-requires : goal.listed_tris-requires
listed_tris-requires c =
    let ts = c.args.s.now.tris in let list = c.args.job.now.list in
    let places : All (λ i. i < length c.items.result.now) list =
    subst (λ us. All (λ i. i < length us) list) (sym c.items.ensures) (job_places ts c.args.job.now c.requires) in
    subst (All (λ i. i < length c.items.result.now)) (sym c.items-2.ensures) places

pub sides_traced-requires-clause-valid : goal.sides_traced-requires-clause-valid
sides_traced-requires-clause-valid c =
    subst (All IsValidTri) (sym (copied c)) (all_listed IsValidTri c.args.s.now.tris c.args.job.now.list
    c.args.s.now.kept.valid (job_places c.args.s.now.tris c.args.job.now c.requires))

pub sides_traced-requires-clause-numbered : goal.sides_traced-requires-clause-numbered
sides_traced-requires-clause-numbered c =
    let kept = c.args.s.now.kept in
    subst (All (HasMesh 64)) (sym (copied c)) (all_listed (HasMesh 64) c.args.s.now.tris c.args.job.now.list
    (numbered_less c.args.s.now.meshes c.args.s.now.tris kept.few_meshes kept.numbered)
    (job_places c.args.s.now.tris c.args.job.now c.requires))

pub sides_traced-requires-clause-few : goal.sides_traced-requires-clause-few
sides_traced-requires-clause-few c =
    omega (
      arith,
      ap length (copied c),
      length-map c.args.job.now.list (λ i. tri_at c.args.s.now.tris i),
      few_listed c.args.s.now.tris c.args.job.now c.requires c.args.s.now.kept.few,
    )

pub sides_traced-requires-clause-counts : goal.sides_traced-requires-clause-counts
sides_traced-requires-clause-counts c = counts_within c.args.s.now.tris c.args.job.now c.requires 9437184 (omega arith) c.args.s.now.kept.few
