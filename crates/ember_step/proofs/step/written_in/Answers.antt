use Rattle.std.proofs.Common.{◌≡◌, ◌<◌, All, subst, sym, ◌∙◌, ap, arith, List, length, IfOk}
use Rattle.std.proofs.lemmas.List.{length-map}
use Rattle.std.proofs.lemmas.Result.{IfOk-weaker}
use Rattle.ember_model.specs.declared.tri.Tri.{Tri}
use Rattle.ember_model.specs.Within.{IsTriWithin}
use Rattle.ember_model.specs.Meshes.{HasMesh}
use Rattle.ember_box.specs.Boxes.{in_steps}
use Rattle.ember_box.specs.Near.{near, listed, tri_at}
use Rattle.ember_box.specs.Reference.{FitsWithin}
use Rattle.ember_expr.specs.Formula.{formula_of}
use Rattle.ember_leaf.specs.Written.{IsWrittenIn}
use Rattle.ember_visit.specs.Jobs.{near_of}
use Rattle.ember_step.proofs.Outcomes.{written_by}
use Rattle.ember_visit.proofs.IndexLists.{all_listed, job_places, few_listed, counts_within}
use Rattle.ember_step.proofs.step.written_in.Goals as goal

pub listed_tris-requires : goal.listed_tris-requires
listed_tris-requires g c =
    subst (All (λ i. i < length c.args.tris.now)) (sym c.items.ensures) (job_places c.args.tris.now c.args.job.now c.requires.job)

pub leaf_faces_on-requires-clause-within : goal.leaf_faces_on-requires-clause-within
leaf_faces_on-requires-clause-within g c =
    let ts = c.args.tris.now in let copied = c.deref.ensures.value ∙ c.in_ok-near.ensures ∙ (λ i. listed ts (c.items.ensures i)) in
    subst (All (IsTriWithin g.W.Width.corner)) (sym copied) (all_listed (IsTriWithin g.W.Width.corner) ts c.args.job.now.list
    c.requires.scene.within (job_places ts c.args.job.now c.requires.job))

pub leaf_faces_on-requires-clause-numbered : goal.leaf_faces_on-requires-clause-numbered
leaf_faces_on-requires-clause-numbered g c =
    let ts = c.args.tris.now in let copied = c.deref.ensures.value ∙ c.in_ok-near.ensures ∙ (λ i. listed ts (c.items.ensures i)) in
    subst (All (HasMesh 64)) (sym copied) (all_listed (HasMesh 64) ts c.args.job.now.list
    c.requires.scene.numbered (job_places ts c.args.job.now c.requires.job))

pub leaf_faces_on-requires-clause-few : goal.leaf_faces_on-requires-clause-few
leaf_faces_on-requires-clause-few g c =
    let ts = c.args.tris.now in let copied = c.deref.ensures.value ∙ c.in_ok-near.ensures ∙ (λ i. listed ts (c.items.ensures i)) in
    omega (
      arith,
      ap length copied,
      length-map c.args.job.now.list (λ i. tri_at ts i),
      few_listed ts c.args.job.now c.requires.job c.requires.scene.few,
    )

pub leaf_faces_on-requires-clause-counts : goal.leaf_faces_on-requires-clause-counts
leaf_faces_on-requires-clause-counts g c = counts_within c.args.tris.now c.args.job.now c.requires.job 9437184 (omega arith) c.requires.scene.few

pub returns : goal.returns
returns g c =
    let ts = c.args.tris.now in let j = c.args.job.now in let f = formula_of c.args.e.now in
    let box = in_steps g.W.Width.scale j.cell in
    let copied = c.deref.ensures.value ∙ c.in_ok-near.ensures ∙ (λ i. listed ts (c.items.ensures i)) in
    IfOk-weaker c.leaf_faces_on.result (λ ks. (scene : List Tri) → FitsWithin g.W.Width.corner g.W.Width.fine scene (near_of ts j) box j.at.counts →
    IsWrittenIn scene f box (near_of ts j) ks) (λ ks. IsWrittenIn ts f box (near ts box) ks)
    (λ ks h. written_by g.W.Width.corner ts c.requires.scene j c.requires.job f ks h)
    (subst (λ us. IfOk c.leaf_faces_on.result (λ ks. (scene : List Tri) → FitsWithin g.W.Width.corner g.W.Width.fine scene us box j.at.counts →
    IsWrittenIn scene f box us ks)) copied c.leaf_faces_on.ensures.written)
