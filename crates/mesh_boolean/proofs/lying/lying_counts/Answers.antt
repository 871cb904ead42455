use Rattle.std.proofs.Common.{◌≡◌, ◌+◌, ◌∙◌, ◌++◌, ◌∷◌, [], ℕ, List, length, nat_eq, sym, ap, subst, arith}
use Rattle.std.specs.List.{All, AllZip, range_with_len}
use Rattle.std.proofs.lemmas.List.Elements.{All-filter}
use Rattle.std.proofs.lemmas.List.Sums.{length-filter, count_by-le-length}
use Rattle.ember_algebra.proofs.Lists.{AllZip-push, range_more}
use Rattle.ember_model.specs.declared.plane.Plane.{Plane}
use Rattle.ember_model.specs.declared.tri.Tri.{Tri}
use Rattle.ember_model.specs.Meshes.{of_mesh}
use Rattle.ember_model.specs.Valid.{IsValidPlane, IsValidTri}
use Rattle.mesh_point.specs.declared.space_point.SpacePoint.{SpacePoint}
use Rattle.mesh_certificate.specs.declared.certificate.triangle.Triangle.{Triangle}
use Rattle.mesh_sources.specs.Sources.{IsSourceCount}
use Rattle.mesh_boolean.specs.Lying.{IsLyingCount}
use Rattle.mesh_boolean.proofs.lying.lying_counts.Goals as goal

pub source_count-requires-clause-few : goal.source_count-requires-clause-few
source_count-requires-clause-few c =
    let ts = c.args.scene.now.tris in
    let number = c.loop-index.index + 1 in
    let own : c.deref.result.now ≡ of_mesh number ts = c.deref.ensures.value ∙ c.in_ok-own.ensures ∙ ap (of_mesh number) c.items.ensures in
    omega (
      arith,
      ap length own,
      length-filter (λ (t : Tri). nat_eq t.mesh number) ts,
      count_by-le-length (λ (t : Tri). nat_eq t.mesh number) ts,
      c.args.scene.now.kept.few,
    )

pub source_count-requires-clause-scene : goal.source_count-requires-clause-scene
source_count-requires-clause-scene c =
    let ts = c.args.scene.now.tris in
    let number = c.loop-index.index + 1 in
    let own : c.deref.result.now ≡ of_mesh number ts = c.deref.ensures.value ∙ c.in_ok-own.ensures ∙ ap (of_mesh number) c.items.ensures in
    subst (All IsValidTri) (sym own) (All-filter (λ (t : Tri). nat_eq t.mesh number) IsValidTri ts c.args.scene.now.kept.valid)

pub source_count-requires-clause-planes : goal.source_count-requires-clause-planes
source_count-requires-clause-planes c = subst (All IsValidPlane) (sym c.deref-in-loop-index-2.ensures.value) c.requires

pub loop-index-preserved : goal.loop-index-preserved
loop-index-preserved c =
    let ts = c.args.scene.now.tris in
    let solid = c.args.solid.now in
    let i = c.loop-index.index in
    let counts = c.loop-index.counts.items in
    let R = λ (index count : ℕ). IsLyingCount ts solid (index + 1) count in
    let own : c.deref.result.now ≡ of_mesh (i + 1) ts = c.deref.ensures.value ∙ c.in_ok-own.ensures ∙ ap (of_mesh (i + 1)) c.items.ensures in
    let ps = c.deref-in-loop-index.result.now in
    let planes = c.deref-in-loop-index-2.result.now in
    let us = c.deref-in-loop-index-3.result.now in
    let count = c.in_ok-count.count in
    let of_own = subst (λ (own : List Tri). IsSourceCount own ps planes us count) own c.in_ok-count.ensures in
    let of_points = subst (λ (ps : List SpacePoint). IsSourceCount (of_mesh (i + 1) ts) ps planes us count)
    c.deref-in-loop-index.ensures.value of_own in
    let of_planes = subst (λ (planes : List Plane). IsSourceCount (of_mesh (i + 1) ts) solid.corners.items planes us count)
    c.deref-in-loop-index-2.ensures.value of_points in
    let is = subst (λ (us : List Triangle). IsSourceCount (of_mesh (i + 1) ts) solid.corners.items solid.planes.items us count)
    c.deref-in-loop-index-3.ensures.value of_planes in
    subst (λ (is : List ℕ). AllZip R is c.push.new.self.items) (sym (range_more i))
    (subst (λ (cs : List ℕ). AllZip R (range_with_len 0 i ++ i ∷ []) cs) (sym c.in_ok-push.ensures.items)
    (AllZip-push R (range_with_len 0 i) counts i c.in_ok-count.count c.loop-index.invariant is))
