use Rattle.std.proofs.Common.{ℕ, List, All, map, length, sym, ap, ◌∙◌, subst}
use Rattle.ember_model.specs.declared.tri.Tri.{Tri}
use Rattle.ember_box.specs.Boxes.{in_steps}
use Rattle.ember_trace.specs.Boxed.{AreSidesWithin}
use Rattle.ember_trace.specs.NearTriangles.{HasReferenceBeside, AreWithinBound, tri_of}
use Rattle.ember_trace.specs.Crossings.{AreTracedBeside}
use Rattle.ember_trace.proofs.BoxedRegions.{regions_lie_in}
use Rattle.ember_trace.proofs.OneSides.{balanced_sides}
use Rattle.ember_trace.proofs.NearTriangleLists.{facets_length}
use Rattle.ember_trace.proofs.sides.sides_traced_on.Goals as goal

pub returns-clause-before : goal.returns-clause-before
returns-clause-before g c =
    let e = ap (λ fs. length fs) c.as_slice.ensures.value
    ∙ facets_length c.args.near.now (in_steps g.W.Width.scale c.args.c.now) c.in_ok-near.near.items c.in_ok-near.ensures in
    subst (λ (n : ℕ). AreWithinBound n c.args.v.now.counts c.sides_beside.result.before.counts) e c.sides_beside.ensures.before

pub returns-clause-after : goal.returns-clause-after
returns-clause-after g c =
    let e = ap (λ fs. length fs) c.as_slice.ensures.value
    ∙ facets_length c.args.near.now (in_steps g.W.Width.scale c.args.c.now) c.in_ok-near.near.items c.in_ok-near.ensures in
    subst (λ (n : ℕ). AreWithinBound n c.args.v.now.counts c.sides_beside.result.after.counts) e c.sides_beside.ensures.after

pub returns-clause-traced : goal.returns-clause-traced
returns-clause-traced g c =
    record {
      near_triangles = c.in_ok-near.near.items;
      are_near = c.in_ok-near.ensures;
      traced = subst (λ fs. AreTracedBeside g.W.Width.fine (in_steps g.W.Width.scale c.args.c.now) fs c.args.v.now.counts c.args.r.now
          c.sides_beside.result) c.as_slice.ensures.value c.sides_beside.ensures.traced;
    }

pub returns-clause-sides : goal.returns-clause-sides
returns-clause-sides g c =
    let fs = c.in_ok-near.ensures in let s = c.sides_beside.result in
    let reference_sides = subst (λ gs. All (HasReferenceBeside g.W.Width.fine (in_steps g.W.Width.scale c.args.c.now)) gs) (sym c.as_slice.ensures.value) fs.reference_sides in
    subst (λ (ts : List Tri). AreSidesWithin g.W.Width.corner g.W.Width.fine ts (in_steps g.W.Width.scale c.args.c.now) c.args.v.now.counts c.args.r.now s)
    (ap (λ gs. map tri_of gs) c.as_slice.ensures.value ∙ fs.tris)
    (c.sides_beside.ensures.sides reference_sides)

pub returns-clause-region : goal.returns-clause-region
returns-clause-region g c = λ r. returns-clause-sides g c (regions_lie_in (in_steps g.W.Width.scale c.args.c.now) c.args.near.now r.tri r.index r.regions c.args.r.now r.are_regions r.here)

pub returns-clause-only : goal.returns-clause-only
returns-clause-only g c = λ r scene fits before after h.
    let near = c.args.near.now in let s = c.sides_beside.result in
    balanced_sides scene near fits.scene.balanced (in_steps g.W.Width.scale c.args.c.now) fits.near c.args.r.now r
    before after s.before.counts s.after.counts h (returns-clause-region g c r scene fits)
