use Rattle.std.proofs.Common.{refl, List, subst}
use Rattle.ember_box.specs.Near.{near}
use Rattle.ember_model.specs.declared.tri.Tri.{Tri}
use Rattle.ember_model.specs.Sides.{IsSides}
use Rattle.ember_trace.specs.Crossings.{AreRayCounts}
use Rattle.ember_trace.proofs.OneSides.{one_sides}
use Rattle.ember_trace.proofs.whole_rays.sides_whole.Goals as goal

pub returns-clause-ray_counts : goal.returns-clause-ray_counts
returns-clause-ray_counts c =
    subst (λ (ts : List Tri). AreRayCounts ts c.args.r.now c.sides_by_rays.result) c.items.ensures c.sides_by_rays.ensures.ray_counts

pub returns-clause-sides : goal.returns-clause-sides
returns-clause-sides c =
    let s = c.sides_by_rays.result in
    subst (λ (ts : List Tri). IsSides ts c.args.r.now s.before.counts s.after.counts) c.items.ensures c.sides_by_rays.ensures.sides

pub returns-clause-only : goal.returns-clause-only
returns-clause-only c = λ box r before after h.
    let s = c.args.s.now in let x = c.sides_by_rays.result in
    one_sides s.tris (near s.tris box) s.meshes box s.kept refl c.args.r.now r before after x.before.counts x.after.counts h (returns-clause-sides c)
