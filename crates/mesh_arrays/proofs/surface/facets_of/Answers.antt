use Rattle.std.proofs.Common.{refl}
use Rattle.mesh_arrays.proofs.InOrder.{all_facets_within_more, all_within_more, facets_more, first_outside}
use Rattle.mesh_arrays.proofs.surface.facets_of.Goals as goal

pub returns-then-not-are_below-clause-fault : goal.returns-then-not-are_below-clause-fault
returns-then-not-are_below-clause-fault c =
    first_outside c.args.triangles.now c.args.count c.loop-index.index _ c.are_below.result c.loop-index-test.true
    c.loop-index.invariant.before c.are_below.ensures c.if-not-are_below.true

pub loop-index-preserved : goal.loop-index-preserved
loop-index-preserved c = record {
  facets = facets_more c.args.triangles.now c.loop-index.index _ c.loop-index.facets.items c.push.new.self.items _
      c.loop-index-test.true c.loop-index.invariant.facets c.in-Ok-push.ensures.items refl;
  within = all_facets_within_more c.args.count c.loop-index.facets.items c.push.new.self.items _ c.are_below.result
      c.loop-index.invariant.within c.in-Ok-push.ensures.items c.are_below.ensures c.if-not-are_below.false;
  before = all_within_more c.args.triangles.now c.args.count c.loop-index.index _ c.are_below.result c.loop-index-test.true
      c.loop-index.invariant.before c.are_below.ensures c.if-not-are_below.false;
}
