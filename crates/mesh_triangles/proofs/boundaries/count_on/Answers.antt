use Rattle.mesh_triangles.proofs.Lines.{one_more_on}
use Rattle.mesh_triangles.proofs.boundaries.count_on.Goals as goal

pub loop-count-preserved : goal.loop-count-preserved
loop-count-preserved c =
    one_more_on c.args.line c.args.segments.now c.loop-count.count c.index-segments-count.result c.loop-count-test.true
    c.index-segments-count.is c.if-s-line.false c.loop-count.invariant
