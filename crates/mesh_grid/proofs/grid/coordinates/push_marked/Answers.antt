use Rattle.mesh_grid.proofs.Lists.{appended_if}
use Rattle.mesh_grid.proofs.grid.coordinates.push_marked.Goals as goal

pub loop-index-preserved : goal.loop-index-preserved
loop-index-preserved c =
    appended_if c.args.marks.now c.args.vertices.now c.loop-index.index c.index-vertices-index.result c.args.lists.now
    c.loop-index.lists c.push_if.new.lists c.requires c.loop-index-test.true c.index-vertices-index.is
    c.loop-index.invariant c.in_ok-push_if.ensures
