use Rattle.std.proofs.Common.{arith}
use Rattle.mesh_grid.proofs.EdgePlaces.{none_has_more, none_has_all}
use Rattle.mesh_grid.proofs.grid.places.place_of_edge.Goals as goal

pub loop-index-preserved : goal.loop-index-preserved
loop-index-preserved c = none_has_more (record { from = c.args.from.now; to = c.args.to.now }) c.args.tris.now
    c.loop-index.index _ c.has_edge.result (omega arith) c.loop-index.invariant c.has_edge.ensures c.if-has_edge.false

pub returns : goal.returns
returns c = none_has_all (record { from = c.args.from.now; to = c.args.to.now }) c.args.tris.now c.loop-index.index (omega arith) c.loop-index.invariant
