use Rattle.std.proofs.Common.{sym}
use Rattle.mesh_arrays.proofs.InOrder.{first_not_finite}
use Rattle.mesh_arrays.proofs.surface.vertices_of.Goals as goal

pub returns-in_default-vertex_at-clause-fault : goal.returns-in_default-vertex_at-clause-fault
returns-in_default-vertex_at-clause-fault c =
    first_not_finite c.args.vertices.now c.loop-index.index _ c.loop-index.found.items c.loop-index-test.true
    c.loop-index.invariant (sym c.in_default-vertex_at.ensures)
