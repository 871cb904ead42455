use Rattle.mesh_grid.proofs.MoveLists.{moves_more, moves_all}
use Rattle.mesh_grid.proofs.moves.greatest.greatest_moves.Goals as goal

pub loop-surface-preserved : goal.loop-surface-preserved
loop-surface-preserved c =
    moves_more c.args.grid.now c.args.surfaces.now c.loop-surface.surface-index c.surface-item.result
    c.loop-surface.moves.items _ c.in_ok-greatest_move.field-0 c.loop-surface-test.true c.loop-surface.invariant
    c.in_ok-push.ensures.items c.in_ok-greatest_move.ensures c.surface-item.is

pub returns : goal.returns
returns c = moves_all c.args.grid.now c.args.surfaces.now c.loop-surface.surface-index c.loop-surface.moves.items
    c.loop-surface.invariant c.loop-surface-test.false
