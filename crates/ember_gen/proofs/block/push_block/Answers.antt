use Rattle.ember_gen.proofs.Boxes.{laid_down}
use Rattle.ember_gen.proofs.block.push_block.Goals as goal

pub returns : goal.returns
returns c =
    laid_down c.args.mesh c.args.block.now c.args.tris.now.items c.corner-c1.ensures c.corner-c2.ensures
    c.corner-c3.ensures c.corner-c4.ensures c.corner-c5.ensures c.corner-c6.ensures c.corner-c7.ensures
    c.corner-c8.ensures c.in_ok-push_quad.ensures c.in_ok-push_quad-2.ensures c.in_ok-push_quad-3.ensures
    c.in_ok-push_quad-4.ensures c.in_ok-push_quad-5.ensures c.in_ok-push_quad-6.ensures
