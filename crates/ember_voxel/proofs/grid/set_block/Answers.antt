use Rattle.std.proofs.Common.{◌≡◌, ◌+◌, ◌*◌, ◌&&◌, nat_le, nat_lt, if◌then◌else◌, ap, ◌∙◌, arith}
use Rattle.ember_voxel.specs.Grid.{char_at, between}
use Rattle.ember_voxel.proofs.Rows.{block_none, block_more}
use Rattle.ember_voxel.proofs.grid.set_block.Goals as goal

pub loop-l-init : goal.loop-l-init
loop-l-init c = block_none c.args.n c.args.block.now.z.from c.args.block.now.x c.args.block.now.y c.args.rows.now

pub loop-l-preserved : goal.loop-l-preserved
loop-l-preserved c =
    block_more c.args.n c.args.block.now.z.from c.loop-l.l c.args.block.now.x c.args.block.now.y c.args.rows.now
    c.loop-l.rows c.set_layer.new.rows (omega arith) c.loop-l.invariant c.set_layer.ensures.cells
    c.set_layer.ensures.feeds

pub returns-clause-cells : goal.returns-clause-cells
returns-clause-cells c = λ i k m a b d.
    let e : c.loop-l.l ≡ c.args.block.now.z.end = omega (arith, c.requires.z.order) in
    c.loop-l.invariant.cells i k m a b d ∙ ap (λ l. if (nat_le c.args.block.now.z.from m && nat_lt m l)
    && (between c.args.block.now.y k && between c.args.block.now.x i) then 49 else char_at c.args.n c.args.rows.now
    (m * c.args.n + k) i) e

pub returns-clause-feeds : goal.returns-clause-feeds
returns-clause-feeds c = c.loop-l.invariant.feeds
