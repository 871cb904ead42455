use Rattle.std.proofs.Common.{◌≡◌, ◌+◌, ◌*◌, ◌&&◌, ◌==◌, nat_le, nat_lt, if◌then◌else◌, ap, ◌∙◌, arith}
use Rattle.ember_voxel.specs.Grid.{char_at, between}
use Rattle.ember_voxel.proofs.Rows.{layer_none, layer_more}
use Rattle.ember_voxel.proofs.grid.set_layer.Goals as goal

pub loop-j-init : goal.loop-j-init
loop-j-init c = layer_none c.args.n c.args.l c.args.y.now.from c.args.x.now c.args.rows.now

pub loop-j-preserved : goal.loop-j-preserved
loop-j-preserved c =
    layer_more c.args.n c.args.l c.args.y.now.from c.loop-j.j c.row_of.result c.args.x.now c.args.rows.now c.loop-j.rows
    c.set_row.new.rows c.row_of.ensures.value (omega arith) (omega (arith, c.requires.y.bound)) c.loop-j.invariant
    c.set_row.ensures.cells c.set_row.ensures.feeds

pub returns-clause-cells : goal.returns-clause-cells
returns-clause-cells c = λ i k m a b d.
    let e : c.loop-j.j ≡ c.args.y.now.end = omega (arith, c.requires.y.order) in
    c.loop-j.invariant.cells i k m a b d ∙ ap (λ j. if m == c.args.l
    && ((nat_le c.args.y.now.from k && nat_lt k j) && between c.args.x.now i) then 49 else char_at c.args.n
    c.args.rows.now (m * c.args.n + k) i) e

pub returns-clause-feeds : goal.returns-clause-feeds
returns-clause-feeds c = c.loop-j.invariant.feeds
