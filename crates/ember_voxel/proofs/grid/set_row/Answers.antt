use Rattle.std.proofs.Common.{◌≡◌, ◌&&◌, ◌==◌, nat_le, nat_lt, if◌then◌else◌, ap, ◌∙◌, arith}
use Rattle.ember_voxel.specs.Grid.{char_at}
use Rattle.ember_voxel.proofs.Rows.{row_none, row_more}
use Rattle.ember_voxel.proofs.grid.set_row.Goals as goal

pub loop-i-init : goal.loop-i-init
loop-i-init c = row_none c.args.n c.args.r c.args.x.now.from c.args.rows.now

pub loop-i-preserved : goal.loop-i-preserved
loop-i-preserved c =
    row_more c.args.n c.args.r c.args.x.now.from c.loop-i.i c.row_start-start.result c.args.rows.now c.loop-i.rows
    c.row_start-start.ensures.value (omega arith) (omega (arith, c.requires.x.bound))
    (omega (arith, c.row_start-start.ensures.bound, c.requires.x.bound, c.requires.size)) c.loop-i.invariant

pub returns-clause-cells : goal.returns-clause-cells
returns-clause-cells c = λ q k l.
    let e : c.loop-i.i ≡ c.args.x.now.end = omega (arith, c.requires.x.order) in
    c.loop-i.invariant.cells q k l ∙ ap (λ i. if q == c.args.r
    && (nat_le c.args.x.now.from k && nat_lt k i) then 49 else char_at c.args.n c.args.rows.now q k) e

pub returns-clause-feeds : goal.returns-clause-feeds
returns-clause-feeds c = c.loop-i.invariant.feeds
