use Rattle.std.proofs.Common.{◌≡◌, length, arith}
use Rattle.ember_voxel.proofs.GridTexts.{parts_make_text}
use Rattle.ember_voxel.proofs.grid.grid_text.Goals as goal

pub returns : goal.returns
returns c =
    let begin : c.len-begin.result ≡ length c.in_ok-text.text.items = omega (arith, c.len-begin.ensures, c.in_ok-text.text.ok) in
    let whole : c.put_rows.new.text.len ≡ length c.put_rows.new.text.items = omega (arith, c.put_rows.new.text.ok) in
    parts_make_text c.args.size c.cells_along-n.result c.len-begin.result c.put_rows.new.text.len
    c.count_ones-ones.result c.args.fills.now c.in_ok-text.text.items c.put_rows.new.text.items c.deref_mut.result.now
    c.set_fills.new.rows c.deref.result.now c.put_end.new.text.items c.cells_along-n.ensures.value
    c.in_ok-text.ensures c.in_ok-put_rows.ensures c.deref_mut.ensures.value begin whole c.set_fills.ensures.len
    c.set_fills.ensures.cells c.set_fills.ensures.feeds c.deref.ensures.value c.count_ones-ones.ensures
    c.in_ok-put_end.ensures
