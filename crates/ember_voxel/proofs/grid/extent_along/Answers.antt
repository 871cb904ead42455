use Rattle.std.proofs.Common.{◌≡◌, ◌+◌, ◌*◌, ◌^◌, ◌<◌, ◌%◌, ◌&&◌, pos, ap, ◌∙◌, arith}
use Rattle.std.proofs.lemmas.Nat.{one_shl}
use Rattle.ember_box.specs.Boxes as boxes
use Rattle.ember_voxel.proofs.Ceilings.{box_begins_at, box_ends_at, further, in_order}
use Rattle.ember_voxel.proofs.grid.extent_along.Goals as goal

pub returns-clause-extent : goal.returns-clause-extent
returns-clause-extent c = record {
  order = in_order (2 ^ c.args.size) c.offset-low.result
      (c.offset-low.result + 1 * 2 ^ c.log.result % 18446744073709551616) c.cells_before.result c.cells_before-2.result
      (omega arith) c.cells_before.ensures.from c.cells_before-2.ensures.from;
  bound = c.cells_before-2.ensures.bound;
}

pub returns-clause-cells : goal.returns-clause-cells
returns-clause-cells c = λ i.
    let low = boxes.low c.args.c.now c.args.k in
    let log = c.args.c.now.log c.args.k in
    let n = i * 2 ^ c.args.size in
    let y = c.offset-low.result + 1 * 2 ^ c.log.result % 18446744073709551616 in
    let small : c.log.result < 64 = omega (arith, c.log.ensures, c.offset-low.ensures.log) in
    let side : 1 * 2 ^ c.log.result % 18446744073709551616 ≡ 2 ^ log = one_shl c.log.result 64 small ∙ ap (λ l. 2 ^ l) c.log.ensures in
    let from = c.cells_before.ensures.from i ∙ box_begins_at low c.offset-low.result n c.offset-low.ensures.value in
    let until = c.cells_before-2.ensures.below i
    ∙ box_ends_at low (pos (2 ^ log)) y n (further low c.offset-low.result
    (1 * 2 ^ c.log.result % 18446744073709551616) (2 ^ log) c.offset-low.ensures.value side) in
    λ t. from t && until t
