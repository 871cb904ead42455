use Rattle.std.proofs.Common.{◌+◌, ◌<◌, List, ◌++◌, sym, subst, drop, get_or, length, arith}
use Rattle.ember_pairs.specs.declared.pair.Pair.{Pair}
use Rattle.ember_pairs.specs.Pairs.{Completes, row}
use Rattle.ember_pairs.proofs.Rows.{row_more}
use Rattle.ember_pairs.proofs.meetings.push_row.Goals as goal

pub loop-b-preserved : goal.loop-b-preserved
loop-b-preserved c all later h =
    let ts = c.args.tris.now in let list = c.args.list.now in
    let i = get_or list c.args.a 0 in let b = c.loop-b.b in
    let below : b < length list = omega arith in
    subst (λ (out : List Pair). Completes ts all (row i (drop (b + 1) list) ++ later) out) (sym c.in_ok-push_if.ensures)
    (row_more ts list all later c.loop-b.out.items i b _ below c.in_ok-meet_in.ensures
    (c.loop-b.invariant all later h))
