use Rattle.std.proofs.Common.{◌<◌, List, sym, subst, length, arith}
use Rattle.ember_pairs.specs.declared.pair.Pair.{Pair}
use Rattle.ember_pairs.specs.Pairs.{Completes, pairs_of, AreMeetingPairs}
use Rattle.ember_pairs.proofs.Rows.{completes_none, rows_more, rows_done}
use Rattle.ember_pairs.proofs.meetings.tested_pairs.Goals as goal

pub loop-a-init : goal.loop-a-init
loop-a-init c =
    let all = pairs_of c.args.list.now in
    subst (λ (out : List Pair). Completes c.args.tris.now all all out) (sym c.new-out.ensures.items) (completes_none c.args.tris.now all)

pub loop-a-preserved : goal.loop-a-preserved
loop-a-preserved c =
    let below : c.loop-a.a < length c.args.list.now = omega arith in
    rows_more c.args.tris.now c.args.list.now (pairs_of c.args.list.now) c.loop-a.out.items c.push_row.new.out.items
    c.loop-a.a below c.in_ok-push_row.ensures c.loop-a.invariant

pub returns : goal.returns
returns c =
    subst (λ (ps : List Pair). AreMeetingPairs c.args.tris.now c.args.list.now ps) (sym c.of.ensures)
    (rows_done c.args.tris.now c.args.list.now c.loop-a.out.items c.loop-a.a c.loop-a-test.false c.loop-a.invariant)
