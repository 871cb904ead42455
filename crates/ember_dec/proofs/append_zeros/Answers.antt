use Rattle.std.proofs.Common.{◌≡◌, ◌∙◌, ◌-◌, ◌+◌, suc, arith}
use Rattle.ember_dec.proofs.Capped.{zero_more}
use Rattle.ember_dec.proofs.append_zeros.Goals as goal

pub loop-turn-preserved : goal.loop-turn-preserved
loop-turn-preserved c =
    let left : c.args.count - c.loop-turn._turn ≡ suc (c.args.count - (c.loop-turn._turn + 1)) = omega arith in record {
      same = rw c.min-value.ensures ((rw left at c.loop-turn.invariant.same) ∙ zero_more 2048 c.loop-turn.value (c.args.count - (c.loop-turn._turn + 1)));
      small = omega arith;
    }
