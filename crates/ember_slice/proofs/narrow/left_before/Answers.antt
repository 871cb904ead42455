use Rattle.ember_slice.proofs.Narrowing.{narrowed_until}
use Rattle.ember_slice.proofs.narrow.left_before.Goals as goal

pub returns : goal.returns
returns c =
    λ n at ends h. narrowed_until n at _ h c.args.interval.first c.args.interval.last c.tighter.result c.tighter.ensures ends
