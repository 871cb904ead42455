use Rattle.std.proofs.Common.{subst, to_z-of_z, true}
use Rattle.ember_slice.specs.Intervals.{AllOf}
use Rattle.ember_slice.proofs.Narrowing.{narrowed_nowhere}
use Rattle.ember_slice.proofs.narrow.narrowed.Goals as goal

pub returns-in-Everything : goal.returns-in-Everything
returns-in-Everything c =
    narrowed_nowhere c.args.support.now c.args.at c.args.p.now c.args.interval c.requires.ends
    (subst (λ at. AllOf c.args.support.now at c.args.p.now true) (to_z-of_z c.ranges.at) c.in-Everything.ensures)
