use Rattle.std.proofs.Common.{refl}
use Rattle.ember_leaf.proofs.cutters.add_cutter.Goals as goal

pub returns : goal.returns
returns g c = record { cutter = _; is = c.in_ok-push.ensures.items; tri = refl; role = refl }
