use Rattle.std.proofs.Common.{arith}
use Rattle.mesh_number.proofs.Doublings.{power_by_shift, shifted_up, shifted_down}
use Rattle.mesh_number.proofs.number.binary_sizes.shifted.Goals as goal

pub overflow_add-result : goal.overflow_add-result
overflow_add-result c = let power = power_by_shift c.args.places c.min-places.result c.min-places.ensures in omega (arith, power.0, power.1)

pub returns-then-up-clause-value : goal.returns-then-up-clause-value
returns-then-up-clause-value c = rw c.if-up.true (shifted_up c.args.x c.args.places c.min-places.result c.requires c.min-places.ensures)

pub returns-else-up-clause-value : goal.returns-else-up-clause-value
returns-else-up-clause-value c = rw c.if-up.false (shifted_down c.args.x c.args.places c.min-places.result c.requires c.min-places.ensures)
