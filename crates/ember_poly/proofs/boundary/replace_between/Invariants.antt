use Rattle.std.proofs.Common.{◌≡◌}
use Rattle.ember_poly.specs.Boundaries.{replace_between}
use Rattle.ember_poly.proofs.boundary.replace_between.Given as goal

abbrev pub invariant-loop : goal.invariant-loop
invariant-loop g l = l.items.items ≡ replace_between l.from l.counter l.fn.item l.fn.items.items
