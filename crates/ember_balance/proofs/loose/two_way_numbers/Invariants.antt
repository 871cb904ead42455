use Rattle.std.proofs.Common.{◌≡◌, map, take}
use Rattle.ember_model.specs.Meshes.{edges_in}
use Rattle.ember_balance.specs.Numbers.{two_way_number}
use Rattle.ember_balance.proofs.loose.two_way_numbers.Given as goal

abbrev pub invariant-loop-t : goal.invariant-loop-t
invariant-loop-t l = l.numbers.items ≡ map two_way_number (edges_in (take l.t-index l.tris))
