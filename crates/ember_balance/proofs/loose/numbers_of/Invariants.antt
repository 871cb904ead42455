use Rattle.std.proofs.Common.{◌≡◌, map, take}
use Rattle.ember_model.specs.Meshes.{reversed, edges_in}
use Rattle.ember_balance.specs.Numbers.{edge_number}
use Rattle.ember_balance.proofs.loose.numbers_of.Given as goal

abbrev pub invariant-loop-t : goal.invariant-loop-t
invariant-loop-t l =
    (l.numbers.there.items ≡ map edge_number (edges_in (take l.t-index l.tris))) ×
    (l.numbers.back.items ≡ map edge_number (map reversed (edges_in (take l.t-index l.tris))))
