use Rattle.std.proofs.Common.{◌≡◌}
use Rattle.ember_arrays.specs.Lines.{names_to}
use Rattle.ember_arrays.proofs.lines.names_of.Given as goal

abbrev pub invariant-loop-number : goal.invariant-loop-number
invariant-loop-number l = l.names.items ≡ names_to l.number
