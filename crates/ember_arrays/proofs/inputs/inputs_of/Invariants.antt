use Rattle.std.proofs.Common.{◌≡◌, take}
use Rattle.ember_arrays.specs.Sources.{inputs_from}
use Rattle.ember_arrays.proofs.inputs.inputs_of.Given as goal

abbrev pub invariant-loop-index : goal.invariant-loop-index
invariant-loop-index l = l.inputs.items ≡ inputs_from l.grid 1 (take l.index l.surfaces)
