use Rattle.std.proofs.Common.{◌≡◌, ◌++◌, map, take}
use Rattle.ember_arrays.specs.Sources.{input_at}
use Rattle.ember_arrays.proofs.inputs.push_inputs.Given as goal

abbrev pub invariant-loop-place : goal.invariant-loop-place
invariant-loop-place l = l.inputs.items ≡ l.initial.inputs.items ++ map (input_at l.mesh) (take l.place-index l.places)
