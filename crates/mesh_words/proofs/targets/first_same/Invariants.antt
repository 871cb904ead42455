use Rattle.std.proofs.Common.{◌≡◌, drop}
use Rattle.mesh_words.specs.Targets.{first_same}
use Rattle.mesh_words.proofs.targets.first_same.Given as goal

abbrev pub invariant-loop-number : goal.invariant-loop-number
invariant-loop-number l =
    first_same l.target l.number (drop l.number l.inputs) ≡ first_same l.target 0 l.inputs
