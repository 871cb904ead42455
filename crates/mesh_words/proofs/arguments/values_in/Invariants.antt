use Rattle.std.proofs.Common.{◌≡◌, ◌++◌, drop}
use Rattle.mesh_words.specs.Arguments.{values_in}
use Rattle.mesh_words.proofs.arguments.values_in.Given as goal

abbrev pub invariant-loop-argument : goal.invariant-loop-argument
invariant-loop-argument l =
    l.values.items ++ values_in l.setting (drop l.argument-index l.arguments) ≡ values_in l.setting l.arguments
