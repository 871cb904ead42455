use Rattle.std.proofs.Common.{◌≡◌, ◌++◌, drop}
use Rattle.mesh_words.specs.Arguments.{names_in}
use Rattle.mesh_words.proofs.arguments.names_in.Given as goal

abbrev pub invariant-loop-argument : goal.invariant-loop-argument
invariant-loop-argument l = l.names.items ++ names_in (drop l.argument-index l.arguments) ≡ names_in l.arguments
