use Rattle.std.proofs.Common.{◌≡◌, drop, false}
use Rattle.mesh_words.specs.Targets.{has_second}
use Rattle.mesh_words.proofs.targets.has_second.Given as goal

abbrev pub invariant-loop-argument : goal.invariant-loop-argument
invariant-loop-argument l =
    has_second l.setting l.before (drop l.argument-index l.arguments) ≡ has_second l.setting false l.arguments
