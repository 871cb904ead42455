use Rattle.std.proofs.Common.{◌≡◌, drop}
use Rattle.mesh_words.specs.Targets.{first_twice}
use Rattle.mesh_words.proofs.targets.first_twice.Given as goal

abbrev pub invariant-loop-setting : goal.invariant-loop-setting
invariant-loop-setting l =
    first_twice (drop l.setting-index l.settings) l.arguments ≡ first_twice l.settings l.arguments
