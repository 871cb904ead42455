use Rattle.std.proofs.Common.{◌≡◌, drop}
use Rattle.mesh_words.specs.Allowed.{first_beside}
use Rattle.mesh_words.proofs.allowed.first_beside.Given as goal

abbrev pub invariant-loop-argument : goal.invariant-loop-argument
invariant-loop-argument l =
    first_beside l.settings (drop l.argument-index l.arguments) ≡ first_beside l.settings l.arguments
