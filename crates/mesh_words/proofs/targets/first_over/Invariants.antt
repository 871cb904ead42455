use Rattle.std.proofs.Common.{◌≡◌, drop}
use Rattle.mesh_words.specs.Targets.{first_over}
use Rattle.mesh_words.proofs.targets.first_over.Given as goal

abbrev pub invariant-loop-target : goal.invariant-loop-target
invariant-loop-target l = first_over (drop l.target-index l.targets) l.inputs ≡ first_over l.targets l.inputs
