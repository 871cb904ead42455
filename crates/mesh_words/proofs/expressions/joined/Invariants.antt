use Rattle.std.proofs.Common.{◌≡◌, string_bytes}
use Rattle.mesh_words.specs.Values.{joined}
use Rattle.mesh_words.proofs.expressions.joined.Given as goal

abbrev pub invariant-loop-before : goal.invariant-loop-before
invariant-loop-before l = string_bytes l.text ≡ joined l.operator l.before
