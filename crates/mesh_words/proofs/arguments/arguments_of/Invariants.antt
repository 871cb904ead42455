use Rattle.std.proofs.Common.{◌≡◌, ◌+◌, None, drop, map, string_bytes}
use Rattle.mesh_words.specs.Arguments.{arguments_from}
use Rattle.mesh_words.proofs.WordArguments.{after}
use Rattle.mesh_words.proofs.arguments.arguments_of.Given as goal

abbrev pub invariant-loop-number : goal.invariant-loop-number
invariant-loop-number l =
    after l.arguments.items (arguments_from (l.number + 1) l.waits (map string_bytes (drop l.number l.words)))
    ≡ arguments_from 1 None (map string_bytes l.words)
