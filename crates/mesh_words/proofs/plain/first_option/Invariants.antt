use Rattle.std.proofs.Common.{◌≡◌, ◌+◌, drop, map, string_bytes}
use Rattle.mesh_words.specs.Plain.{first_option}
use Rattle.mesh_words.proofs.plain.first_option.Given as goal

abbrev pub invariant-loop-number : goal.invariant-loop-number
invariant-loop-number l =
    first_option (l.number + 1) (map string_bytes (drop l.number l.words)) ≡ first_option 1 (map string_bytes l.words)
