use Rattle.std.proofs.Common.{◌≡◌, ◌++◌, drop, map, string_bytes}
use Rattle.mesh_words.specs.Plain.{plain_names}
use Rattle.mesh_words.proofs.plain.plain_names.Given as goal

abbrev pub invariant-loop-word : goal.invariant-loop-word
invariant-loop-word l =
    l.names.items ++ plain_names (map string_bytes (drop l.word-index l.words)) ≡ plain_names (map string_bytes l.words)
