use Rattle.std.proofs.Common.{◌≡◌, drop, map, string_bytes}
use Rattle.std.specs.List.{list_any}
use Rattle.mesh_words.specs.Arguments.{is_help}
use Rattle.mesh_words.proofs.plain.are_for_help.Given as goal

abbrev pub invariant-loop-word : goal.invariant-loop-word
invariant-loop-word l =
    list_any is_help (map string_bytes (drop l.word-index l.words)) ≡ list_any is_help (map string_bytes l.words)
