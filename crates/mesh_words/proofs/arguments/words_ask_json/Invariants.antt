use Rattle.std.proofs.Common.{◌≡◌, drop, map, string_bytes}
use Rattle.mesh_words.specs.Arguments.{words_ask_json}
use Rattle.mesh_words.proofs.arguments.words_ask_json.Given as goal

abbrev pub invariant-loop-word : goal.invariant-loop-word
invariant-loop-word l =
    words_ask_json (map string_bytes (drop l.word-index l.words)) ≡ words_ask_json (map string_bytes l.words)
