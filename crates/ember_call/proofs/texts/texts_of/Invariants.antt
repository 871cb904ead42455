use Rattle.std.proofs.Common.{◌≡◌, map, take, string_bytes}
use Rattle.ember_call.specs.Lent.{word_bytes}
use Rattle.ember_call.proofs.texts.texts_of.Given as goal

abbrev pub invariant-loop-word : goal.invariant-loop-word
invariant-loop-word l = map string_bytes l.texts.items ≡ word_bytes (take l.word-index l.words)
