use Rattle.std.proofs.Common.{◌≡◌, ◌++◌, take, string_bytes}
use Rattle.mesh_file.specs.File.Reasons.{shown}
use Rattle.mesh_file.proofs.file.reason_parts.put_word.Given as goal

abbrev pub invariant-loop-byte : goal.invariant-loop-byte
invariant-loop-byte l = string_bytes l.text ≡ string_bytes l.fn.text ++ shown (take l.byte-index l.word)
