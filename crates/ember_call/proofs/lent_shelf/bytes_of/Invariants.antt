use Rattle.std.proofs.Common.{◌≡◌, drop}
use Rattle.ember_io.specs.Files.{first_of}
use Rattle.ember_call.specs.Lent.{named_bytes}
use Rattle.ember_call.proofs.lent_shelf.bytes_of.Given as goal

abbrev pub invariant-loop-file : goal.invariant-loop-file
invariant-loop-file l = first_of (named_bytes l.files) l.name ≡ first_of (named_bytes (drop l.file-index l.files)) l.name
