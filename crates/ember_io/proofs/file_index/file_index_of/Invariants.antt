use Rattle.std.proofs.Common.{◌≡◌, drop}
use Rattle.ember_io.specs.Files.{named, first_of}
use Rattle.ember_io.proofs.file_index.file_index_of.Given as goal

abbrev pub invariant-loop-i : goal.invariant-loop-i
invariant-loop-i l = first_of (named l.files) l.name ≡ first_of (named (drop l.i l.files)) l.name
