use Rattle.std.proofs.Common.{◌≡◌, drop}
use Rattle.ember_io.specs.Files.{first_of}
use Rattle.mesh_outside.specs.Target.Several.{names_and_bytes}
use Rattle.ember_call.proofs.taken_files.index_of.Given as goal

abbrev pub invariant-loop-i : goal.invariant-loop-i
invariant-loop-i l = first_of (names_and_bytes l.files) l.name ≡ first_of (names_and_bytes (drop l.i l.files)) l.name
