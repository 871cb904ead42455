use Rattle.std.proofs.Common.{take}
use Rattle.std.specs.List.{All}
use Rattle.mesh_boolean.specs.Files.{IsSmall}
use Rattle.mesh_scene_tests.proofs.files.are_small.Given as goal

abbrev pub invariant-loop-file : goal.invariant-loop-file
invariant-loop-file l = All IsSmall (take l.file-index l.files)
