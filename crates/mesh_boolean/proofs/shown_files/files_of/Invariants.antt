use Rattle.std.proofs.Common.{◌≡◌, map, take}
use Rattle.mesh_boolean.specs.ShownFiles.{file_of}
use Rattle.mesh_boolean.proofs.shown_files.files_of.Given as goal

abbrev pub invariant-loop-source : goal.invariant-loop-source
invariant-loop-source l = l.files.items ≡ map (file_of l.scene) (take l.source-index l.sources)
