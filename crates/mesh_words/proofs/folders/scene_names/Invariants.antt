use Rattle.std.proofs.Common.{◌≡◌}
use Rattle.mesh_words.specs.Folders.{mesh_names}
use Rattle.mesh_words.proofs.folders.scene_names.Given as goal

abbrev pub invariant-loop-before : goal.invariant-loop-before
invariant-loop-before l = l.names.items ≡ mesh_names l.folder l.before
