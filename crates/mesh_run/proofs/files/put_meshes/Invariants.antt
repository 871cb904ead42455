use Rattle.std.proofs.Common.{◌≡◌, ◌++◌}
use Rattle.mesh_outside.specs.Target.Several.{names_and_bytes}
use Rattle.mesh_run.specs.Writes.{mesh_files}
use Rattle.mesh_run.proofs.files.put_meshes.Given as goal

abbrev pub invariant-loop-index : goal.invariant-loop-index
invariant-loop-index l = names_and_bytes l.files.items ≡ names_and_bytes l.initial.files.items ++ mesh_files l.folder l.tris l.index
