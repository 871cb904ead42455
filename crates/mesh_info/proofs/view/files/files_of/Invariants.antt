use Rattle.std.proofs.Common.{◌≡◌, take}
use Rattle.mesh_info.specs.View.Views.{files_from}
use Rattle.mesh_info.proofs.view.files.files_of.Given as goal

abbrev pub invariant-loop-index : goal.invariant-loop-index
invariant-loop-index l = l.files.items ≡ files_from 1 (take l.index l.surfaces)
