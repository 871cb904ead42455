use Rattle.std.proofs.Common.{◌≡◌, ◌++◌, drop}
use Rattle.mesh_run.specs.Pages.{names_behind, title_of}
use Rattle.mesh_run.proofs.views.title_of.Given as goal

abbrev pub invariant-loop-name : goal.invariant-loop-name
invariant-loop-name l = l.title.items ++ names_behind (drop l.name-index l.others) ≡ title_of l.names
