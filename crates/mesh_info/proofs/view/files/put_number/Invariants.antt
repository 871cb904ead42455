use Rattle.std.proofs.Common.{◌≡◌, ◌++◌, map, take}
use Rattle.mesh_info.specs.View.Views.{of_file}
use Rattle.mesh_info.proofs.view.files.put_number.Given as goal

abbrev pub invariant-loop-facet : goal.invariant-loop-facet
invariant-loop-facet l = l.files.items ≡ l.initial.files.items ++ map (of_file l.number) (take l._facet-index l.facets)
