use Rattle.std.proofs.Common.{take}
use Rattle.std.specs.List.{All}
use Rattle.mesh_grid.specs.Grid.Marks.{indices_in, HasMarked, HasThreeCorners}
use Rattle.mesh_grid.proofs.grid.marks.mark_all.Given as goal

abbrev pub invariant-loop-facet : goal.invariant-loop-facet
invariant-loop-facet l = record {
  marks : HasMarked l.fn.marks (indices_in (take l.facet-index l.facets)) l.marks;
  three : All HasThreeCorners (take l.facet-index l.facets);
}
