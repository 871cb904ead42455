use Rattle.std.proofs.Common.{take}
use Rattle.mesh_grid.specs.Grid.Lists.{HasAppended, marked}
use Rattle.mesh_grid.proofs.grid.coordinates.push_marked.Given as goal

abbrev pub invariant-loop-index : goal.invariant-loop-index
invariant-loop-index l = HasAppended l.fn.lists (marked (take l.index l.marks) (take l.index l.vertices)) l.lists
