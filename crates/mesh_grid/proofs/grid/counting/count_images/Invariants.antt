use Rattle.std.proofs.Common.{◌≡◌, ◌≤◌, length, take}
use Rattle.mesh_grid.specs.Grid.Corners.{corner_at}
use Rattle.mesh_grid.specs.Grid.Images.{images}
use Rattle.mesh_grid.proofs.grid.counting.count_images.Given as goal

abbrev pub invariant-loop-facet : goal.invariant-loop-facet
invariant-loop-facet l =
    (l.count ≡ length (images (corner_at l.grid l.surface.vertices.items) 0 (take l.facet-index l.surface.facets.items))) × (l.count ≤ l.facet-index)
