use Rattle.std.proofs.Common.{◌≡◌, map, take}
use Rattle.mesh_info.specs.Info.Corners.{triangle_over}
use Rattle.mesh_info.proofs.info.corners.triangles_of.Given as goal

abbrev pub invariant-loop-facet : goal.invariant-loop-facet
invariant-loop-facet l =
    l.triangles.items ≡ map (triangle_over l.places.items) (take l.facet-index l.surface.facets.items)
