use Rattle.std.proofs.Common.{◌≡◌, map, take}
use Rattle.mesh_place.specs.Images.{turned}
use Rattle.mesh_place.proofs.surface.image.facets_under.Given as goal

abbrev pub invariant-loop-facet : goal.invariant-loop-facet
invariant-loop-facet l = l.all.items ≡ map turned (take l.facet-index l.facets)
