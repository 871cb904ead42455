use Rattle.std.proofs.Common.{◌≡◌, drop}
use Rattle.std.specs.List.{list_all}
use Rattle.mesh_shapes.specs.Texts.{is_within}
use Rattle.mesh_shapes.proofs.texts.are_within.Given as goal

abbrev pub invariant-loop-facet : goal.invariant-loop-facet
invariant-loop-facet l =
    list_all (is_within l.points) (drop l.facet-index l.facets) ≡ list_all (is_within l.points) l.facets
