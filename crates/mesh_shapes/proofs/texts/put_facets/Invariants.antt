use Rattle.std.proofs.Common.{◌≡◌, ◌++◌, map, take, flat_map}
use Rattle.mesh_write.specs.Text.Lines.{listed_face}
use Rattle.mesh_shapes.specs.Texts.{triangle_of}
use Rattle.mesh_shapes.proofs.texts.put_facets.Given as goal

abbrev pub invariant-loop-facet : goal.invariant-loop-facet
invariant-loop-facet l =
    l.out.items ≡ l.fn.out.items ++ flat_map listed_face (map triangle_of (take l.facet-index l.facets))
