use Rattle.std.proofs.Common.{◌≡◌, ◌++◌}
use Rattle.mesh_place.specs.Shapes.{first_sides, first_caps}
use Rattle.mesh_place.proofs.shapes.cylinders.cylinder_facets.Given as goal

abbrev pub invariant-loop-i : goal.invariant-loop-i
invariant-loop-i l = l.facets.items ≡ first_sides l.sides l.i

abbrev pub invariant-loop-i-2 : goal.invariant-loop-i-2
invariant-loop-i-2 l = l.facets.items ≡ first_sides l.sides l.sides ++ first_caps l.sides l.i
