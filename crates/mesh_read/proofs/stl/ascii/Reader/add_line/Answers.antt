use Rattle.std.proofs.Common.{rules, arith}
use Rattle.std.proofs.lemmas.Grind.{common_steps}
use Rattle.mesh_read.proofs.stl.ascii.Reader.add_line.Goals as goal

pub returns-in_default-clause-ok : goal.returns-in_default-clause-ok
returns-in_default-clause-ok c = first_of (search rules, grind (arith, common_steps))

pub returns-in_default-clause-surface : goal.returns-in_default-clause-surface
returns-in_default-clause-surface c = first_of (search rules, grind (arith, common_steps))

pub returns-in_default-clause-count : goal.returns-in_default-clause-count
returns-in_default-clause-count c = first_of (search rules, grind (arith, common_steps))

pub close_facet-requires-clause-few : goal.close_facet-requires-clause-few
close_facet-requires-clause-few c = first_of (search rules, grind (arith, common_steps))

pub close_facet-requires-clause-surface : goal.close_facet-requires-clause-surface
close_facet-requires-clause-surface c = first_of (search rules, grind (arith, common_steps))

pub returns-in-Facet-clause-ok : goal.returns-in-Facet-clause-ok
returns-in-Facet-clause-ok c = first_of (search rules, grind (arith, common_steps))

pub returns-in-Facet-clause-surface : goal.returns-in-Facet-clause-surface
returns-in-Facet-clause-surface c = first_of (search rules, grind (arith, common_steps))

pub returns-in-Facet-clause-count : goal.returns-in-Facet-clause-count
returns-in-Facet-clause-count c = first_of (search rules, grind (arith, common_steps))

pub returns-in-Vertex-clause-ok : goal.returns-in-Vertex-clause-ok
returns-in-Vertex-clause-ok c = first_of (search rules, grind (arith, common_steps))

pub returns-in-Vertex-clause-fault : goal.returns-in-Vertex-clause-fault
returns-in-Vertex-clause-fault c = first_of (search rules, grind (arith, common_steps))

pub returns-in-Vertex-clause-surface : goal.returns-in-Vertex-clause-surface
returns-in-Vertex-clause-surface c = first_of (search rules, grind (arith, common_steps))

pub returns-in-Vertex-clause-count : goal.returns-in-Vertex-clause-count
returns-in-Vertex-clause-count c = first_of (search rules, grind (arith, common_steps))

pub returns-in-EndFacet-clause-ok : goal.returns-in-EndFacet-clause-ok
returns-in-EndFacet-clause-ok c = first_of (search rules, grind (arith, common_steps))

pub returns-in-EndFacet-clause-fault : goal.returns-in-EndFacet-clause-fault
returns-in-EndFacet-clause-fault c = first_of (search rules, grind (arith, common_steps))

pub returns-in-EndFacet-clause-surface : goal.returns-in-EndFacet-clause-surface
returns-in-EndFacet-clause-surface c = first_of (search rules, grind (arith, common_steps))

pub returns-in-EndFacet-clause-count : goal.returns-in-EndFacet-clause-count
returns-in-EndFacet-clause-count c = first_of (search rules, grind (arith, common_steps))

pub returns-in-Passed-clause-ok : goal.returns-in-Passed-clause-ok
returns-in-Passed-clause-ok c = first_of (search rules, grind (arith, common_steps))

pub returns-in-Passed-clause-surface : goal.returns-in-Passed-clause-surface
returns-in-Passed-clause-surface c = first_of (search rules, grind (arith, common_steps))

pub returns-in-Passed-clause-count : goal.returns-in-Passed-clause-count
returns-in-Passed-clause-count c = first_of (search rules, grind (arith, common_steps))

pub returns-in-Unknown-clause-fault : goal.returns-in-Unknown-clause-fault
returns-in-Unknown-clause-fault c = first_of (search rules, grind (arith, common_steps))
