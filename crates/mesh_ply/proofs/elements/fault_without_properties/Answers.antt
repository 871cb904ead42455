use Rattle.std.proofs.Common.{rules, arith}
use Rattle.std.proofs.lemmas.Grind.{common_steps}
use Rattle.mesh_ply.proofs.elements.fault_without_properties.Goals as goal

pub returns-then-element-eq0 : goal.returns-then-element-eq0
returns-then-element-eq0 c = first_of (search rules, grind (arith, common_steps))

pub returns-in-Vertex : goal.returns-in-Vertex
returns-in-Vertex c = first_of (search rules, grind (arith, common_steps))

pub returns-in-Face : goal.returns-in-Face
returns-in-Face c = first_of (search rules, grind (arith, common_steps))

pub returns-in-Other : goal.returns-in-Other
returns-in-Other c = first_of (search rules, grind (arith, common_steps))
