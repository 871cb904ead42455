use Rattle.std.proofs.Common.{rules, arith}
use Rattle.std.proofs.lemmas.Grind.{common_steps}
use Rattle.mesh_gltf.specs.Primitives.{with_topology, with_primitive}
use Rattle.mesh_gltf.proofs.primitives.add_primitive.Goals as goal

pub returns-in-Some-None-clause-ok : goal.returns-in-Some-None-clause-ok
unfolding with_primitive with_topology
returns-in-Some-None-clause-ok c = first_of (search rules, grind (arith, common_steps))
