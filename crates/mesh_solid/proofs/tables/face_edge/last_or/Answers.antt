use Rattle.mesh_solid.proofs.FaceLoops.{last_is, last_is_none}
use Rattle.mesh_solid.proofs.tables.face_edge.last_or.Goals as goal

pub returns-in-Some : goal.returns-in-Some
returns-in-Some c = last_is c.args.otherwise.now c.args.edges.now c.in-Some.last.now c.in-Some.ensures.value

pub returns-in-None : goal.returns-in-None
returns-in-None c = last_is_none c.args.otherwise.now c.args.edges.now c.in-None.ensures.value
