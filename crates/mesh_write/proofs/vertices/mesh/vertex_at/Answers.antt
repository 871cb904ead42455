use Rattle.mesh_write.proofs.vertices.mesh.vertex_at.Goals as goal

pub returns-clause-points : goal.returns-clause-points
returns-clause-points c = c.in_ok-index.ensures.keys

pub returns-clause-index : goal.returns-clause-index
returns-clause-index c = c.in_ok-index.ensures.index
