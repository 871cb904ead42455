use Rattle.mesh_triangulate.proofs.ring.better_halves.Goals as goal

pub returns : goal.returns
returns c = c.halves.ensures
