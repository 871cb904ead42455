use Rattle.mesh_triangulate.proofs.ring.quadrangle_of.Goals as goal

pub returns : goal.returns
returns c =
    record { a = c.in_ok-a.ensures; b = c.in_ok-b.ensures; c = c.in_ok-c.ensures; d = c.in_ok-d.ensures }
