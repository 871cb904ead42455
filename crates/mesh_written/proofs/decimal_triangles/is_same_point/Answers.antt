use Rattle.mesh_written.proofs.decimal_triangles.is_same_point.Goals as goal

pub returns : goal.returns
returns c = c.eq.ensures
