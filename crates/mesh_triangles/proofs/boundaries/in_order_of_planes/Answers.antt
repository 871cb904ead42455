use Rattle.mesh_triangles.proofs.Lines.{chains_in_order}
use Rattle.mesh_triangles.proofs.boundaries.in_order_of_planes.Goals as goal

pub returns : goal.returns
returns c =
    chains_in_order c.args.segments.items c.sort_unstable_by_key.new.self.items c.sort_unstable_by_key.ensures.permutation
