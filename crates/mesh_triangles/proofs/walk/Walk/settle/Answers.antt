use Rattle.std.proofs.Common.{refl}
use Rattle.mesh_triangles.proofs.LineSweeps.{settled}
use Rattle.mesh_triangles.proofs.walk.Walk.settle.Goals as goal

pub returns-clause-walked : goal.returns-clause-walked
returns-clause-walked c =
    λ line done before h. settled line done before c.args.self.now _ c.args.boundaries.now.segments.items
    c.end_stretch.new.segments.items c.in_ok-end_stretch.ensures refl refl c.in_ok-move_strands.ensures.emptied
    c.in_ok-move_strands.ensures.moved h
