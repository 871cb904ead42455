use Rattle.std.proofs.Common.{refl}
use Rattle.mesh_triangles.proofs.LineSweeps.{went}
use Rattle.mesh_triangles.proofs.walk.Walk.go_to.Goals as goal

pub returns-clause-walked : goal.returns-clause-walked
returns-clause-walked c =
    λ line done before h. went line done before c.settle.new.self _ c.settle.new.boundaries.segments.items
    c.in_ok-settle.ensures.settled refl refl refl refl (c.in_ok-settle.ensures.walked line done before h)
