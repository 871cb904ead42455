use Rattle.std.proofs.Common.{refl, sym}
use Rattle.mesh_triangles.proofs.walk.Walk.pass.Goals as goal

pub returns : goal.returns
returns c =
    λ line done before h. c.change.ensures line done before c.go_to.new.boundaries.segments.items c.args.mark.now
    (c.in_ok-go_to.ensures.walked line done before h) (sym c.in_ok-go_to.ensures.here) refl
