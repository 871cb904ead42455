use Rattle.std.proofs.Common.{[], ◌∷◌, ◌++◌}
use Rattle.std.proofs.lemmas.List.Elements.{All-same, All-push}
use Rattle.mesh_triangulate.specs.Corners.{HasCornersOf}
use Rattle.mesh_triangulate.proofs.cut.named.Goals as goal

pub loop-triangle-preserved : goal.loop-triangle-preserved
loop-triangle-preserved c =
    let P = HasCornersOf c.args.boundary.now in
    All-same P c.push.new.self.items (c.loop-triangle.named.items ++ c.in-Some.corners ∷ []) c.in_ok-push.ensures.items
    (All-push P c.loop-triangle.named.items c.in-Some.corners c.loop-triangle.invariant c.in-Some.ensures)
