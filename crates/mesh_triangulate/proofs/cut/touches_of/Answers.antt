use Rattle.std.proofs.Common.{[], ◌∷◌, ◌++◌}
use Rattle.std.proofs.lemmas.List.Elements.{All-same, All-push}
use Rattle.mesh_triangulate.specs.Cuts.{IsTouchOf}
use Rattle.mesh_triangulate.proofs.cut.touches_of.Goals as goal

pub loop-inside-preserved : goal.loop-inside-preserved
loop-inside-preserved c =
    let P = IsTouchOf c.args.boundary.now in
    All-same P c.push.new.self.items (c.loop-inside.touches.items ++ c.in-Some.touch ∷ []) c.in_ok-push.ensures.items
    (All-push P c.loop-inside.touches.items c.in-Some.touch c.loop-inside.invariant c.in-Some.ensures)
