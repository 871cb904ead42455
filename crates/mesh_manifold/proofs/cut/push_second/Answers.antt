use Rattle.std.proofs.Common.{[], ◌∷◌}
use Rattle.mesh_manifold.specs.Cuts.{triangle, halves}
use Rattle.mesh_manifold.proofs.Cuts.{put_after}
use Rattle.mesh_manifold.proofs.cut.push_second.Goals as goal

pub returns : goal.returns
returns c =
    let es = c.args.edges.now.edges.keys in let t = c.args.t.now in let m = c.args.m.now in
    put_after (triangle t.b t.c m ∷ []) (halves es t.a t.b m) c.args.origin _ _ _ c.in_ok-push_one.ensures c.in_ok-push_halves.ensures
