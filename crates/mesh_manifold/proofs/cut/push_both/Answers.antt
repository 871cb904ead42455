use Rattle.mesh_manifold.specs.Cuts.{halves}
use Rattle.mesh_manifold.proofs.Cuts.{put_after}
use Rattle.mesh_manifold.proofs.cut.push_both.Goals as goal

pub returns : goal.returns
returns c =
    let es = c.args.edges.now.edges.keys in let t = c.args.t.now in let m = c.args.m.now in
    put_after (halves es t.a t.b m) (halves es t.c t.a m) c.args.origin _ _ _ c.in_ok-push_halves.ensures c.in_ok-push_halves-2.ensures
