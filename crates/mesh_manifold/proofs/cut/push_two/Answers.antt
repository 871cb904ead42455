use Rattle.std.proofs.Common.{[], ◌∷◌}
use Rattle.mesh_manifold.specs.Cuts.{triangle}
use Rattle.mesh_manifold.proofs.Cuts.{put_after}
use Rattle.mesh_manifold.proofs.cut.push_two.Goals as goal

pub returns : goal.returns
returns c =
    let u = c.args.u.now in let m = c.args.m.now in let v = c.args.v.now in let w = c.args.w.now in
    put_after (triangle u m w ∷ []) (triangle m v w ∷ []) c.args.origin _ _ _ c.in_ok-push_one.ensures c.in_ok-push_one-2.ensures
