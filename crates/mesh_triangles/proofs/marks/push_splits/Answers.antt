use Rattle.mesh_triangles.proofs.MarkSums.{split_pushed}
use Rattle.mesh_triangles.proofs.marks.push_splits.Goals as goal

pub loop-s-preserved : goal.loop-s-preserved
loop-s-preserved c =
    λ line done h. split_pushed line done c.loop-s.marks.items c.push.new.self.items c.mark_at.result
    c.mark_at.ensures.what c.in_ok-push.ensures.items (c.loop-s.invariant line done h)
