use Rattle.mesh_triangles.proofs.MarkSums.{ends_pushed}
use Rattle.mesh_triangles.proofs.marks.push_ends.Goals as goal

pub returns : goal.returns
returns c =
    λ line done on h. let a = c.mark_at.ensures in let b = c.mark_at-2.ensures in
    ends_pushed line done c.args.segment.now c.args.marks.now.items c.push.new.self.items c.push-2.new.self.items
    c.mark_at.result c.mark_at-2.result on a.corner a.what b.corner b.what c.in_ok-push.ensures.items
    c.in_ok-push-2.ensures.items h
