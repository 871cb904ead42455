use Rattle.mesh_triangles.proofs.MarkSums.{all_marked}
use Rattle.mesh_triangles.proofs.marks.put_marks.Goals as goal

pub returns : goal.returns
returns c =
    all_marked c.args.line c.args.segments.now c.loop-s.s-index c.loop-s.marks.items c.push_splits.new.marks.items
    c.sort_unstable_by_key.new.self.items c.loop-s-test.false c.sort_unstable_by_key.ensures.permutation
    c.in_ok-push_splits.ensures c.loop-s.invariant
