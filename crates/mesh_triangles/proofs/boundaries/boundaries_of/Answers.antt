use Rattle.mesh_triangles.proofs.Lines.{next_line, last_line}
use Rattle.mesh_triangles.proofs.boundaries.boundaries_of.Goals as goal

pub loop-first-preserved : goal.loop-first-preserved
loop-first-preserved c =
    let split = c.split_at in
    next_line c.args.by_line.now c.loop-first.boundaries.segments.items c.push_line.new.boundaries.segments.items
    c.loop-first.rest.now split.result.0.now split.result.1.now split.ensures.by_index.0 c.in_ok-push_line.ensures
    c.loop-first.invariant

pub returns : goal.returns
returns c =
    last_line c.args.by_line.now c.loop-first.boundaries.segments.items c.loop-first.rest.now c.in_default.ensures.cases c.loop-first.invariant
