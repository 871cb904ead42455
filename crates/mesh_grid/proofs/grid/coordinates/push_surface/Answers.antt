use Rattle.mesh_grid.proofs.Lists.{corners_added_if}
use Rattle.mesh_grid.proofs.grid.coordinates.push_surface.Goals as goal

pub returns : goal.returns
returns c =
    let marks = rw (c.deref.ensures.value, c.deref-2.ensures.value) at c.push_marked.ensures in
    corners_added_if c.push_marked.result c.args.surface.now c.in_ok-marks.marks.items c.args.lists.now
    c.push_marked.new.lists c.in_ok-marks.ensures.marks marks
