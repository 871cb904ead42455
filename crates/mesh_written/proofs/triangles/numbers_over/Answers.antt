use Rattle.std.proofs.Common.{[], get_or, refl, ap, ◌∙◌}
use Rattle.mesh_written.specs.Triangles.{triangle_at, vanishes}
use Rattle.mesh_written.proofs.KeptNumbers.{one_number_more}
use Rattle.mesh_written.proofs.triangles.numbers_over.Goals as goal

pub loop-index-preserved : goal.loop-index-preserved
loop-index-preserved c =
    one_number_more c.args.points.now c.args.triangles.now c.args.numbers.now c.loop-index.index
    c.index-triangles-index.result 0 (get_or c.args.numbers.now c.loop-index.index 0) c.vanishes-is_gone.result c.loop-index.kept.items
    c.push_number.new.kept.items c.loop-index-test.true c.requires.one_each refl
    (c.vanishes-is_gone.ensures ∙ ap vanishes (c.triangle_at.ensures ∙ ap (triangle_at [] c.args.points.now) c.index-triangles-index.is))
    c.loop-index.invariant c.in_ok-push_number.ensures
