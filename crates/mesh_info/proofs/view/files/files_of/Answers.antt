use Rattle.std.proofs.Common.{ap, ◌∙◌}
use Rattle.mesh_read.specs.declared.surface.surface.Surface.{Surface}
use Rattle.mesh_info.proofs.FileNumbers.{one_file_more}
use Rattle.mesh_info.proofs.view.files.files_of.Goals as goal

pub loop-index-preserved : goal.loop-index-preserved
loop-index-preserved c =
    one_file_more c.args.surfaces.now c.loop-index.index c.index-surfaces-index.result c.deref.result.now
    c.loop-index.files.items c.put_number.new.files.items c.loop-index-test.true c.loop-index.invariant
    c.in_ok-put_number.ensures (c.deref.ensures.value ∙ ap (λ (s : Surface). s.facets.items) c.index-surfaces-index.is)
