use Rattle.std.proofs.Common.{sym, ap, ◌∙◌}
use Rattle.mesh_triangles.specs.declared.strand.Strand.TheVariants.{Over, Back}
use Rattle.mesh_triangles.proofs.Strands.{over_stretch, back_stretch, strand_stretch}
use Rattle.mesh_triangles.proofs.walk.Walk.segment.Goals as goal

pub returns-in-Over : goal.returns-in-Over
returns-in-Over c =
    let s = c.segment_on.ensures in
    λ before. strand_stretch c.args.self.now _ c.args.strand.now before _ (ap Over s.plane ∙ sym c.in-Over.is)
    (over_stretch c.args.self.now before c.segment_on.result s.line s.start s.end)

pub returns-in-Back : goal.returns-in-Back
returns-in-Back c =
    let s = c.segment_on-in-Back.ensures in
    λ before. strand_stretch c.args.self.now _ c.args.strand.now before _ (ap Back s.plane ∙ sym c.in-Back.is)
    (back_stretch c.args.self.now before c.segment_on-in-Back.result s.line s.start s.end)
