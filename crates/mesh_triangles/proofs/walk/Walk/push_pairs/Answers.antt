use Rattle.std.proofs.Common.{◌∷◌, [], sym, subst}
use Rattle.mesh_triangles.specs.Walks.{AddsStretch}
use Rattle.mesh_triangles.specs.declared.strand.Strand.TheVariants.{Over, Back}
use Rattle.mesh_triangles.proofs.Strands.{pair_stretch}
use Rattle.mesh_triangles.proofs.walk.Walk.push_pairs.Goals as goal

pub loop-plane-preserved : goal.loop-plane-preserved
loop-plane-preserved c =
    λ strands before h. let w = c.args.self.now in
    let middle = c.loop-plane.segments.items in let one = c.push.new.self.items in
    pair_stretch w _ strands before middle one c.push-in-loop-plane.new.self.items (c.loop-plane.invariant strands before h)
    (subst (AddsStretch w (Over _ ∷ []) middle) (sym c.in_ok-push.ensures.items) (c.segment.ensures middle))
    (subst (AddsStretch w (Back _ ∷ []) one) (sym c.in_ok-push-2.ensures.items) (c.segment-in-loop-plane.ensures one))
