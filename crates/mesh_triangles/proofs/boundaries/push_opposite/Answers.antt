use Rattle.std.proofs.Common.{List, [], ◌∷◌, ◌++◌, sym, ap, subst, ◌∙◌}
use Rattle.mesh_certificate.specs.declared.certificate.segment.Segment.{Segment}
use Rattle.mesh_triangles.specs.Walks.{AddsBoundary}
use Rattle.mesh_triangles.proofs.Lines.{both_stay}
use Rattle.mesh_triangles.proofs.boundaries.push_opposite.Goals as goal

pub returns : goal.returns
returns c =
    let s = c.args.first.now in let t = c.args.second.now in let old = c.args.boundaries.now.segments.items in
    subst (AddsBoundary old (s ∷ t ∷ [])) (sym (c.in_ok-push-2.ensures.items
    ∙ ap (λ (ss : List Segment). ss ++ t ∷ []) c.in_ok-push.ensures.items)) (both_stay old s t)
