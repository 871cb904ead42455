use Rattle.std.proofs.Common.{◌≡◌, ap, ◌∙◌, arith, length}
use Rattle.ember_poly.specs.Boundaries.{sides, rotated, part_sides}
use Rattle.ember_poly.proofs.ListOutline.{length-sides_of}
use Rattle.ember_poly.proofs.PartBelow.{below_ring}
use Rattle.ember_poly.proofs.draft.Draft.keep_part.Goals as goal

pub close-requires-clause-entry_edge : goal.close-requires-clause-entry_edge
close-requires-clause-entry_edge g c =
    let r = c.args.self.now.boundary in let v = c.requires.ring in
    omega (arith, c.requires.passage.within, length-sides_of g.W.Width.spot r.edges.items r.corners.items r.plane_indices.items v.corners v.plane_indices)

pub rotate_to_oldest-requires-clause-some : goal.rotate_to_oldest-requires-clause-some
rotate_to_oldest-requires-clause-some g c = c.in_ok-close.ensures.some

pub returns-clause-ring : goal.returns-clause-ring
returns-clause-ring g c =
    let d = c.args.self.now in let r = d.boundary in let p = c.args.p.now in let at = c.args.passage.now in let v = c.requires.ring in
    let gs = d.planes.items in let part = c.in_ok-close.ensures.part in let new = c.rotate_to_oldest.new.self in
    let begun = c.rotate_to_oldest.ensures in let oldest = begun.order in
    let count : c.len-plane_index.result ≡ length gs = c.len-plane_index.ensures ∙ d.planes.ok.0 in
    below_ring g.W.Width.spot d.support p gs (sides g.W.Width.spot r) at c.requires.passage v.represents v.counted new.edges.items new.corners.items
    new.plane_indices.items part.index oldest.index c.push.new.self.items
    (oldest.order ∙ ap (λ zs. rotated oldest.index zs)
    (part.order ∙ ap (λ b. rotated part.index (part_sides g.W.Width.spot (sides g.W.Width.spot r) at p b)) count)) begun.oldest begun.paired.corners
    begun.paired.plane_indices c.in_ok-push.ensures.items v.support v.planes c.requires.plane
