use Rattle.std.proofs.Common.{◌≡◌, ◌⊎◌, ◌+◌, ◌<◌, ◌∙◌, subst, sym, pos, ◌<ℤ◌, length}
use Rattle.ember_poly.specs.Rings.{IsMeet, orientation}
use Rattle.ember_poly.proofs.PassageFound.{entry_turns, exit_turns, passage_is}
use Rattle.ember_poly.proofs.passage.find_passage.Goals as goal

pub point_of-requires-clause-turns : goal.point_of-requires-clause-turns
point_of-requires-clause-turns g c =
    let n = c.args.support.now in let p = c.args.plane.now in let r = c.args.boundary.now in let q = c.requires in
    let at = q.entry in let a = c.ahead-last in let k = c.args.classified.now.entry_edge + c.args.classified.now.below_count in
    let count : c.len.result ≡ length r.corners.items = c.len.ensures ∙ r.corners.ok.0 in
    subst (λ g. pos 0 <ℤ orientation g n p) (sym c.index.ensures)
    (entry_turns g.W.Width.spot n p r.edges.items r.corners.items r.plane_indices.items c.args.classified.now.entry_edge
    c.args.classified.now.below_count a.result q.paired.corners q.paired.plane_indices at.within at.enters at.run
    q.sound q.straddles (subst (λ n. a.result < n) count a.ensures.within)
    (subst (λ n. (a.result ≡ k) ⊎ (a.result + n ≡ k)) count a.ensures.index) c.index.result.now)

pub point_of-requires-2-clause-turns : goal.point_of-requires-2-clause-turns
point_of-requires-2-clause-turns g c =
    let n = c.args.support.now in let p = c.args.plane.now in let r = c.args.boundary.now in let q = c.requires in
    let at = q.entry in let a = c.ahead-last in let k = c.args.classified.now.entry_edge + c.args.classified.now.below_count in
    let count : c.len.result ≡ length r.corners.items = c.len.ensures ∙ r.corners.ok.0 in
    subst (λ g. pos 0 <ℤ orientation n g p) (sym c.index-2.ensures)
    (exit_turns g.W.Width.spot n p r.edges.items r.corners.items r.plane_indices.items c.args.classified.now.entry_edge
    c.args.classified.now.below_count a.result q.paired.corners q.paired.plane_indices at.within at.enters at.run
    q.sound q.straddles (subst (λ n. a.result < n) count a.ensures.within)
    (subst (λ n. (a.result ≡ k) ⊎ (a.result + n ≡ k)) count a.ensures.index) c.index-2.result.now)

pub returns-clause-passage : goal.returns-clause-passage
returns-clause-passage g c =
    let n = c.args.support.now in let p = c.args.plane.now in let r = c.args.boundary.now in let q = c.requires in
    let at = q.entry in let a = c.ahead-last in let k = c.args.classified.now.entry_edge + c.args.classified.now.below_count in
    let count : c.len.result ≡ length r.corners.items = c.len.ensures ∙ r.corners.ok.0 in let y = c.point_of-2 in let z = c.point_of in
    passage_is g.W.Width.spot n p r.edges.items r.corners.items r.plane_indices.items c.args.classified.now.entry_edge
    c.args.classified.now.below_count a.result q.paired.corners q.paired.plane_indices at.within at.enters at.run
    q.sound q.straddles (subst (λ n. a.result < n) count a.ensures.within)
    (subst (λ n. (a.result ≡ k) ⊎ (a.result + n ≡ k)) count a.ensures.index) y.result z.result c.index.result.now
    c.index-2.result.now (subst (λ h. IsMeet h n p (g.W.Width.spot z.result)) c.index.ensures z.ensures)
    (subst (λ h. IsMeet n h p (g.W.Width.spot y.result)) c.index-2.ensures y.ensures)
