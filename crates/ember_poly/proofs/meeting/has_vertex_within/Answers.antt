use Rattle.std.proofs.Common.{◌≡◌, sym, ◌∙◌, true, false}
use Rattle.ember_poly.specs.Rings.{IsMeet}
use Rattle.ember_poly.proofs.ChordParts.{fits_free}
use Rattle.ember_poly.proofs.LevelMeets.{meet_is}
use Rattle.ember_poly.proofs.meeting.has_vertex_within.Goals as goal

differ : true ≡ false → ⊥
differ e = cc

pub returns-in-Some : goal.returns-in-Some
returns-in-Some g c =
    let n = c.args.support.now in let p = c.args.p.now in let h = c.args.edge.now in let hs = c.args.edges.now in
    let v = g.W.Width.spot c.in-Some.m in let e = c.in-Some.ensures in
    let m : IsMeet n p h v = meet_is n p h v e.formula (g.met.W.Width.weighs c.in-Some.m) in (
      λ t. record { turns = λ z. absurd (differ (e.none.1 z)); at = v; meets = m; free = sym c.none_above.ensures ∙ t },
      λ f. c.none_above.ensures ∙ fits_free n p h hs v m f,
    )
