use Rattle.std.proofs.Common.{◌≡◌, sym, subst, ◌∙◌, refl, true, false, take, ◌+◌, pos}
use lib.ListN.{get_or}
use Rattle.ember_model.specs.declared.plane.Plane.{Plane}
use Rattle.ember_model.specs.Planes.{value_at}
use Rattle.ember_poly.specs.Chords.{IsChordPart}
use Rattle.ember_poly.proofs.ChordParts.{Tried, open_split, shut_at, free_at, split_at, tried_end}
use Rattle.ember_poly.proofs.meeting.chord_has_point_within.Goals.{in-Whole, in-Split+else-has_vertex_within}
use Rattle.ember_poly.proofs.meeting.chord_has_point_within.Goals as goal

differ : true ≡ false → ⊥
differ e = cc

abbrev none : Plane
none = record { a = pos 0; b = pos 0; c = pos 0; d = pos 0 }

pub returns-in-Empty : goal.returns-in-Empty
returns-in-Empty g c =
    let hs = c.args.edges.now in let y = g.W.Width.spot c.args.from.now in let z = g.W.Width.spot c.args.to.now in
    let i = c.loop-edge.edge-index in let a = value_at (get_or hs i none) y in let b = value_at (get_or hs i none) z in
    let s = subst (λ s. IsChordPart a b s) c.in-Empty.is (c.chord_part_of.ensures a b c.side.ensures c.side-in-loop-edge.ensures) in
    (λ e. absurd (differ (sym e)), λ o. absurd (shut_at c.args.support.now c.args.p.now hs y z c.requires.line i none c.loop-edge-test.true s o))

pub returns-then-has_vertex_within : goal.returns-then-has_vertex_within
returns-then-has_vertex_within g c =
    let hs = c.args.edges.now in let y = g.W.Width.spot c.args.from.now in let z = g.W.Width.spot c.args.to.now in
    let i = c.loop-edge.edge-index in let h = get_or hs i none in let a = value_at h y in let b = value_at h z in
    let s = subst (λ s. IsChordPart a b s) c.in-Split.is (c.chord_part_of.ensures a b c.side.ensures c.side-in-loop-edge.ensures) in
    (λ e. open_split c.args.support.now c.args.p.now hs y z c.requires.line h s (c.has_vertex_within.ensures.0 c.if-has_vertex_within.true), λ o. refl)

pub loop-edge-preserved : goal.loop-edge-preserved
loop-edge-preserved g c =
    let n = c.args.support.now in let p = c.args.p.now in let hs = c.args.edges.now in let y = g.W.Width.spot c.args.from.now in
    let z = g.W.Width.spot c.args.to.now in let i = c.loop-edge.edge-index in let a = value_at (get_or hs i none) y in
    let b = value_at (get_or hs i none) z in
    let s = c.chord_part_of.ensures a b c.side.ensures c.side-in-loop-edge.ensures in
    elim c.match-chord_part_of.branch [
      | in-Whole w ↦ subst (λ b. Tried n p hs y z b (take (i + 1) hs)) (sym w.free-is)
          (free_at n p hs y z c.requires.line c.loop-edge.free i none c.loop-edge-test.true
          (subst (λ s. IsChordPart a b s) w.in-Whole.is s) c.loop-edge.invariant)
      | in-Split+else-has_vertex_within w ↦ subst (λ b. Tried n p hs y z b (take (i + 1) hs)) (sym w.free-is)
          (split_at n p hs y z c.requires.line c.loop-edge.free i none c.loop-edge-test.true
          (subst (λ s. IsChordPart a b s) w.in-Split.is s)
          (λ f. differ (sym (w.has_vertex_within.ensures.1 f) ∙ w.if-has_vertex_within.false)) c.loop-edge.invariant)
    ]

pub returns : goal.returns
returns g c =
    tried_end c.args.support.now c.args.p.now c.args.edges.now (g.W.Width.spot c.args.from.now) (g.W.Width.spot c.args.to.now)
    c.requires.line c.loop-edge.free c.loop-edge.edge-index c.loop-edge-test.false c.loop-edge.invariant
