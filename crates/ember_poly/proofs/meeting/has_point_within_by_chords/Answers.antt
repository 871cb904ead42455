use Rattle.std.proofs.Common.{◌≡◌, sym, subst, ◌∙◌, refl, true, false, take, ◌+◌, pos}
use lib.ListN.{get_or}
use Rattle.ember_model.specs.declared.plane.Plane.{Plane}
use Rattle.ember_poly.specs.Chords.{IsLine, IsCrossing}
use Rattle.ember_poly.proofs.InsideNotAbove.{Tested, low_below, low_on, low_at, cut_at, above_at, met_free, tested_end}
use Rattle.ember_poly.proofs.meeting.has_point_within_by_chords.Goals.{in-Below, in-On, in-Along+else-chord_has_point_within}
use Rattle.ember_poly.proofs.meeting.has_point_within_by_chords.Goals as goal

differ : true ≡ false → ⊥
differ e = cc

abbrev none : Plane
none = record { a = pos 0; b = pos 0; c = pos 0; d = pos 0 }

pub returns-in-Above : goal.returns-in-Above
returns-in-Above g c =
    let f = c.args.r.now in let hs = c.args.edges.now in let i = c.loop-edge.edge-index in let h = get_or hs i none in (
      λ e. absurd (differ (sym e)),
      λ s. absurd (above_at f hs i none c.loop-edge-test.true
          (subst (λ r. IsCrossing g.W.Width.spot f h r) c.in-Above.is c.cross.ensures) s),
    )

pub chord_has_point_within-requires-clause-line : goal.chord_has_point_within-requires-clause-line
chord_has_point_within-requires-clause-line g c =
    let f = c.args.r.now in let h = get_or c.args.edges.now c.loop-edge.edge-index none in
    let k = subst (λ r. IsCrossing g.W.Width.spot f h r) c.in-Along.is c.cross.ensures in
    subst (λ n. IsLine n h (g.W.Width.spot c.in-Along.y) (g.W.Width.spot c.in-Along.z)) (sym c.support-n.ensures.value) k.line

pub returns-then-chord_has_point_within : goal.returns-then-chord_has_point_within
returns-then-chord_has_point_within g c =
    let f = c.args.r.now in let hs = c.args.edges.now in let h = get_or hs c.loop-edge.edge-index none in
    let k = subst (λ r. IsCrossing g.W.Width.spot f h r) c.in-Along.is c.cross.ensures in
    (λ e. met_free f hs h (k.meets hs (c.chord_has_point_within.ensures.0 c.if-chord_has_point_within.true)), λ s. refl)

pub loop-edge-preserved : goal.loop-edge-preserved
loop-edge-preserved g c =
    let f = c.args.r.now in let hs = c.args.edges.now in let i = c.loop-edge.edge-index in let h = get_or hs i none in
    let l = c.loop-edge-test.true in let v = c.loop-edge.invariant in let b = c.loop-edge.free in
    elim c.match-cross.branch [
      | in-Below w ↦ subst (λ b. Tested f hs b (take (i + 1) hs)) (sym w.free-is)
          (low_at f hs b i none l (low_below f h (subst (λ r. IsCrossing g.W.Width.spot f h r) w.in-Below.is c.cross.ensures)) v)
      | in-On w ↦ subst (λ b. Tested f hs b (take (i + 1) hs)) (sym w.free-is)
          (low_at f hs b i none l (low_on f h (subst (λ r. IsCrossing g.W.Width.spot f h r) w.in-On.is c.cross.ensures)) v)
      | in-Along+else-chord_has_point_within w ↦ let k = subst (λ r. IsCrossing g.W.Width.spot f h r) w.in-Along.is c.cross.ensures in
          subst (λ b. Tested f hs b (take (i + 1) hs)) (sym w.free-is)
          (cut_at f hs b i none l k.cuts (λ m. differ
          (sym (w.chord_has_point_within.ensures.1 (k.opens hs m)) ∙ w.if-chord_has_point_within.false)) v)
    ]

pub returns : goal.returns
returns g c =
    tested_end c.args.r.now c.args.edges.now c.loop-edge.free c.loop-edge.edge-index c.loop-edge-test.false c.loop-edge.invariant c.requires.inside
