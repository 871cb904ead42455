use Rattle.std.proofs.Common.{true, sym, subst, take, ◌+◌, pos}
use lib.ListN.{get_or}
use Rattle.ember_model.specs.declared.plane.Plane.{Plane}
use Rattle.ember_poly.specs.Cuts.{IsReach}
use Rattle.ember_poly.proofs.InsideNotAbove.{Counted, low_below, low_on, above_at, counted_none, counted_low_at, counted_cut_at}
use Rattle.ember_poly.proofs.meeting.overlap_of.Goals.{in-Below, in-On, in-Both}
use Rattle.ember_poly.proofs.meeting.overlap_of.Goals as goal

abbrev none : Plane
none = record { a = pos 0; b = pos 0; c = pos 0; d = pos 0 }

pub loop-edge-init : goal.loop-edge-init
loop-edge-init g c = counted_none c.args.r.now c.requires.inside

pub loop-edge-preserved : goal.loop-edge-preserved
loop-edge-preserved g c =
    let f = c.args.r.now in let hs = c.args.edges.now in let i = c.loop-edge.edge-index in let h = get_or hs i none in
    let l = c.loop-edge-test.true in let v = c.loop-edge.invariant in let b = c.loop-edge.is_cut in let t = c.loop-edge.is_cut_twice in
    elim c.match-reach.branch [
      | in-Below w ↦ subst (λ b. Counted f b c.match-reach.is_cut_twice (take (i + 1) hs)) (sym w.is_cut-is)
          (subst (λ t. Counted f b t (take (i + 1) hs)) (sym w.is_cut_twice-is)
          (counted_low_at f hs b t i none l v (low_below f h (subst (λ r. IsReach f h r) w.in-Below.is c.reach.ensures))))
      | in-On w ↦ subst (λ b. Counted f b c.match-reach.is_cut_twice (take (i + 1) hs)) (sym w.is_cut-is)
          (subst (λ t. Counted f b t (take (i + 1) hs)) (sym w.is_cut_twice-is)
          (counted_low_at f hs b t i none l v (low_on f h (subst (λ r. IsReach f h r) w.in-On.is c.reach.ensures))))
      | in-Both w ↦ subst (λ b. Counted f b c.match-reach.is_cut_twice (take (i + 1) hs)) (sym w.is_cut-is)
          (subst (λ t. Counted f true t (take (i + 1) hs)) (sym w.is_cut_twice-is)
          (counted_cut_at f hs b t i none l v (subst (λ r. IsReach f h r) w.in-Both.is c.reach.ensures)))
    ]

pub returns-in-Above : goal.returns-in-Above
returns-in-Above g c =
    let f = c.args.r.now in let hs = c.args.edges.now in let i = c.loop-edge.edge-index in let h = get_or hs i none in
    λ s. above_at f hs i none c.loop-edge-test.true (subst (λ r. IsReach f h r) c.in-Above.is c.reach.ensures) s
