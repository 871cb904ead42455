use Rattle.std.proofs.Common.{refl, ap, ◌∙◌, arith, ◌≤◌, length, map, List, pos, replicate, take}
use Rattle.std.proofs.lemmas.List.{take_all}
use Rattle.std.proofs.lemmas.Option.{slice_get_read}
use mir.Syntax.{w32}
use Rattle.ember_algebra.proofs.Exact.{input, stored, ◌&◌, done, exact}
use Rattle.ember_model.specs.declared.plane.Plane.{Plane}
use Rattle.ember_model.specs.declared.point.Axis.{Axis}
use Rattle.ember_model.specs.declared.tri.Tri.{Tri}
use Rattle.ember_model.specs.Planes.{main_axis}
use Rattle.ember_trace.specs.Crossings.{ray_counts, ray_before, ray_after}
use Rattle.ember_trace.proofs.Corners.{corners_as_points, point_at}
use Rattle.ember_trace.proofs.RaySides.{ray_sides}
use Rattle.ember_trace.proofs.Tallies.{ray_counts_more}
use Rattle.ember_trace.proofs.whole_rays.sides_by_rays_on.Goals as goal

pub loop-t-preserved : goal.loop-t-preserved
loop-t-preserved g c =
    let i = c.loop-t.t-index in let ts = c.args.tris.now in
    let spot = g.W.Width.spot in
    let a = spot c.index-corners-0.result in let b = spot c.index-corners-1.result in let d = spot c.index-corners-2.result in
    let before = exact (c.ray_before.ensures.small & done) (stored w32 (input 0)) tt ∙ c.ray_before.ensures.value in
    let after = exact (c.ray_after.ensures.small & done) (stored w32 (input 0)) tt ∙ c.ray_after.ensures.value in
    record {
      before = c.add_count.ensures.within i c.loop-t.invariant.before;
      after = c.add_count-in-loop-t.ensures.within i c.loop-t.invariant.after;
      counted_before = ray_counts_more (λ t. ray_before t c.main_axis-k.result a b d) ts i _ _ c.loop-t.before.counts _
          _ c.loop-t-test.true c.loop-t.invariant.counted_before before c.add_count.ensures.value;
      counted_after = ray_counts_more (λ t. ray_after t c.main_axis-k.result a b d) ts i _ _ c.loop-t.after.counts _ _
          c.loop-t-test.true c.loop-t.invariant.counted_after after c.add_count-in-loop-t.ensures.value;
    }

pub returns-clause-ray_counts : goal.returns-clause-ray_counts
returns-clause-ray_counts g c =
    let ts = c.args.tris.now in let ms = c.corners-corners.result.now in
    let spot = g.W.Width.spot in
    let a = spot c.index-corners-0.result in let b = spot c.index-corners-1.result in let d = spot c.index-corners-2.result in
    let three : 3 ≤ length ms = c.corners-corners.ensures.three in
    let main = c.main_axis-k.ensures ∙ ap (λ (p : Plane). main_axis p) c.support.ensures.value in
    let past = c.loop-t-test.false in
    let all = take_all c.loop-t.t-index ts (omega arith) in
    record {
      corners = map spot ms;
      are_corners = corners_as_points spot _ ms c.corners-corners.ensures;
      first = a;
      second = b;
      third = d;
      is_first = point_at spot ms 0 _ (slice_get_read ms (length ms) 0 c.index-corners-0.result refl (omega arith) c.index-corners-0.is);
      is_second = point_at spot ms 1 _ (slice_get_read ms (length ms) 1 c.index-corners-1.result refl (omega arith) c.index-corners-1.is);
      is_third = point_at spot ms 2 _ (slice_get_read ms (length ms) 2 c.index-corners-2.result refl (omega arith) c.index-corners-2.is);
      before = c.loop-t.invariant.counted_before
          ∙ ap (λ (k : Axis). ray_counts (λ t. ray_before t k a b d) (take c.loop-t.t-index ts) (replicate 64 (pos 0)))
          main ∙ ap (λ (us : List Tri). ray_counts (λ t. ray_before t (main_axis c.args.r.now.support) a b d) us
          (replicate 64 (pos 0))) all;
      after = c.loop-t.invariant.counted_after ∙ ap (λ (k : Axis). ray_counts (λ t. ray_after t k a b d)
          (take c.loop-t.t-index ts) (replicate 64 (pos 0))) main
          ∙ ap (λ (us : List Tri). ray_counts (λ t. ray_after t (main_axis c.args.r.now.support) a b d) us
          (replicate 64 (pos 0))) all;
    }

pub returns-clause-sides : goal.returns-clause-sides
returns-clause-sides g c = ray_sides g.W.Width.corner c.args.tris.now c.args.r.now _ c.requires.within c.requires.numbered (returns-clause-ray_counts g c)
