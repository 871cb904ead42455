use Rattle.std.proofs.Common.{◌≤◌, refl, length, map, ap, ◌∙◌, arith}
use Rattle.std.proofs.lemmas.Option.{slice_get_read}
use Rattle.ember_algebra.proofs.Size.{small_within}
use Rattle.ember_model.specs.Planes.{main_axis}
use Rattle.ember_trace.specs.Paths.{first_of, second_of}
use Rattle.ember_trace.proofs.Corners.{corners_as_points, point_at}
use Rattle.ember_trace.proofs.vertices.path_to.Goals as goal

pub invariant_of-result : goal.invariant_of-result
invariant_of-result g c =
    let spot = g.W.Width.spot in let ms = c.corners-ring_corners.result.now in
    let three : 3 ≤ length ms = c.corners-ring_corners.ensures.three in
    record {
      small = c.lo_on.ensures.small;
      within = λ i d l. small_within g.met.W.Width.ends (c.lo_on.ensures.within i d l);
      corners = c.are_short.ensures;
      region_corners = ∣ record {
        corners = map spot ms;
        are_corners = corners_as_points spot _ ms c.corners-ring_corners.ensures;
        is_first = point_at spot ms 0 _
            (slice_get_read ms (length ms) 0 c.index-ring_corners-0.result refl (omega arith) c.index-ring_corners-0.is);
        is_second = point_at spot ms 1 _
            (slice_get_read ms (length ms) 1 c.index-ring_corners-1.result refl (omega arith) c.index-ring_corners-1.is);
        is_third = point_at spot ms 2 _
            (slice_get_read ms (length ms) 2 c.index-ring_corners-2.result refl (omega arith) c.index-ring_corners-2.is);
      } ∣₁;
    }

pub returns : goal.returns
returns g c =
    let spot = g.W.Width.spot in let ms = c.corners-ring_corners.result.now in
    let three : 3 ≤ length ms = c.corners-ring_corners.ensures.three in
    let main = c.main_axis-main.ensures ∙ ap main_axis c.support.ensures.value in
    record {
      fine = refl;
      lo = c.lo_on.ensures.value;
      main = main;
      first = c.first_of.ensures ∙ ap first_of main;
      second = c.second_of.ensures ∙ ap second_of main;
      corners = map spot ms;
      are_corners = corners_as_points spot _ ms c.corners-ring_corners.ensures;
      weight = g.met.W.Width.weighs _;
      first_corner = point_at spot ms 0 _
          (slice_get_read ms (length ms) 0 c.index-ring_corners-0.result refl (omega arith) c.index-ring_corners-0.is);
      second_corner = point_at spot ms 1 _
          (slice_get_read ms (length ms) 1 c.index-ring_corners-1.result refl (omega arith) c.index-ring_corners-1.is);
      third_corner = point_at spot ms 2 _
          (slice_get_read ms (length ms) 2 c.index-ring_corners-2.result refl (omega arith) c.index-ring_corners-2.is);
    }
