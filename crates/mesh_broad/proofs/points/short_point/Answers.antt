use Rattle.std.proofs.Common.{subst}
use Rattle.ember_algebra.proofs.Exact.{wide, ◌&◌, done, exact}
use Rattle.ember_model.specs.declared.point.Spot.{Spot}
use Rattle.ember_model.specs.Edges.{SamePoint}
use Rattle.ember_model.proofs.Tuples.{same_spot}
use Rattle.ember_point.specs.Points as meets
use Rattle.mesh_broad.proofs.ReducedPoints.{found_by_lowest}
use Rattle.mesh_broad.proofs.points.short_point.Goals as goal

pub returns : goal.returns
returns c =
    let v = c.args.m.now.valid in
    let e = same_spot (exact (v.x & done) (wide 0) tt) (exact (v.y & done) (wide 0) tt) (exact (v.z & done) (wide 0) tt)
    (exact (v.w & done) (wide 0) tt) in
    found_by_lowest (record {
      same = subst (λ (s : Spot). SamePoint s (meets.spot_of c.reduce.result)) e c.reduce.ensures.same;
      lowest = c.reduce.ensures.lowest;
    }) c.point_of_meet.result c.point_of_meet.ensures
