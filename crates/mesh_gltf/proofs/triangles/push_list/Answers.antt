use Rattle.std.proofs.Common.{◌++◌, arith}
use Rattle.mesh_gltf.specs.Triangles.{of_list}
use Rattle.mesh_gltf.proofs.ListSteps.{triangle_added}
use Rattle.mesh_gltf.proofs.triangles.push_list.Goals as goal

pub loop-a-preserved : goal.loop-a-preserved
loop-a-preserved c =
    let first = c.in-Some.ensures.cases in
    let second = c.in-Some-split_first.ensures.cases in
    let third = c.in-Some-split_first-2.ensures.cases in
    record {
      same = triangle_added (c.args.facets.now.items ++ of_list c.args.place c.args.corners.now) c.loop-a.facets.items
          c.push.new.facets.items c.loop-a.place c.in-Some.a.now c.in-Some-split_first.b.now c.in-Some-split_first-2.c.now
          c.loop-a.rest.now c.in-Some.others.now c.in-Some-split_first.others.now c.in-Some-split_first-2.after.now
          c.loop-a.invariant.same c.in_ok-push.ensures first.0 second.0 third.0;
      fits = omega (arith, c.loop-a.invariant.fits, first.1, second.1, third.1);
    }
