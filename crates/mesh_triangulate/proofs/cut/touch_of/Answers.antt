use Rattle.std.proofs.Common.{refl}
use Rattle.mesh_triangulate.proofs.Corners.{found_is_contained, start_is_corner}
use Rattle.mesh_triangulate.proofs.cut.touch_of.Goals as goal

pub returns : goal.returns
returns c =
    let ss = c.args.boundary.now in (
      start_is_corner ss c.in-Some.s (found_is_contained ss c.args.inside.now.corner c.in-Some.s c.in-Some.ensures),
      (
        c.in-Some-segment_at.e,
        found_is_contained ss c.args.inside.now.edge c.in-Some-segment_at.e
            c.in-Some-segment_at.ensures,
        refl,
        c.if-e-s.false,
        c.if-e-s-2.false,
      ),
    )
