use Rattle.std.proofs.Common.{◌≡◌, subst, List, Some, slice_get}
use Rattle.ember_model.specs.declared.plane.Plane.{Plane}
use Rattle.ember_trace.proofs.OwnTriangles.{behind_plane}
use Rattle.ember_trace.proofs.own_triangle.lies_behind.Goals as goal

pub returns : goal.returns
returns g c =
    let i = c.args.index in let p = c.args.p.now in
    λ t. behind_plane c.args.r.now i p (subst (λ (ps : List Plane). slice_get ps i ≡ Some p) c.planes.ensures (c.has_at.ensures t))
