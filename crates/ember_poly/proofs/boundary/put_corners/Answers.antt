use Rattle.std.proofs.Common.{refl}
use Rattle.ember_poly.proofs.boundary.put_corners.Goals as goal

pub returns : goal.returns
returns g c =
    rw (
      c.in_ok-push-3.ensures.items,
      c.in_ok-push-2.ensures.items,
      c.in_ok-push.ensures.items,
      c.clear.ensures.items,
      c.point_at.ensures,
      c.point_at-2.ensures,
      c.point_at-3.ensures,
    ) refl
