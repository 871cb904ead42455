use Rattle.std.proofs.Common.{◌∙◌}
use Rattle.ember_poly.proofs.ring.copy.Goals as goal

pub invariant_of-result : goal.invariant_of-result
invariant_of-result g c =
    rw (
      c.in_ok-planes.ensures ∙ c.as_slice.ensures.value,
      c.in_ok-boundary.ensures.edges,
      c.in_ok-boundary.ensures.corners,
      c.in_ok-boundary.ensures.plane_indices,
    ) c.r.invariant
