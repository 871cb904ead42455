use Rattle.std.proofs.Common.{ap, ◌∙◌, ◌&&◌}
use Rattle.ember_algebra.specs.Sign.{is_zero}
use Rattle.ember_model.specs.declared.plane.Plane.{Plane}
use Rattle.ember_model.specs.Faces.{is_flat}
use Rattle.mesh_grid.proofs.grid.snapping.is_flat.Goals as goal

pub returns : goal.returns
unfolding is_flat
returns c =
    c.has_no_normal.ensures ∙ ap (λ (n : Plane). is_zero n.a && (is_zero n.b && is_zero n.c)) c.support_of.ensures.value
