use Rattle.std.proofs.Common.{◌∙◌, ap, ◌&&◌}
use Rattle.ember_algebra.specs.Sign.{is_zero}
use Rattle.ember_model.specs.declared.plane.Plane.{Plane}
use Rattle.ember_model.specs.Faces.{is_flat}
use Rattle.ember_leaf.proofs.relation.is_flat.Goals as goal

pub returns : goal.returns
unfolding is_flat
returns g c =
    c.has_no_normal.ensures ∙ ap (λ (p : Plane). is_zero p.a && (is_zero p.b && is_zero p.c)) c.args.triangle.now.plane
