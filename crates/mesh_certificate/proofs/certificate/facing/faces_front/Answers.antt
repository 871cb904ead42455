use Rattle.std.proofs.Common.{sym, ap, ◌∙◌, ◌*ℤ◌}
use Rattle.ember_algebra.specs.Sign.{is_positive}
use Rattle.ember_model.specs.declared.point.Axis.{Axis}
use Rattle.ember_model.specs.Planes.{along}
use Rattle.mesh_certificate.specs.Certificate.Facing.{spot_of, turn_along}
use Rattle.mesh_certificate.proofs.SeenFromFront.{front_from_tests, left_from_front}
use Rattle.mesh_certificate.proofs.certificate.facing.faces_front.Goals as goal

pub returns-then-are_on : goal.returns-then-are_on
returns-then-are_on c =
    let p = c.args.plane.now in
    let u = spot_of c.args.u.now in let v = spot_of c.args.v.now in let w = spot_of c.args.w.now in
    let left = c.turns_left.ensures ∙ ap (λ (k : Axis). is_positive (along p k *ℤ turn_along k u v w)) c.main_axis.ensures in (
      λ t. front_from_tests p u v w c.args.u.now.valid.positive (sym c.are_on.ensures ∙ c.if-are_on.true) (sym left ∙ t),
      λ f. left ∙ left_from_front p u v w c.args.u.now.valid.positive f,
    )
