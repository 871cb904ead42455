use Rattle.std.proofs.Common.{ap, subst, ◌∙◌}
use Rattle.ember_algebra.specs.Sign.{sgn}
use Rattle.ember_point.specs.Points.{spot_of}
use Rattle.ember_width.specs.Levels.{IsAlong}
use Rattle.ember_width.proofs.Along.{inputs_are_small, passed_on, along_x, along_y, along_z}
use Rattle.ember_width.proofs.across.narrow_side_across.Goals as goal

pub returns-in-X : goal.returns-in-X
returns-in-X c =
    let p = c.args.p.now in let q = c.requires.plane in let m = c.args.m.now.valid in
    c.side_by_coordinate.ensures ∙ ap sgn (passed_on (inputs_are_small q.a m.x q.d m.w)
    ∙ along_x p (spot_of c.args.m.now) (subst (λ k. IsAlong k p) c.in-X.is c.requires.axis))

pub returns-in-Y : goal.returns-in-Y
returns-in-Y c =
    let p = c.args.p.now in let q = c.requires.plane in let m = c.args.m.now.valid in
    c.side_by_coordinate-in-Y.ensures ∙ ap sgn (passed_on (inputs_are_small q.b m.y q.d m.w)
    ∙ along_y p (spot_of c.args.m.now) (subst (λ k. IsAlong k p) c.in-Y.is c.requires.axis))

pub returns-in-Z : goal.returns-in-Z
returns-in-Z c =
    let p = c.args.p.now in let q = c.requires.plane in let m = c.args.m.now.valid in
    c.side_by_coordinate-in-Z.ensures ∙ ap sgn (passed_on (inputs_are_small q.c m.z q.d m.w)
    ∙ along_z p (spot_of c.args.m.now) (subst (λ k. IsAlong k p) c.in-Z.is c.requires.axis))
