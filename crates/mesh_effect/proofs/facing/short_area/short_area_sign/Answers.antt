use Rattle.std.proofs.Common.{SFits, to_z-of_z, ap, ◌∙◌}
use mir.Syntax.{w128}
use Rattle.ember_algebra.specs.Sign.{sgn}
use Rattle.ember_algebra.specs.Vector.{Vector, det, minus_v}
use Rattle.ember_model.specs.Edges.{normal}
use Rattle.mesh_effect.specs.Facing.Short.{short_point, short_vector}
use Rattle.mesh_effect.proofs.AreaSums.{minor_read, along_same}
use Rattle.mesh_effect.proofs.facing.short_area.short_area_sign.Goals as goal

pub returns : goal.returns
returns c =
    let p = c.args.plane.now in
    let u = c.difference-u.result in let v = c.difference-v.result in let s = u.sized in let t = v.sized in
    let ex = minor_read c.minor-x.result u.y u.z v.y v.z (record { sfits = c.minor-x.type_inv }) s.y s.z t.y t.z c.minor-x.ensures.value in
    let ey = minor_read c.minor-y.result u.z u.x v.z v.x (record { sfits = c.minor-y.type_inv }) s.z s.x t.z t.x c.minor-y.ensures.value in
    let ez = minor_read c.minor-z.result u.x u.y v.x v.y (record { sfits = c.minor-z.type_inv }) s.x s.y t.x t.y c.minor-z.ensures.value in
    let f : SFits w128 c.along_normal.result = record { sfits = c.along_normal.type_inv } in
    let e = along_same c.along_normal.result p.a p.b p.c _ _ _ _ _ _ c.along_normal.ensures ex ey ez in
    c.sign_of.ensures ∙ ap sgn (to_z-of_z f ∙ e ∙ ap (λ (w : Vector). det (normal p) w (short_vector v))
    c.difference-u.ensures ∙ ap (λ (w : Vector). det (normal p)
    (minus_v (short_point c.args.b.now) (short_point c.args.a.now)) w) c.difference-v.ensures)
