use Rattle.std.proofs.Common.{ℕ, ◌++◌, ◌∷◌, [], sym, ap, ◌∙◌}
use Rattle.mesh_written.specs.DecimalTriangles.{vanishes}
use Rattle.mesh_written.proofs.Kept.{nothing_more, one_more}
use Rattle.mesh_written.proofs.decimal_triangles.push_kept.Goals as goal

pub returns-then-vanishes : goal.returns-then-vanishes
returns-then-vanishes c =
    λ before many is.
    let gone = ap vanishes (sym c.triangle_at-rounded.ensures) ∙ sym c.vanishes.ensures ∙ c.if-vanishes.true in
    nothing_more c.args.points.now before c.args.triangle.now c.args.written.now gone is

pub returns : goal.returns
returns c =
    λ before many is.
    let stays = ap vanishes (sym c.triangle_at-rounded.ensures) ∙ sym c.vanishes.ensures ∙ c.if-vanishes.false in
    one_more c.args.points.now before c.args.triangle.now c.args.written.now _ c.triangle_at-rounded.result stays
    c.triangle_at-rounded.ensures is (c.in_ok-push.ensures _ is.mesh) c.in_ok-push-2.ensures.items
    (c.in_ok-push-3.ensures.items ∙ ap (λ (n : ℕ). c.args.written.now.origins.items ++ n ∷ []) (sym many))
