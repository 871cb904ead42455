use Rattle.std.proofs.Common.{max, ap, ◌∙◌}
use Rattle.mesh_effect.specs.Rounding.Squares.{triangle_square}
use Rattle.mesh_effect.proofs.Maxima.{greatest_none, greatest_more, greatest_all}
use Rattle.mesh_effect.proofs.rounding.squares.greatest_square.Goals as goal

pub loop-t-init : goal.loop-t-init
loop-t-init c = greatest_none (triangle_square c.args.squares.now) c.args.triangles.now

pub loop-t-preserved : goal.loop-t-preserved
loop-t-preserved c =
    greatest_more (triangle_square c.args.squares.now) c.args.triangles.now c.loop-t.t-index c.loop-t.greatest
    c.max-greatest.result c.t-item.result c.t-item.result c.loop-t.invariant
    (c.max-greatest.ensures ∙ ap (max c.loop-t.greatest) c.triangle_square.ensures) c.loop-t-test.true c.t-item.is

pub returns : goal.returns
returns c = greatest_all (triangle_square c.args.squares.now) c.args.triangles.now c.loop-t.t-index c.loop-t.greatest c.loop-t.invariant c.loop-t-test.false
