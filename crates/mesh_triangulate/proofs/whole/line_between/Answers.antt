use Rattle.std.proofs.Common.{refl}
use Rattle.mesh_triangulate.proofs.Corners.{read_is_contained}
use Rattle.mesh_triangulate.proofs.whole.line_between.Goals as goal

pub returns-then-s-end : goal.returns-then-s-end
returns-then-s-end c = (
  c.s-item.result,
  read_is_contained c.args.boundary.now c.loop-s.s-index c.s-item.result c.loop-s-test.true
      c.s-item.is,
  c.if-s-start.true,
  c.if-s-end.true,
  refl,
)
