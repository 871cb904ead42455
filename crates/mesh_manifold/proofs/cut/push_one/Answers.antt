use Rattle.std.proofs.Common.{[], ◌∷◌, ◌++◌, subst}
use Rattle.mesh_write.specs.declared.vertices.point.DecimalTriangle.{DecimalTriangle}
use Rattle.mesh_write.specs.Vertices.Vertices.{IsMeshOf}
use Rattle.mesh_manifold.proofs.cut.push_one.Goals as goal

pub returns : goal.returns
returns c = record {
  mesh = λ before is.
      subst (λ (t : DecimalTriangle). IsMeshOf (before ++ t ∷ []) c.push.new.self) c.triangle.ensures (c.in_ok-push.ensures before is);
  origins = c.in_ok-push-2.ensures.items;
}
