use Rattle.std.proofs.Common.{map, refl, ◌∙◌}
use Rattle.mesh_write.specs.Vertices.Vertices.{point_at}
use Rattle.mesh_boolean.proofs.split.split_over.Goals as goal

pub returns : goal.returns
returns c = λ ts cut are_cut is are paired whole origins. record {
  cut = cut;
  are_cut = are_cut;
  split = c.args.split.mesh;
  are_split = are;
  points = c.in_ok-points.ensures ∙ (λ i. map (point_at (c.vertices.ensures cut is i)) (c.deref.ensures.value i));
  triangles = refl;
  manifold = paired;
  whole = whole;
  origins = origins;
}
