use Rattle.std.proofs.Common.{◌≡◌, ℕ, ◌<◌, ◌++◌, map, take, flat_map, get_or}
use Rattle.mesh_place.specs.declared.surface.transformed.TransformedPoint.{TransformedPoint}
use Rattle.mesh_write.specs.Text.Lines.{point_line}
use Rattle.mesh_shapes.specs.Texts.{most_places, point_in_units, HasFewPlaces}
use Rattle.mesh_shapes.proofs.texts.put_points.Given as goal

abbrev pub invariant-loop-point : goal.invariant-loop-point
invariant-loop-point l = record {
  text : l.out.items ≡ l.fn.out.items ++ flat_map (point_line most_places) (map point_in_units (take l.point-index l.points));
  places : (k : ℕ) → k < l.point-index → (d : TransformedPoint) → HasFewPlaces (get_or l.points k d);
}
