use Rattle.std.proofs.Common.{◌≡◌, map, take, drop}
use Rattle.std.specs.List.{AllZip}
use Rattle.mesh_read.specs.Surface.Surfaces.{point_of}
use Rattle.mesh_place.specs.AffineMaps.{affine_of}
use Rattle.mesh_place.specs.Images.{IsImage, transformed_point, long_vertex_from}
use Rattle.mesh_place.proofs.surface.image.transform_surface.Given as goal

abbrev pub invariant-loop-index : goal.invariant-loop-index
invariant-loop-index l = record {
  points : AllZip (IsImage (affine_of l.map)) (map point_of (take l.index l.surface.vertices.items)) (map transformed_point l.points.items);
  fault : long_vertex_from 0 l.surface.vertices.items ≡ long_vertex_from l.index (drop l.index l.surface.vertices.items);
}
