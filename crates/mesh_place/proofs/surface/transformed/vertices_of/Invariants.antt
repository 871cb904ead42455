use Rattle.std.proofs.Common.{◌≡◌, map, take}
use Rattle.mesh_read.specs.Surface.Surfaces.{point_of}
use Rattle.mesh_place.specs.Images.{transformed_points}
use Rattle.mesh_place.proofs.surface.transformed.vertices_of.Given as goal

abbrev pub invariant-loop-point : goal.invariant-loop-point
invariant-loop-point l = map point_of l.vertices.items ≡ transformed_points (take l.point-index l.points)
