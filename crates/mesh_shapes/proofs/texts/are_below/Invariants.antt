use Rattle.std.proofs.Common.{◌≡◌, drop}
use Rattle.std.specs.List.{list_all}
use Rattle.mesh_read.specs.Surface.Surfaces.{is_point_below}
use Rattle.mesh_place.specs.Images.{transformed_points}
use Rattle.mesh_shapes.proofs.texts.are_below.Given as goal

abbrev pub invariant-loop-point : goal.invariant-loop-point
invariant-loop-point l =
    list_all is_point_below (transformed_points (drop l.point-index l.points)) ≡ list_all is_point_below (transformed_points l.points)
