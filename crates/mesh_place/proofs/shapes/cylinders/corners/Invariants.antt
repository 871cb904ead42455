use Rattle.std.specs.List.{AllZip, range_with_len}
use Rattle.mesh_place.specs.AffineMaps.{affine_of}
use Rattle.mesh_place.specs.Images.{transformed_points}
use Rattle.mesh_place.specs.Shapes.{IsImageOfCorner}
use Rattle.mesh_place.proofs.shapes.cylinders.corners.Given as goal

abbrev pub invariant-loop-index : goal.invariant-loop-index
invariant-loop-index l =
    AllZip (IsImageOfCorner (affine_of l.map) l.sides) (range_with_len 0 l.index) (transformed_points l.points.items)
