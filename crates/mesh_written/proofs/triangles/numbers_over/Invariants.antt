use Rattle.std.proofs.Common.{◌≡◌, [], map, take}
use Rattle.mesh_written.specs.Triangles.{kept_numbers, triangle_at}
use Rattle.mesh_written.proofs.triangles.numbers_over.Given as goal

abbrev pub invariant-loop-index : goal.invariant-loop-index
invariant-loop-index l =
    l.kept.items ≡ kept_numbers (map (triangle_at [] l.points) (take l.index l.triangles)) (take l.index l.numbers)
