use Rattle.std.proofs.Common.{◌≡◌, ◌++◌, drop, map}
use Rattle.mesh_info.specs.Info.Corners.{place_of}
use Rattle.mesh_info.proofs.info.corners.places_of.Given as goal

abbrev pub invariant-loop-vertex : goal.invariant-loop-vertex
invariant-loop-vertex l =
    l.places.items ++ map place_of (drop l.vertex-index l.vertices) ≡ map place_of l.vertices
