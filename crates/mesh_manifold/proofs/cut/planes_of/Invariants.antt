use Rattle.std.proofs.Common.{◌≡◌, map, take}
use Rattle.mesh_manifold.specs.Cuts.{plane_of}
use Rattle.mesh_manifold.proofs.cut.planes_of.Given as goal

abbrev pub invariant-loop-origin : goal.invariant-loop-origin
invariant-loop-origin l = l.numbers.items ≡ map (plane_of l.planes) (take l.origin-index l.origins)
