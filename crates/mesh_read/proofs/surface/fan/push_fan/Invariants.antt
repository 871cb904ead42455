use Rattle.std.proofs.Common.{◌≡◌, length, ◌++◌, ◌∷◌}
use Rattle.mesh_read.specs.Surface.Surfaces.{fan, fan_round}
use Rattle.mesh_read.proofs.surface.fan.push_fan.Given as goal

abbrev pub invariant-loop-corner : goal.invariant-loop-corner
invariant-loop-corner l =
    l.fn.facets.items ++ fan l.place l.corners ≡ l.facets.items ++ fan_round l.place l.first (l.previous ∷ l.rest)

abbrev pub decreases-loop-corner : goal.decreases-loop-corner
decreases-loop-corner l = length l.rest
