use Rattle.std.proofs.Common.{◌-◌, ◌*◌}
use Rattle.mesh_triangles.proofs.shares.+boundaries_by+fn-boundaries_by-back+fn-boundaries_by-front.Given as goal

abbrev pub decreases-boundaries_by : goal.decreases-boundaries_by
decreases-boundaries_by g l = 2 * l.workers

abbrev pub decreases-back : goal.decreases-back
decreases-back g l = 2 * l.workers - 1

abbrev pub decreases-front : goal.decreases-front
decreases-front g l = 2 * l.workers - 1
