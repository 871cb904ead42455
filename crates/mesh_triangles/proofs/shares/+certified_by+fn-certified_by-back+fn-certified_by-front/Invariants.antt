use Rattle.std.proofs.Common.{◌-◌, ◌*◌}
use Rattle.mesh_triangles.proofs.shares.+certified_by+fn-certified_by-back+fn-certified_by-front.Given as goal

abbrev pub decreases-certified_by : goal.decreases-certified_by
decreases-certified_by g l = 2 * l.workers

abbrev pub decreases-back : goal.decreases-back
decreases-back g l = 2 * l.workers - 1

abbrev pub decreases-front : goal.decreases-front
decreases-front g l = 2 * l.workers - 1
