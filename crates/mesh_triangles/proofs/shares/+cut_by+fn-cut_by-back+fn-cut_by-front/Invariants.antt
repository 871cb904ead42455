use Rattle.std.proofs.Common.{◌-◌, ◌*◌}
use Rattle.mesh_triangles.proofs.shares.+cut_by+fn-cut_by-back+fn-cut_by-front.Given as goal

abbrev pub decreases-cut_by : goal.decreases-cut_by
decreases-cut_by g l = 2 * l.workers

abbrev pub decreases-back : goal.decreases-back
decreases-back g l = 2 * l.workers - 1

abbrev pub decreases-front : goal.decreases-front
decreases-front g l = 2 * l.workers - 1
