use Rattle.ember_box.specs.Boxes.{halvings_left}
use Rattle.steal_pool.proofs.alone.+run_below.Given as goal

abbrev pub decreases-run_below : goal.decreases-run_below
decreases-run_below g l = halvings_left l.job.cell
