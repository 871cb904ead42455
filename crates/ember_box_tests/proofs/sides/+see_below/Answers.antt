use Rattle.std.proofs.Common.{◌≡◌, arith}
use Rattle.ember_expr.specs.Formula.{formula_of}
use Rattle.ember_job.specs.Works.{halved}
use Rattle.ember_visit.specs.Values.{shape}
use Rattle.ember_visit.proofs.Laws.{halves_are_jobs}
use Rattle.ember_box_tests.proofs.sides.+see_below.Goals as goal

pub see_below-requires : goal.see_below-requires
see_below-requires t c =
    let s = c.args.s.now in let f = formula_of c.args.e.now in let job = c.args.job.now in
    let split : shape s.tris f job ≡ halved c.in-Halves.left_job c.in-Halves.right_job = rw c.in-Halves.is at c.in_ok-left_job.ensures in
    (omega arith, (halves_are_jobs s.tris f job c.in-Halves.left_job c.in-Halves.right_job s.meshes s.kept c.requires split).0)

pub see_below-requires-then-left-gt0 : goal.see_below-requires-then-left-gt0
see_below-requires-then-left-gt0 t c =
    let s = c.args.s.now in let f = formula_of c.args.e.now in let job = c.args.job.now in
    let split : shape s.tris f job ≡ halved c.in-Halves.left_job c.in-Halves.right_job = rw c.in-Halves.is at c.in_ok-left_job.ensures in
    (omega arith, (halves_are_jobs s.tris f job c.in-Halves.left_job c.in-Halves.right_job s.meshes s.kept c.requires split).1)
