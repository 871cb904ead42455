use Rattle.std.proofs.Common.{sym, subst, ◌<◌, arith}
use Rattle.ember_expr.specs.Formula.{formula_of}
use Rattle.ember_visit.specs.Jobs.{AreHalfJobs}
use Rattle.ember_visit.proofs.IndexLists.{job_places, few_listed, counts_within}
use Rattle.ember_voxel.specs.Laws.{leaf_by, halved_by, may_halve}
use Rattle.ember_voxel.specs.Lattice.{longest}
use Rattle.ember_voxel.proofs.step.voxel_step.Goals as goal

pub bit_of-requires-clause-places : goal.bit_of-requires-clause-places
bit_of-requires-clause-places c = job_places c.args.s.now.tris c.args.job.now c.requires.job

pub bit_of-requires-clause-counts : goal.bit_of-requires-clause-counts
bit_of-requires-clause-counts c = counts_within c.args.s.now.tris c.args.job.now c.requires.job 16777216 (omega arith) c.args.s.now.kept.few

pub returns-in-Some : goal.returns-in-Some
returns-in-Some c = (
  leaf_by c.args.s.now.tris (formula_of c.args.e.now) c.args.size c.args.job.now c.in-Some.ensures.ends,
  λ i. record { cell = c.copy.ensures i; bit = c.in-Some.ensures.bit i },
)

pub halve_job-requires-clause-side : goal.halve_job-requires-clause-side
halve_job-requires-clause-side c =
    subst (λ k. 0 < c.args.job.now.cell.log k) (sym c.longest.ensures)
    (may_halve c.args.s.now.tris (formula_of c.args.e.now) c.args.size c.args.job.now c.requires
    c.in-None.ensures.ends)

pub halve_job-requires-clause-places : goal.halve_job-requires-clause-places
halve_job-requires-clause-places c = job_places c.args.s.now.tris c.args.job.now c.requires.job

pub halve_job-requires-clause-few : goal.halve_job-requires-clause-few
halve_job-requires-clause-few c = few_listed c.args.s.now.tris c.args.job.now c.requires.job c.args.s.now.kept.few

pub halve_job-requires-clause-room : goal.halve_job-requires-clause-room
halve_job-requires-clause-room c = counts_within c.args.s.now.tris c.args.job.now c.requires.job 16515072 (omega arith) c.args.s.now.kept.few

pub returns-in_ok-left-in-None : goal.returns-in_ok-left-in-None
returns-in_ok-left-in-None c =
    let ts = c.args.s.now.tris in let j = c.args.job.now in
    let h : AreHalfJobs ts j (longest j.cell) c.in_ok-left-in-None.left c.in_ok-left-in-None.right =
    subst (λ k. AreHalfJobs ts j k c.in_ok-left-in-None.left c.in_ok-left-in-None.right) c.longest.ensures
    c.in_ok-left-in-None.ensures in
    halved_by ts (formula_of c.args.e.now) c.args.size j c.in_ok-left-in-None.left c.in_ok-left-in-None.right c.in-None.ensures.ends h.is_left h.is_right
