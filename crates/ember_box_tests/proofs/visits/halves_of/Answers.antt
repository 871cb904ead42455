use Rattle.std.proofs.Common.{arith}
use Rattle.ember_visit.proofs.IndexLists.{job_places, few_listed, counts_within}
use Rattle.ember_box_tests.proofs.visits.halves_of.Goals as goal

pub halve_job-requires-clause-places : goal.halve_job-requires-clause-places
halve_job-requires-clause-places c = job_places c.args.s.now.tris c.args.job.now c.requires.job

pub halve_job-requires-clause-few : goal.halve_job-requires-clause-few
halve_job-requires-clause-few c = few_listed c.args.s.now.tris c.args.job.now c.requires.job c.args.s.now.kept.few

pub halve_job-requires-clause-room : goal.halve_job-requires-clause-room
halve_job-requires-clause-room c = counts_within c.args.s.now.tris c.args.job.now c.requires.job 16515072 (omega arith) c.args.s.now.kept.few
