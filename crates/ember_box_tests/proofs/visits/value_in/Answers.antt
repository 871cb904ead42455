use Rattle.std.proofs.Common.{arith}
use Rattle.ember_visit.proofs.IndexLists.{job_places, counts_within}
use Rattle.ember_box_tests.proofs.visits.value_in.Goals as goal

pub box_value-requires-clause-places : goal.box_value-requires-clause-places
box_value-requires-clause-places c = job_places c.args.s.now.tris c.args.job.now c.requires

pub box_value-requires-clause-counts : goal.box_value-requires-clause-counts
box_value-requires-clause-counts c = counts_within c.args.s.now.tris c.args.job.now c.requires 16777216 (omega arith) c.args.s.now.kept.few
