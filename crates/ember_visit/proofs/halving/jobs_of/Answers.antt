use Rattle.std.proofs.Common.{rules, ◌∙◌}
use Rattle.ember_box.specs.Boxes.{in_steps}
use Rattle.ember_box.specs.Near.{listed}
use Rattle.ember_ref.specs.References.{counts_beside}
use Rattle.ember_visit.specs.Jobs.{job_of}
use Rattle.ember_visit.proofs.halving.jobs_of.Goals as goal

pub halves-left-requires : goal.halves-left-requires
halves-left-requires g c = c.requires.side

pub shift_listed_on-requires-clause-within : goal.shift_listed_on-requires-clause-within
shift_listed_on-requires-clause-within g c = c.requires.within

pub shift_listed_on-requires-clause-numbered : goal.shift_listed_on-requires-clause-numbered
shift_listed_on-requires-clause-numbered g c = c.requires.numbered

pub shift_listed_on-requires-clause-places : goal.shift_listed_on-requires-clause-places
shift_listed_on-requires-clause-places g c = search rules

pub shift_listed_on-requires-clause-few : goal.shift_listed_on-requires-clause-few
shift_listed_on-requires-clause-few g c = search rules

pub shift_listed_on-requires-clause-side : goal.shift_listed_on-requires-clause-side
shift_listed_on-requires-clause-side g c = c.requires.side

pub shift_listed_on-requires-clause-room : goal.shift_listed_on-requires-clause-room
shift_listed_on-requires-clause-room g c = c.requires.room

pub returns : goal.returns
returns g c =
    let ts = c.args.tris.now in let job = c.args.job.now in let k = c.args.axis in
    let left = c.halves-left.ensures.0 in let right = c.halves-left.ensures.1 in
    let near_left = c.of.ensures ∙ c.requires.lists.is_left in let near_right = c.of-2.ensures ∙ c.requires.lists.is_right in
    let counts = c.shift_listed_on.ensures.value
    ∙ (λ i. counts_beside g.W.Width.fine (listed ts (c.items.ensures i)) (in_steps g.W.Width.scale job.cell) k job.at.counts) in
    record {
      is_left = λ i. job_of (left i) (near_left i) job.at.counts;
      is_right = λ i. job_of (right i) (near_right i) (counts i);
    }
