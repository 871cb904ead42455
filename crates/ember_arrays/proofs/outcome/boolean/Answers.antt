use Rattle.ember_arrays.proofs.Outcomes.{outcome_has_none, outcome_has_solid, refusal_is_outcome, report_is_outcome}
use Rattle.ember_arrays.proofs.outcome.boolean.Goals as goal

pub reported-requires : goal.reported-requires
reported-requires c = c.in-Ok.ensures.solid.is.are_placed.on_grid.step

pub returns-in-Ok-clause-outcome : goal.returns-in-Ok-clause-outcome
returns-in-Ok-clause-outcome c =
    report_is_outcome c.args.request.now c.args.step c.reported.result c.in-Ok.solid c.in-Ok.ensures.solid c.reported.ensures

pub returns-in-Ok-clause-solid : goal.returns-in-Ok-clause-solid
returns-in-Ok-clause-solid c = outcome_has_solid c.args.request.now c.args.step c.reported.result (returns-in-Ok-clause-outcome c)

pub returns-in-Ok-clause-nothing : goal.returns-in-Ok-clause-nothing
returns-in-Ok-clause-nothing c = outcome_has_none c.args.request.now c.args.step c.reported.result (returns-in-Ok-clause-outcome c)

pub returns-in-Err-clause-outcome : goal.returns-in-Err-clause-outcome
returns-in-Err-clause-outcome c =
    refusal_is_outcome c.args.request.now c.args.step c.refused.result c.in-Err.stop.status c.in-Err.stop.place c.in-Err.ensures.stop
    c.refused.ensures

pub returns-in-Err-clause-solid : goal.returns-in-Err-clause-solid
returns-in-Err-clause-solid c = outcome_has_solid c.args.request.now c.args.step c.refused.result (returns-in-Err-clause-outcome c)

pub returns-in-Err-clause-nothing : goal.returns-in-Err-clause-nothing
returns-in-Err-clause-nothing c = outcome_has_none c.args.request.now c.args.step c.refused.result (returns-in-Err-clause-outcome c)
