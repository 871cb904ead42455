use Rattle.std.proofs.Common.{map, string_bytes}
use Rattle.ember_call.specs.Lent.{named_bytes}
use Rattle.ember_call.proofs.Ends.{call_has_outcome}
use Rattle.ember_call.proofs.ember.outcome_of.Goals as goal

pub returns-clause-outcome : goal.returns-clause-outcome
returns-clause-outcome c =
    call_has_outcome (map string_bytes c.args.words.now) (named_bytes c.args.files.now) c.outcome_with.result c.run_one-status.result
    c.new-shelf.result c.run_one-status.new.shelf c.new-out.result c.run_one-status.new.out c.new-err.result c.run_one-status.new.err
    c.new-shelf.ensures c.new-out.ensures c.new-err.ensures c.run_one-status.ensures.serves c.outcome_with.ensures.outcome
