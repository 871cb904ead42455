use Rattle.std.proofs.Common.{List, ℕ, ap, map, string_bytes, subst, ◌∙◌}
use Rattle.ember_call.specs.Calls.{IsOutcome}
use Rattle.ember_call.specs.Lent.{named_bytes, word_bytes}
use Rattle.ember_call.proofs.Ends.{outcome_has_files}
use Rattle.ember_call.proofs.ember.command.Goals as goal

pub returns-in-Ok-clause-outcome : goal.returns-in-Ok-clause-outcome
returns-in-Ok-clause-outcome c =
    subst (λ (words : List (List ℕ)). IsOutcome words (named_bytes c.args.files.now) c.outcome_of.result)
    (ap (map string_bytes) c.deref.ensures.value ∙ c.in-Ok.ensures.texts) c.outcome_of.ensures.outcome

pub returns-in-Ok-clause-there : goal.returns-in-Ok-clause-there
returns-in-Ok-clause-there c =
    outcome_has_files (word_bytes c.args.words.now) (named_bytes c.args.files.now) c.outcome_of.result (returns-in-Ok-clause-outcome c)
