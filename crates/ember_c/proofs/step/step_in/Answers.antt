use Rattle.std.proofs.Common.{inl, inr, rules, arith}
use Rattle.std.proofs.lemmas.Bool.Decides.{nat_tests}
use Rattle.std.proofs.lemmas.List.{nil_from_length}
use Rattle.ember_c.proofs.step.step_in.Goals as goal
use Rattle.ember_c.proofs.step.step_in.Goals.{then-is_empty-via-then-is_empty, then-is_empty-via-else-is_empty+then-eq}

pub returns-then-is_empty-clause-step : goal.returns-then-is_empty-clause-step
returns-then-is_empty-clause-step c =
    elim c.then-is_empty.branch [
      | then-is_empty-via-then-is_empty w ↦ inl (nil_from_length c.args.bytes.now (grind (arith, nat_tests)))
      | then-is_empty-via-else-is_empty+then-eq w ↦ inr (search rules)
    ]
