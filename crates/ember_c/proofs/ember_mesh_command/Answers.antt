use Rattle.std.proofs.Common.{inl, inr}
use Rattle.ember_c.proofs.ember_mesh_command.Goals as goal

pub returns-clause-answer : goal.returns-clause-answer
returns-clause-answer c =
    elim c.answer_of.ensures [ inl is ↦ inl (c.mesh_command.result, c.mesh_command.ensures.outcome, is) | inr none ↦ inr none ]
