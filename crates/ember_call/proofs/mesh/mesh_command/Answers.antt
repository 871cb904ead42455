use Rattle.std.proofs.Common.{List, ℕ, ap, map, string_bytes, subst, ◌∙◌}
use Rattle.ember_call.specs.Lent.{named_bytes, word_bytes}
use Rattle.ember_call.specs.MeshCalls.{IsMeshOutcome}
use Rattle.ember_call.proofs.MeshEnds.{mesh_outcome_is_empty, outcome_has_solid}
use Rattle.ember_call.proofs.mesh.mesh_command.Goals as goal

pub returns-in-Ok-clause-outcome : goal.returns-in-Ok-clause-outcome
returns-in-Ok-clause-outcome c =
    subst (λ (words : List (List ℕ)). IsMeshOutcome words (named_bytes c.args.files.now) c.mesh_outcome_of.result)
    (ap (map string_bytes) c.deref.ensures.value ∙ c.in-Ok.ensures.texts) c.mesh_outcome_of.ensures

pub returns-in-Ok-clause-solid : goal.returns-in-Ok-clause-solid
returns-in-Ok-clause-solid c =
    outcome_has_solid (word_bytes c.args.words.now) (named_bytes c.args.files.now) c.mesh_outcome_of.result (returns-in-Ok-clause-outcome c)

pub returns-in-Ok-clause-nothing : goal.returns-in-Ok-clause-nothing
returns-in-Ok-clause-nothing c =
    mesh_outcome_is_empty (word_bytes c.args.words.now) (named_bytes c.args.files.now) c.mesh_outcome_of.result (returns-in-Ok-clause-outcome c)
