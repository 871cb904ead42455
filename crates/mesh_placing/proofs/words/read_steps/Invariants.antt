use Rattle.std.proofs.Common.{◌≡◌, length, map}
use Rattle.mesh_placing.specs.Words.{said_by, parts_by, steps_in}
use Rattle.mesh_placing.proofs.TextParts.{steps_behind}
use Rattle.mesh_placing.proofs.words.read_steps.Given as goal

abbrev pub invariant-loop-step : goal.invariant-loop-step
invariant-loop-step l =
    steps_in 0 (parts_by 59 l.text) ≡ steps_behind (map said_by l.steps.items) (steps_in (length l.steps.items) (parts_by 59 l.rest))

abbrev pub decreases-loop-step : goal.decreases-loop-step
decreases-loop-step l = length l.rest
