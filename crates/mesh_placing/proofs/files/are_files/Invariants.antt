use Rattle.std.proofs.Common.{◌≡◌, drop}
use Rattle.std.specs.List.{list_all}
use Rattle.std.specs.Prelude.{is_some}
use Rattle.mesh_placing.specs.Files.{file_said}
use Rattle.mesh_placing.proofs.files.are_files.Given as goal

abbrev pub invariant-loop-turn : goal.invariant-loop-turn
invariant-loop-turn l =
    list_all (λ turn. is_some (file_said l.files turn)) (drop l.turn-index l.turns) ≡ list_all (λ turn. is_some (file_said l.files turn)) l.turns
