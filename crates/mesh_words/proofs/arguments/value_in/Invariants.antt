use Rattle.std.proofs.Common.{◌≡◌, drop, option_map, List, ℕ}
use Rattle.std.specs.Borrow.{Bor}
use Rattle.std.specs.Option.{option_or}
use Rattle.mesh_words.specs.Arguments.{value_in}
use Rattle.mesh_words.proofs.arguments.value_in.Given as goal

abbrev pub invariant-loop-argument : goal.invariant-loop-argument
invariant-loop-argument l =
    option_or (value_in l.setting (drop l.argument-index l.arguments)) (option_map (λ (text : Bor (List ℕ)). text.now) l.value) ≡ value_in l.setting l.arguments
