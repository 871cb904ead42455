use Rattle.std.proofs.Common.{◌≡◌}
use Rattle.std.specs.Path.{components_remaining}
use Rattle.mesh_words.specs.Paths.{are_same, is_same_path}
use Rattle.mesh_words.proofs.paths.is_same_path.Given as goal

abbrev pub invariant-loop-component : goal.invariant-loop-component
invariant-loop-component l =
    are_same (components_remaining l.component-iterator) (components_remaining l.others) ≡ is_same_path l.one l.other
