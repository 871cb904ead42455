use Rattle.std.proofs.Common.{◌≡◌, drop, option_map, List, ℕ}
use Rattle.std.specs.Borrow.{Bor}
use Rattle.std.specs.Option.{option_or}
use Rattle.mesh_placing.specs.Files.{place_of}
use Rattle.mesh_placing.proofs.files.place_of.Given as goal

abbrev pub invariant-loop-place : goal.invariant-loop-place
invariant-loop-place l =
    option_or (place_of l.files l.number (drop l.place-index l.places)) (option_map (λ (steps : Bor (List ℕ)). steps.now) l.steps)
    ≡ place_of l.files l.number l.places
