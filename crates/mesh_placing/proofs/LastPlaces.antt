-- The last steps of a file
use Rattle.std.proofs.Common.{◌≡◌, ℕ, List, ◌∷◌, Option, Some, None, refl}
use Rattle.std.specs.Option.{option_or}
use Rattle.mesh_placing.specs.Files.{place_of, place_said, steps_if}

option_or_assoc : {T : Type 0} (x y z : Option T) → option_or (option_or x y) z ≡ option_or x (option_or y z)
option_or_assoc (Some x) y z = refl
option_or_assoc None y z = refl

-- the last steps of a file, behind those that were found before
pub later_place : (files number : ℕ) (place : List ℕ) (places : List (List ℕ)) (steps : Option (List ℕ)) →
    option_or (place_of files number (place ∷ places)) steps
    ≡ option_or (place_of files number places) (option_or (steps_if number (place_said files place)) steps)
later_place files number place places steps =
    option_or_assoc (place_of files number places) (steps_if number (place_said files place)) steps
