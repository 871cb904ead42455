-- The values of `--place` and `--turn`
use Rattle.std.specs.Prelude.{ℕ, List, Option, Some, None, Result, Ok, Err, if◌then◌else◌, is_some}
use Rattle.std.specs.List.{list_all}
use Rattle.mesh_placing.specs.declared.files.PlaceFault.{PlaceFault}
use Rattle.mesh_placing.specs.Files.{file_said, first_place_fault}
use Rattle.mesh_words.specs.declared.faults.Refusal.{Refusal}
use Rattle.mesh_words.specs.declared.faults.Refusal.TheVariants.{Place, Turn}
use Rattle.mesh_words.specs.Names.{Text}

abbrev pub places_with : List Text → Option PlaceFault → Result (List Text) Refusal
places_with places None = Ok places
places_with places (Some fault) = Err (Place fault)

-- texts each of which says a placing of one of so many files
abbrev pub places_of : ℕ → List Text → Result (List Text) Refusal
places_of files places = places_with places (first_place_fault files places)

-- texts each of which is the number of one of so many files
abbrev pub turns_of : ℕ → List Text → Result (List Text) Refusal
turns_of files turns = if list_all (λ turn. is_some (file_said files turn)) turns then Ok turns else Err Turn
