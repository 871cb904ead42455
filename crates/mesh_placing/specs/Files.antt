-- Which files words place: FILE:STEPS, and the numbers of files that are turned inside out
use Rattle.std.specs.Prelude.{◌≡◌, ◌⊎◌, ℕ, ◌+◌, ◌==◌, ◌||◌, Bool, true, false, List, [], ◌∷◌, length, map, if◌then◌else◌}
use Rattle.std.specs.Prelude.{Option, None, Some, Result, Ok, Err, MatchOption, is_some}
use Rattle.std.specs.List.{AllZip, list_any, range_with_len}
use Rattle.std.specs.Option.{option_or}
use Rattle.mesh_number.specs.Number.Naturals.{number_of, below}
use Rattle.mesh_placing.specs.declared.files.PlaceFault.{PlaceFault}
use Rattle.mesh_placing.specs.declared.files.PlaceFault.TheVariants.{NoFile, Steps}
use Rattle.mesh_placing.specs.declared.files.Placing.{Placing}
use Rattle.mesh_placing.specs.declared.words.TextFault.{TextFault}
use Rattle.mesh_placing.specs.Words.{Said, said_by, then_some, behind, part_before, steps_said}

-- ---- values
-- a number that isn't 0
abbrev pub from_one : Option ℕ → Option ℕ
from_one None = None
from_one (Some n) = if n == 0 then None else Some n

-- the number of one of so many files, from 1
abbrev pub file_said : ℕ → List ℕ → Option ℕ
file_said files text = from_one (below (files + 1) (number_of text))

-- FILE:STEPS, as the number of one of so many files and the text of its steps
abbrev pub place_said : ℕ → List ℕ → Option (ℕ × List ℕ)
place_said files text =
    then_some (file_said files (part_before 58 text)) (λ n. then_some (behind 58 text) (λ steps. Some (n, steps)))

-- ---- faults
abbrev pub steps_fault : ℕ → Result (List Said) TextFault → Option PlaceFault
steps_fault file (Ok steps) = None
steps_fault file (Err fault) = Some (Steps file fault)

abbrev pub fault_in : Option (ℕ × List ℕ) → Option PlaceFault
fault_in None = Some NoFile
fault_in (Some place) = steps_fault place.0 (steps_said place.1)

-- why a text says no placing of one of so many files
abbrev pub place_fault : ℕ → List ℕ → Option PlaceFault
place_fault files text = fault_in (place_said files text)

-- the first of them
abbrev pub first_place_fault : ℕ → List (List ℕ) → Option PlaceFault
first_place_fault files [] = None
first_place_fault files (place ∷ places) = option_or (place_fault files place) (first_place_fault files places)

-- ---- the file with a number
abbrev pub steps_if : ℕ → Option (ℕ × List ℕ) → Option (List ℕ)
steps_if number None = None
steps_if number (Some place) = if place.0 == number then Some place.1 else None

-- the text of its steps: the last one counts
abbrev pub place_of : ℕ → ℕ → List (List ℕ) → Option (List ℕ)
place_of files number [] = None
place_of files number (place ∷ places) =
    option_or (place_of files number places) (steps_if number (place_said files place))

abbrev pub is_file : ℕ → Option ℕ → Bool
is_file number None = false
is_file number (Some file) = file == number

-- it is turned inside out
abbrev pub is_turned : ℕ → ℕ → List (List ℕ) → Bool
is_turned files number turns = list_any (λ turn. is_file number (file_said files turn)) turns

-- ---- placings
-- the steps that are asked for
abbrev pub steps_wanted : Option (List ℕ) → Result (List Said) TextFault
steps_wanted None = Ok []
steps_wanted (Some text) = steps_said text

-- a placing by the steps of this text, if there is one
pub record IsPlacing (text : Option (List ℕ)) (turned : Bool) (p : Placing) : Type 0 where
  pub asked : (is_some text || turned) ≡ true
  pub steps : steps_wanted text ≡ Ok (map said_by p.steps.items)
  pub as_asked : p.is_turned ≡ turned

-- neither steps nor a turn inside out are asked for
pub record IsUnplaced (text : Option (List ℕ)) (turned : Bool) : Type 0 where
  pub steps : text ≡ None
  pub kept : turned ≡ false

abbrev pub IsPlacingIf : Option (List ℕ) → Bool → Option Placing → Type 0
IsPlacingIf text turned placing = MatchOption placing (IsUnplaced text turned) (IsPlacing text turned)

-- the placing of the file with this number
abbrev pub IsPlacingOf : ℕ → List (List ℕ) → List (List ℕ) → ℕ → Option Placing → Type 0
IsPlacingOf files places turns number placing =
    IsPlacingIf (place_of files number places) (is_turned files number turns) placing

-- nothing is said of any file
pub record AreUnplaced (places turns : List (List ℕ)) (placings : List (Option Placing)) : Type 0 where
  pub no_places : places ≡ []
  pub no_turns : turns ≡ []
  pub none : placings ≡ []

-- a placing for each file, from the first to the last
pub record AreOneEach (files : ℕ) (places turns : List (List ℕ)) (placings : List (Option Placing)) : Type 0 where
  pub each : AllZip (IsPlacingOf files places turns) (range_with_len 1 files) placings
  pub all : length placings ≡ files

-- what words say of so many files
abbrev pub ArePlacingsOf : ℕ → List (List ℕ) → List (List ℕ) → List (Option Placing) → Type 0
ArePlacingsOf files places turns placings =
    AreUnplaced places turns placings ⊎ AreOneEach files places turns placings
