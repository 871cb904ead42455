-- How many triangles of the result lie on each file
use Rattle.std.specs.Prelude.{◌≡◌, ℕ, List, [], ◌∷◌, ◌++◌, ◌==◌, codes, decimal, if◌then◌else◌, None, Some}
use Rattle.std.specs.declared.option.Option.{Option}
use Rattle.std.specs.Global.{Vec}
use Rattle.mesh_info.specs.Info.Lines.{quoted}
use Rattle.mesh_texts.specs.Objects.{texts_of}
use Rattle.mesh_texts.specs.Texts.{line}

-- ---- lines
-- `FILE: N of M triangles of the result lie on it`
abbrev pub lying_text : List ℕ → ℕ → ℕ → List ℕ
lying_text name count all =
    name ++ (codes ": " ++ (decimal count ++
    (codes " of " ++ (decimal all ++ codes " triangles of the result lie on it"))))

-- the same if none does, and what to do
abbrev pub missed_text : List ℕ → ℕ → List ℕ
missed_text name all = lying_text name 0 all ++ codes "; see where it lies with ember-mesh view"

-- as a warning
abbrev pub missed_warning_text : List ℕ → ℕ → List ℕ
missed_warning_text name all = codes "warning: " ++ missed_text name all

-- the warning if none lies on it
abbrev pub on_file_text : List ℕ → ℕ → ℕ → List ℕ
on_file_text name count all = if count == 0 then missed_warning_text name all else lying_text name count all

-- a line for each file
abbrev pub on_file_lines : List (List ℕ) → List ℕ → ℕ → List ℕ
on_file_lines [] counts all = []
on_file_lines (name ∷ names) [] all = []
on_file_lines (name ∷ names) (count ∷ counts) all =
    line (on_file_text name count all) ++ on_file_lines names counts all

-- ---- warnings as JSON has them
-- that no triangle lies on a file, if none does
abbrev pub missed_warning : List ℕ → ℕ → ℕ → List (List ℕ)
missed_warning name count all = if count == 0 then quoted (missed_text name all) ∷ [] else []

-- of each file
abbrev pub missed_warnings : List (List ℕ) → List ℕ → ℕ → List (List ℕ)
missed_warnings [] counts all = []
missed_warnings (name ∷ names) [] all = []
missed_warnings (name ∷ names) (count ∷ counts) all =
    missed_warning name count all ++ missed_warnings names counts all

-- these texts are appended
abbrev pub AddsTexts : List (List ℕ) → Vec (Vec ℕ) → Vec (Vec ℕ) → Type 0
AddsTexts more old new = texts_of new.items ≡ texts_of old.items ++ more

-- ---- a result
-- the numbers of those that lie on each file, if they were counted
abbrev pub counted : Option (Vec ℕ) → List ℕ
counted None = []
counted (Some counts) = counts.items

-- the numbers that are told: if nothing is left, nothing lies on a file
abbrev pub told : ℕ → Option (Vec ℕ) → List ℕ
told all lying = if all == 0 then [] else counted lying
