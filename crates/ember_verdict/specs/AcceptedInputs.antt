-- Inputs that have an output
use Rattle.std.specs.Prelude.{◌≡◌, ◌↔◌, ℕ, ℤ, List, Some, map}
use Rattle.ember_io.specs.Shelves.{Told}
use Rattle.ember_words.specs.declared.command.Command.{Command}
use Rattle.ember_words.specs.declared.command.Command.TheVariants.{Slice}
use Rattle.ember_verdict.specs.Accepted.{IsAccepted}
use Rattle.ember_verdict.specs.Outputs.{Output}
use Rattle.ember_verdict.specs.Statuses.{HasOutput}
use Rattle.ember_verdict.specs.Verdict.{Writes, names_of, told_verdict}

-- the verdict on the command is an output exactly if the command accepts its files with this output
abbrev pub WritesIfAccepting : Command → Type 0
WritesIfAccepting command =
    (told : Told) (output : Output) →
    (told_verdict (Some command) told ≡ Writes output) ↔
    IsAccepted command (map told (names_of (Some command))) output

-- the verdict on slicing the file of this name at the level is an output
abbrev pub HasSlice : Told → ℤ → List ℕ → Type 0
HasSlice told at name = HasOutput (told_verdict (Some (Slice at name)) told)
