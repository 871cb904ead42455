-- Texts that commands write, over contents that their files may have
use Rattle.std.specs.Prelude.{ℕ, List, Some}
use Rattle.std.specs.Global.{Vec}
use Rattle.ember_io.specs.Shelves.{Told}
use Rattle.ember_words.specs.declared.command.Command.{Command}
use Rattle.ember_verdict.specs.Held.{MayHold}
use Rattle.ember_verdict.specs.Statuses.{IsText}
use Rattle.ember_verdict.specs.Verdict.{Contents, Verdict, names_of, verdict_of}

-- the text is the output of the verdict over contents that the files with these names may have
abbrev pub IsTextOver : (Contents → Verdict) → List (List ℕ) → Told → Vec ℕ → Type 0
IsTextOver verdict names told text = MayHold told names (λ contents. IsText (verdict contents) text.items)

-- the text is the output of this command over contents that its files may have
abbrev pub IsTextOf : Command → Told → Vec ℕ → Type 0
IsTextOf command told text = IsTextOver (verdict_of (Some command)) (names_of (Some command)) told text
