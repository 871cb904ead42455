-- Words in the canonical spelling give the command of their values.
use Rattle.std.proofs.Common.{◌≡◌, ℕ, List, Some, None, Ok, Err, refl, sym, ◌∙◌}
use Rattle.std.specs.declared.option.Option.{Option}
use Rattle.ember_words.specs.declared.command.Command.{Command}
use Rattle.ember_words.specs.declared.command.WordsFault.TheVariants.{Words}
use Rattle.ember_words.specs.WordsCommand.{command_of}
use Rattle.ember_words.specs.Canonical.{CommandLine, IsCanonical, command_of_line, words_of}
use Rattle.ember_words.proofs.CanonicalWords.{canonical_reads}

-- words in the canonical spelling give their command
pub canonical_command : (words : List (List ℕ)) (line : CommandLine) → IsCanonical line → words ≡ words_of line → command_of words ≡ command_of_line line
canonical_command words line h is = by (command_of words) refl
  where
    by : (value : Option Command) → command_of words ≡ value → command_of words ≡ command_of_line line
    by None e = e ∙ sym (canonical_reads words (Err Words) e line h is)
    by (Some command) e = e ∙ sym (canonical_reads words (Ok command) e line h is)
