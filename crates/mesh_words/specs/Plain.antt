-- Words of a command that has no options
use Rattle.std.specs.Prelude.{ℕ, ◌+◌, ◌&&◌, Bool, not, List, [], ◌∷◌, filter, Option, Some, None, if◌then◌else◌}
use Rattle.mesh_words.specs.Names.{Text}
use Rattle.mesh_words.specs.Arguments.{is_help, is_json}
use Rattle.mesh_words.specs.Streams.{is_option_word}

-- the word begins with a hyphen, isn't `-` itself, and asks neither for help nor for JSON
abbrev pub is_option : Text → Bool
is_option word = is_option_word word && (not (is_help word) && not (is_json word))

-- the number of the first such word, if there is one; the first word has number n
abbrev pub first_option : ℕ → List Text → Option ℕ
first_option n [] = None
first_option n (word ∷ words) = if is_option word then Some n else first_option (n + 1) words

-- the words that don't begin with a hyphen, and `-` itself
abbrev pub plain_names : List Text → List Text
plain_names words = filter (λ word. not (is_option_word word)) words
