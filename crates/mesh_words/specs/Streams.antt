-- The word `-`, which stands for standard input and for standard output
use Rattle.std.specs.Prelude.{◌&&◌, Bool, not, List, count_by, codes, nat_lt}
use Rattle.std.specs.Str.{bytes_eq}
use Rattle.ember_dec.specs.Decimal.{is_minus}
use Rattle.mesh_words.specs.Names.{Text}

-- the word is `-`
abbrev pub is_stream : Text → Bool
is_stream word = bytes_eq word (codes "-")

-- the word begins with a hyphen, and more follows
abbrev pub is_option_word : Text → Bool
is_option_word word = is_minus word && not (is_stream word)

-- two of these names or more are `-`
abbrev pub reads_twice : List Text → Bool
reads_twice names = nat_lt 1 (count_by is_stream names)
