-- The word with which an OFF file begins
use Rattle.std.specs.Prelude.{codes, ℕ, Bool, ◌&&◌, List, length, take, drop, if◌then◌else◌, is_some, nat_le}
use Rattle.std.specs.Str.{str_eq_ignore_ascii_case}
use Rattle.mesh_number.specs.Number.Naturals.{number_of}

-- ---- [ST][C][N] and a name: a vertex may have a texture, a colour and a normal after its coordinates
-- the word begins with these letters, in any case
abbrev pub has_prefix : List ℕ → List ℕ → Bool
has_prefix prefix word =
    nat_le (length prefix) (length word) && str_eq_ignore_ascii_case (take (length prefix) word) prefix

-- what follows these letters, if the word begins with them
abbrev pub without : List ℕ → List ℕ → List ℕ
without prefix word = if has_prefix prefix word then drop (length prefix) word else word

-- the name at the end of the word
abbrev pub name_in : List ℕ → List ℕ
name_in word = without (codes "N") (without (codes "C") (without (codes "ST") word))

-- ---- the names
-- a vertex has three coordinates
abbrev pub is_keyword : List ℕ → Bool
is_keyword word = str_eq_ignore_ascii_case (name_in word) (codes "OFF")

-- a vertex has four coordinates
abbrev pub is_homogeneous : List ℕ → Bool
is_homogeneous word = str_eq_ignore_ascii_case (name_in word) (codes "4OFF")

-- a file without the word begins with the number of its vertices
abbrev pub is_count : List ℕ → Bool
is_count word = is_some (number_of word)
