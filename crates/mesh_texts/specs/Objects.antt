-- Objects of JSON
use Rattle.std.specs.Prelude.{ℕ, Bool, List, [], ◌∷◌, ◌++◌, Some, None, codes, map, if◌then◌else◌}
use Rattle.std.specs.declared.option.Option.{Option}
use Rattle.std.specs.Global.{Vec}
use Rattle.mesh_info.specs.Info.Lines.{quoted}
use Rattle.mesh_texts.specs.declared.objects.Member.{Member}

-- a key, and the text of its value
abbrev pub Entry : Type 0
Entry = List ℕ × List ℕ

abbrev pub entry_of : Member → Entry
entry_of member = (member.key.now, member.value.items)

abbrev pub entries_of : List Member → List Entry
entries_of members = map entry_of members

-- `"KEY": VALUE`
abbrev pub entry_text : Entry → List ℕ
entry_text entry = quoted entry.0 ++ (codes ": " ++ entry.1)

-- each of the texts behind a comma
abbrev pub behind : List (List ℕ) → List ℕ
behind [] = []
behind (text ∷ texts) = codes ", " ++ (text ++ behind texts)

-- the texts with commas between them
abbrev pub listed : List (List ℕ) → List ℕ
listed [] = []
listed (text ∷ texts) = text ++ behind texts

-- `{"KEY": VALUE, ..}`
abbrev pub object : List Entry → List ℕ
object entries = codes "{" ++ (listed (map entry_text entries) ++ codes "}")

-- the same in a line of its own
abbrev pub object_line : List Entry → List ℕ
object_line entries = object entries ++ codes "\n"

-- `[VALUE, ..]`
abbrev pub array : List (List ℕ) → List ℕ
array values = codes "[" ++ (listed values ++ codes "]")

abbrev pub texts_of : List (Vec ℕ) → List (List ℕ)
texts_of values = map (λ value. value.items) values

-- a string, or null
abbrev pub optional : Option (List ℕ) → List ℕ
optional None = codes "null"
optional (Some text) = quoted text

abbrev pub truth_value : Bool → List ℕ
truth_value holds = if holds then codes "true" else codes "false"
