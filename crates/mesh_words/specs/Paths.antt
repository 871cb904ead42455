-- Which names are of the same path. Names of different paths may be of one file too: by links, or by `..`
use Rattle.std.specs.Prelude.{◌&&◌, Bool, true, false, List, [], ◌∷◌, if◌then◌else◌}
use Rattle.std.specs.Path.{cur_dir, path_components}
use Rattle.std.specs.Str.{bytes_eq}
use Rattle.mesh_words.specs.Names.{Text}

-- without a `.` at the front
abbrev pub without_dot : List Text → List Text
without_dot [] = []
without_dot (part ∷ parts) = if bytes_eq part cur_dir then parts else part ∷ parts

-- `/`, if the path begins with a slash, and the parts between slashes that are neither empty nor `.`
abbrev pub components_of : Text → List Text
components_of path = without_dot (path_components path)

abbrev pub are_same : List Text → List Text → Bool
are_same [] [] = true
are_same [] (other ∷ others) = false
are_same (part ∷ parts) [] = false
are_same (part ∷ parts) (other ∷ others) = bytes_eq part other && are_same parts others

-- the paths have the same components
abbrev pub is_same_path : Text → Text → Bool
is_same_path one other = are_same (components_of one) (components_of other)
