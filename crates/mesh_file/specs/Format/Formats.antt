-- Which format a file has
use Rattle.std.specs.Prelude.{ℕ, ◌-◌, Bool, true, false, ◌&&◌, ◌||◌, List, [], ◌∷◌, if◌then◌else◌, ◌==◌, nat_eq}
use Rattle.std.specs.Prelude.{length, drop, codes}
use Rattle.std.specs.List.{starts_with}
use Rattle.std.specs.Str.{str_eq_ignore_ascii_case}
use Rattle.mesh_read.specs.Scan.Parts.{Piece, is_space, words_by}
use Rattle.mesh_read.specs.Stl.ReadStl.{is_binary, is_ascii}
use Rattle.mesh_read.specs.Off.Signs.{is_off, begins_with_count}
use Rattle.mesh_gltf.specs.Chunks.{is_glb}
use Rattle.mesh_file.specs.declared.format.format.Format.{Format}
use Rattle.mesh_file.specs.declared.format.format.Format.TheVariants.{Ply, BinaryStl, AsciiStl, Off, Gltf}
use Rattle.mesh_file.specs.declared.format.format.Format.TheVariants.{CutOffStl, Obj}

-- a line ends where these bytes begin
abbrev pub ends_line : List ℕ → Bool
ends_line [] = true
ends_line (b ∷ bs) = b == 10 || b == 13

-- the text begins with `ply` and a line end
abbrev pub is_ply : List ℕ → Bool
is_ply bytes = starts_with nat_eq bytes (codes "ply") && ends_line (drop 3 bytes)

-- the name has this ending, in any case
abbrev pub has_ending : List ℕ → List ℕ → Bool
has_ending ending name = str_eq_ignore_ascii_case (drop (length name - length ending) name) ending

-- the first word is a keyword of OFF, or a number in a file whose name ends in .off
abbrev pub is_off_file : List ℕ → List ℕ → Bool
is_off_file name bytes = is_off bytes || has_ending (codes ".off") name && begins_with_count bytes

-- the name ends in .gltf or .glb, in any case
abbrev pub has_gltf_name : List ℕ → Bool
has_gltf_name name = has_ending (codes ".gltf") name || has_ending (codes ".glb") name

-- the first of the words begins an object of JSON
abbrev pub first_begins_object : List Piece → Bool
first_begins_object [] = false
first_begins_object (word ∷ words) = starts_with nat_eq word.text (codes "{")

abbrev pub begins_object : List ℕ → Bool
begins_object bytes = first_begins_object (words_by is_space 0 bytes [])

-- a GLB, or an object of JSON in a file whose name is that of a glTF
abbrev pub is_gltf_file : List ℕ → List ℕ → Bool
is_gltf_file name bytes = is_glb bytes || has_gltf_name name && begins_object bytes

-- the name ends in .stl, in any case
abbrev pub has_stl_name : List ℕ → Bool
has_stl_name name = has_ending (codes ".stl") name

-- the format of a file with this name and these bytes: the first that fits
abbrev pub format_said : List ℕ → List ℕ → Format
format_said name bytes =
    if is_ply bytes then Ply
    else (if is_binary bytes then BinaryStl
    else (if is_ascii bytes then AsciiStl
    else (if is_off_file name bytes then Off
    else (if is_gltf_file name bytes then Gltf
    else (if has_stl_name name then CutOffStl
    else Obj)))))
