-- Formats that aren't read, by how their files begin
use Rattle.std.specs.Prelude.{ℕ, Bool, false, ◌||◌, List, [], ◌∷◌, ◌++◌, if◌then◌else◌, nat_eq, take, codes}
use Rattle.std.specs.Prelude.{Option, None, Some}
use Rattle.std.specs.List.{starts_with}
use Rattle.mesh_read.specs.Scan.Parts.{Piece, is_space, words_by}
use Rattle.mesh_read.specs.Stl.ReadStl.{has_name}
use Rattle.mesh_file.specs.declared.file.unread.UnreadFormat.{UnreadFormat}
use Rattle.mesh_file.specs.declared.file.unread.UnreadFormat.TheVariants.{Zip, Gzip, Fbx, Step, Vrml, Collada}
use Rattle.mesh_file.specs.declared.file.unread.UnreadFormat.TheVariants.{Amf, Html}

-- ---- formats with bytes of their own in front
-- `Kaydara FBX` begins binary files of FBX, and a comment those of text
abbrev pub is_fbx : List ℕ → Bool
is_fbx bytes = starts_with nat_eq bytes (codes "Kaydara FBX") || starts_with nat_eq bytes (codes "; FBX")

abbrev pub signed_format : List ℕ → Option UnreadFormat
signed_format bytes =
    if starts_with nat_eq bytes (80 ∷ 75 ∷ 3 ∷ 4 ∷ []) then Some Zip
    else (if starts_with nat_eq bytes (31 ∷ 139 ∷ []) then Some Gzip
    else (if is_fbx bytes then Some Fbx
    else (if starts_with nat_eq bytes (codes "ISO-10303-21") then Some Step
    else (if starts_with nat_eq bytes (codes "#VRML") then Some Vrml
    else None))))

-- ---- markup
-- a word begins a tag, with or without the byte order mark of UTF-8 before it
abbrev pub begins_tag : List ℕ → Bool
begins_tag word = starts_with nat_eq word (codes "<") || starts_with nat_eq word (239 ∷ 187 ∷ 191 ∷ 60 ∷ [])

-- the first of the words does
abbrev pub first_begins_tag : List Piece → Bool
first_begins_tag [] = false
first_begins_tag (word ∷ words) = begins_tag word.text

abbrev pub is_markup : List ℕ → Bool
is_markup bytes = first_begins_tag (words_by is_space 0 bytes [])

abbrev pub is_html : List ℕ → Bool
is_html text = has_name (codes "<html") text || has_name (codes "<!doctype html") text

-- the format of markup, of which this is the front
abbrev pub markup_format : List ℕ → Option UnreadFormat
markup_format text =
    if has_name (codes "<collada") text then Some Collada
    else (if has_name (codes "<amf") text then Some Amf
    else (if is_html text then Some Html
    else None))

-- ---- all of them
-- the format that a file with these bytes begins as
abbrev pub unread_format : List ℕ → Option UnreadFormat
unread_format bytes = if is_markup bytes then markup_format (take 4096 bytes) else signed_format bytes
