-- What the bytes of an STL file mean: its triangles, or its first fault.
use Rattle.std.specs.Prelude.{ℕ, ◌+◌, ◌*◌, Bool, true, false, ◌&&◌, ◌||◌, List, [], ◌∷◌}
use Rattle.std.specs.Prelude.{Result, Ok, Err, if◌then◌else◌, ◌==◌, nat_le, length, take, codes}
use Rattle.std.specs.Str.{str_eq_ignore_ascii_case}
use Rattle.mesh_read.specs.declared.surface.flaw.Flaw.{Flaw}
use Rattle.mesh_read.specs.declared.surface.flaw.Flaw.TheVariants as flaw
use Rattle.mesh_read.specs.Scan.Parts.{Piece, is_space, words_by}
use Rattle.mesh_read.specs.Surface.Surfaces.{Content}
use Rattle.mesh_read.specs.Surface.Flaws.{as_mesh}
use Rattle.mesh_read.specs.declared.stl.fault.StlFault.{StlFault}
use Rattle.mesh_read.specs.declared.stl.fault.StlFault.TheVariants.{CutOff, NoTriangles, LargeInFacet, LargeInLine}
use Rattle.mesh_read.specs.Stl.Ascii.{ascii_of}
use Rattle.mesh_read.specs.Stl.Binary.{number_at, binary_of}

-- the length is that of a binary STL with as many facets as it says, even if its header begins with `solid`
abbrev pub is_binary : List ℕ → Bool
is_binary bytes = nat_le 84 (length bytes) && length bytes == 84 + 50 * number_at bytes 80

-- the first word is this one, in any case
abbrev pub begins_with : List ℕ → List Piece → Bool
begins_with name [] = false
begins_with name (word ∷ words) = str_eq_ignore_ascii_case word.text name

-- the name occurs in a text, in any case
abbrev pub has_name : List ℕ → List ℕ → Bool
has_name name [] = false
has_name name (b ∷ bs) = str_eq_ignore_ascii_case (take (length name) (b ∷ bs)) name || has_name name bs

-- the first word is `solid`, and `facet` or `endsolid` occurs in the first 4,096 bytes
abbrev pub is_ascii : List ℕ → Bool
is_ascii bytes =
    begins_with (codes "solid") (words_by is_space 0 bytes [])
    && (has_name (codes "facet") (take 4096 bytes) || has_name (codes "endsolid") (take 4096 bytes))

-- how many facets the file says that it has, if it is long enough to say so
abbrev pub facets_said : List ℕ → ℕ
facets_said bytes = if nat_le 84 (length bytes) then number_at bytes 80 else 0

-- ---- what no mesh has
abbrev pub large_in : Bool → ℕ → StlFault
large_in true facet = LargeInFacet facet
large_in false line = LargeInLine line

abbrev pub of_flaw : Bool → Flaw → StlFault
of_flaw binary flaw.NoTriangles = NoTriangles
of_flaw binary (flaw.TooLarge place) = large_in binary place

-- there are triangles, and all their coordinates are below 10^15 in size
abbrev pub checked : Bool → Result Content StlFault → Result Content StlFault
checked binary = as_mesh (of_flaw binary)

-- the triangles of a file, or its first fault
abbrev pub read_stl_of : List ℕ → Result Content StlFault
read_stl_of bytes =
    if is_binary bytes then checked true (binary_of bytes)
    else (if is_ascii bytes then checked false (ascii_of bytes) else Err (CutOff (facets_said bytes)))
