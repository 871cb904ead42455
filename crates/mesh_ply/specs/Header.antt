-- The header of a PLY file: the encoding of what follows it, and its elements with their properties
use Rattle.std.specs.Prelude.{codes, ℕ, ◌+◌, Bool, true, false, ◌||◌, List, [], ◌∷◌, ◌++◌, if◌then◌else◌}
use Rattle.std.specs.Prelude.{min, Option, None, Some, Result, Ok, Err}
use Rattle.std.specs.Str.{bytes_eq}
use Rattle.mesh_number.specs.Number.Naturals.{number_of}
use Rattle.mesh_read.specs.Scan.Parts.{Piece, span_of, words_of, lines_from, after_lines}
use Rattle.mesh_ply.specs.declared.declarations.ScalarType.{ScalarType}
use Rattle.mesh_ply.specs.declared.declarations.ScalarType.TheVariants.{Int8, Uint8, Int16, Uint16}
use Rattle.mesh_ply.specs.declared.declarations.ScalarType.TheVariants.{Int32, Uint32, Float32, Float64}
use Rattle.mesh_ply.specs.declared.declarations.ByteOrder.TheVariants.{Little, Big}
use Rattle.mesh_ply.specs.declared.declarations.Encoding.{Encoding}
use Rattle.mesh_ply.specs.declared.declarations.Encoding.TheVariants.{Ascii, Binary}
use Rattle.mesh_ply.specs.declared.declarations.ElementKind.{ElementKind}
use Rattle.mesh_ply.specs.declared.declarations.ElementKind.TheVariants.{Vertex, Face, Other}
use Rattle.mesh_ply.specs.declared.declarations.Axis.{Axis}
use Rattle.mesh_ply.specs.declared.declarations.Axis.TheVariants.{X, Y, Z}
use Rattle.mesh_ply.specs.declared.declarations.Declaration.{Declaration}
use Rattle.mesh_ply.specs.declared.declarations.Declaration.TheVariants as declaration
use Rattle.mesh_ply.specs.declared.declarations.Entry.{Entry}
use Rattle.mesh_ply.specs.declared.declarations.Entry.TheVariants as entry
use Rattle.mesh_ply.specs.declared.fault.PlyFault.{PlyFault}
use Rattle.mesh_ply.specs.declared.fault.PlyFault.TheVariants.{NoEnd, NotUnderstood}

-- ---- names
abbrev pub is_either : List ℕ → List ℕ → List ℕ → Bool
is_either name old new = bytes_eq name old || bytes_eq name new

-- each type has two names
abbrev pub float_named : List ℕ → Option ScalarType
float_named name =
    if is_either name (codes "float") (codes "float32") then Some Float32
    else (if is_either name (codes "double") (codes "float64") then Some Float64
    else None)

abbrev pub wide_named : List ℕ → Option ScalarType
wide_named name =
    if is_either name (codes "int") (codes "int32") then Some Int32
    else (if is_either name (codes "uint") (codes "uint32") then Some Uint32
    else float_named name)

-- the type with this name
abbrev pub type_named : List ℕ → Option ScalarType
type_named name =
    if is_either name (codes "char") (codes "int8") then Some Int8
    else (if is_either name (codes "uchar") (codes "uint8") then Some Uint8
    else (if is_either name (codes "short") (codes "int16") then Some Int16
    else (if is_either name (codes "ushort") (codes "uint16") then Some Uint16
    else wide_named name)))

-- the encoding with this name
abbrev pub encoding_named : List ℕ → Option Encoding
encoding_named name =
    if bytes_eq name (codes "ascii") then Some Ascii
    else (if bytes_eq name (codes "binary_little_endian") then Some (Binary Little)
    else (if bytes_eq name (codes "binary_big_endian") then Some (Binary Big)
    else None))

-- the kind of the element with this name
abbrev pub kind_named : List ℕ → ElementKind
kind_named name =
    if bytes_eq name (codes "vertex") then Vertex else (if bytes_eq name (codes "face") then Face else Other)

-- the coordinate that a property of this name is
abbrev pub axis_of_name : List ℕ → Option Axis
axis_of_name name =
    if bytes_eq name (codes "x") then Some X
    else (if bytes_eq name (codes "y") then Some Y
    else (if bytes_eq name (codes "z") then Some Z
    else None))

-- vertices alone have coordinates
abbrev pub axis_named : ElementKind → List ℕ → Option Axis
axis_named Vertex name = axis_of_name name
axis_named Face name = None
axis_named Other name = None

-- faces alone have corners
abbrev pub are_corners : ElementKind → List ℕ → Bool
are_corners Vertex name = false
are_corners Face name = is_either name (codes "vertex_indices") (codes "vertex_index")
are_corners Other name = false

-- ---- lines
-- words of a line, if there are no others
abbrev pub two_of : List Piece → Option (Piece × Piece)
two_of [] = None
two_of (a ∷ []) = None
two_of (a ∷ b ∷ []) = Some (a, b)
two_of (a ∷ b ∷ c ∷ more) = None

abbrev pub four_of : List Piece → Option (Piece × Piece × Piece × Piece)
four_of [] = None
four_of (a ∷ []) = None
four_of (a ∷ b ∷ []) = None
four_of (a ∷ b ∷ c ∷ []) = None
four_of (a ∷ b ∷ c ∷ d ∷ []) = Some (a, b, c, d)
four_of (a ∷ b ∷ c ∷ d ∷ e ∷ more) = None

-- what follows `format`
abbrev pub format_entry : List Piece → Option Entry
format_entry [] = None
format_entry (name ∷ more) = Some (entry.Format (encoding_named name.text))

-- an element with its number of rows; no file has 10^15 rows, and a larger number is taken for that
abbrev pub counted : Piece → Option ℕ → Option Entry
counted name None = None
counted name (Some count) = Some (entry.Declared (declaration.Element (record {
  kind = kind_named name.text;
  name = span_of name;
  count = min 1000000000000000 count;
})))

-- what follows `element`
abbrev pub element_entry : Option (Piece × Piece) → Option Entry
element_entry None = None
element_entry (Some words) = counted words.0 (number_of words.1.text)

abbrev pub scalar_of_type : ElementKind → Piece → Option ScalarType → Option Entry
scalar_of_type kind name None = None
scalar_of_type kind name (Some type) = Some (entry.Declared (declaration.Scalar (axis_named kind name.text) type))

-- a type and a name
abbrev pub scalar_entry : ElementKind → Option (Piece × Piece) → Option Entry
scalar_entry kind None = None
scalar_entry kind (Some words) = scalar_of_type kind words.1 (type_named words.0.text)

abbrev pub list_of_types : ElementKind → Piece → Option ScalarType → Option ScalarType → Option Entry
list_of_types kind name None item = None
list_of_types kind name (Some size) None = None
list_of_types kind name (Some size) (Some item) =
    Some (entry.Declared (declaration.List (are_corners kind name.text) size item))

-- `list`, the type of the size, the type of the items, and a name
abbrev pub list_entry : ElementKind → Option (Piece × Piece × Piece × Piece) → Option Entry
list_entry kind None = None
list_entry kind (Some words) =
    if bytes_eq words.0.text (codes "list")
    then list_of_types kind words.3 (type_named words.1.text) (type_named words.2.text)
    else None

abbrev pub either : Option Entry → Option Entry → Option Entry
either None second = second
either (Some first) second = Some first

-- what follows `property`, after an element of this kind
abbrev pub property_entry : Option ElementKind → List Piece → Option Entry
property_entry None words = None
property_entry (Some kind) words = either (scalar_entry kind (two_of words)) (list_entry kind (four_of words))

-- lines that are passed over
abbrev pub is_passed : List ℕ → Bool
is_passed keyword =
    bytes_eq keyword (codes "ply") || bytes_eq keyword (codes "comment") || bytes_eq keyword (codes "obj_info")

-- a line that isn't understood: before the first element no rows hang on it, and it is passed over
abbrev pub stray_entry : Option ElementKind → Option Entry
stray_entry None = Some entry.Passed
stray_entry (Some kind) = None

abbrev pub entry_behind : Option ElementKind → List ℕ → List Piece → Option Entry
entry_behind kind keyword words =
    if bytes_eq keyword (codes "property") then property_entry kind words
    else (if bytes_eq keyword (codes "element") then element_entry (two_of words)
    else (if bytes_eq keyword (codes "format") then format_entry words
    else (if is_passed keyword then Some entry.Passed
    else (if bytes_eq keyword (codes "end_header") then Some entry.End
    else stray_entry kind))))

-- what a line says, after an element of this kind, or before the first element
abbrev pub entry_of : Option ElementKind → List Piece → Option Entry
entry_of kind [] = Some entry.Passed
entry_of kind (keyword ∷ words) = entry_behind kind keyword.text words

-- ---- the header
-- the encoding, the kind of the last element, and the elements, each with its properties after it
pub record Header : Type 0 where
  pub encoding : Option Encoding
  pub kind : Option ElementKind
  pub declarations : List Declaration

-- the header before its first line
abbrev pub nothing_declared : Header
nothing_declared = record { encoding = None; kind = None; declarations = [] }

abbrev pub kind_behind : Option ElementKind → Declaration → Option ElementKind
kind_behind kind (declaration.Element element) = Some element.kind
kind_behind kind (declaration.Scalar axis type) = kind
kind_behind kind (declaration.List corners size item) = kind

-- the header after a line that means this
abbrev pub with_entry : Header → Entry → Header
with_entry header entry.Passed = header
with_entry header entry.End = header
with_entry header (entry.Format encoding) =
    record { encoding = encoding; kind = header.kind; declarations = header.declarations }
with_entry header (entry.Declared d) = record {
  encoding = header.encoding;
  kind = kind_behind header.kind d;
  declarations = header.declarations ++ d ∷ [];
}

abbrev pub is_end : Entry → Bool
is_end entry.Passed = false
is_end entry.End = true
is_end (entry.Format encoding) = false
is_end (entry.Declared d) = false

-- the header with a line and those after it, and how many lines it has, or its first fault
abbrev pub behind_entry : ℕ →
    Header → Option Entry → (Header → Result (Header × ℕ) PlyFault) → Result (Header × ℕ) PlyFault
behind_entry number header None next = Err (NotUnderstood number)
behind_entry number header (Some e) next = if is_end e then Ok (header, number) else next (with_entry header e)

-- the header of these lines; the first has this number
abbrev pub header_from : ℕ → Header → List Piece → Result (Header × ℕ) PlyFault
header_from number header [] = Err NoEnd
header_from number header (line ∷ lines) =
    behind_entry number header (entry_of header.kind (words_of line)) (λ h. header_from (number + 1) h lines)

-- a header with the bytes after its lines
abbrev pub with_body : List ℕ → Result (Header × ℕ) PlyFault → Result (Header × List ℕ) PlyFault
with_body bytes (Err fault) = Err fault
with_body bytes (Ok h) = Ok (h.0, after_lines h.1 bytes)

-- the header of a file, and the bytes after it
abbrev pub header_of_file : List ℕ → Result (Header × List ℕ) PlyFault
header_of_file bytes = with_body bytes (header_from 1 nothing_declared (lines_from 0 bytes))
