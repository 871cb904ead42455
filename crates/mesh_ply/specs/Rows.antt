-- The rows of a file: what their properties say
use Rattle.std.specs.Prelude.{ℕ, zero, suc, Bool, true, false, List, [], ◌∷◌, ◌++◌, min, Option, None}
use Rattle.std.specs.Prelude.{Some, Result, Ok, Err}
use Rattle.std.specs.Option.{option_map}
use Rattle.mesh_number.specs.Number.Fractions.{Fraction}
use Rattle.mesh_number.specs.Number.Naturals.{below}
use Rattle.mesh_ply.specs.declared.declarations.ScalarType.{ScalarType}
use Rattle.mesh_ply.specs.declared.declarations.Axis.{Axis}
use Rattle.mesh_ply.specs.declared.declarations.Axis.TheVariants.{X, Y, Z}
use Rattle.mesh_ply.specs.declared.declarations.Declaration.{Declaration}
use Rattle.mesh_ply.specs.declared.declarations.Declaration.TheVariants as declaration
use Rattle.mesh_ply.specs.declared.place.RowPlace.{RowPlace}
use Rattle.mesh_ply.specs.declared.fault.PlyFault.{PlyFault}
use Rattle.mesh_ply.specs.declared.fault.PlyFault.TheVariants.{ShortRow, NotFinite, NoSuchVertex}
use Rattle.mesh_ply.specs.Scalars.{Scalar, value_of_scalar, number_of_scalar}
use Rattle.mesh_ply.specs.Cursors.{Cursor, next_row, next_scalar}

-- what is read first, and then the next with its result, up to the first fault
abbrev pub and_then : {A B : Type 0} → Result A PlyFault → (A → Result B PlyFault) → Result B PlyFault
and_then (Err fault) next = Err fault
and_then (Ok first) next = next first

-- the coordinates and the corners that a row has
pub record Row : Type 0 where
  pub x : Option Fraction
  pub y : Option Fraction
  pub z : Option Fraction
  pub corners : Option (List ℕ)

-- a row before its first property
abbrev pub empty_row : Row
empty_row = record { x = None; y = None; z = None; corners = None }

-- what the row has, or the fault that it ends before
abbrev pub unless_short : {A : Type 0} → RowPlace → Option A → Result A PlyFault
unless_short place None = Err (ShortRow place.name place.number)
unless_short place (Some a) = Ok a

abbrev pub one_scalar : RowPlace → ScalarType → Cursor → Result (Scalar × Cursor) PlyFault
one_scalar place type cursor = unless_short place (next_scalar type cursor)

-- ---- scalars
abbrev pub with_coordinate : Axis → Fraction → Row → Row
with_coordinate X value row = record row { x = Some value }
with_coordinate Y value row = record row { y = Some value }
with_coordinate Z value row = record row { z = Some value }

abbrev pub with_value : RowPlace → Axis → Row → Option Fraction → Result Row PlyFault
with_value place axis row None = Err (NotFinite place.number)
with_value place axis row (Some value) = Ok (with_coordinate axis value row)

abbrev pub with_scalar : RowPlace → Option Axis → Row → Scalar → Result Row PlyFault
with_scalar place None row scalar = Ok row
with_scalar place (Some axis) row scalar = with_value place axis row (value_of_scalar scalar)

-- ---- lists
abbrev pub corner_or_fault : RowPlace → Option ℕ → Result ℕ PlyFault
corner_or_fault place None = Err (NoSuchVertex place.number)
corner_or_fault place (Some corner) = Ok corner

-- an index of one of the vertices before the row
abbrev pub corner_of : RowPlace → Scalar → Result ℕ PlyFault
corner_of place scalar = corner_or_fault place (below place.vertices (number_of_scalar scalar))

-- n corners after those that are read
abbrev pub corners_from : RowPlace → ScalarType → ℕ → List ℕ → Cursor → Result (List ℕ × Cursor) PlyFault
corners_from place item zero corners cursor = Ok (corners, cursor)
corners_from place item (suc left) corners cursor =
    and_then (one_scalar place item cursor) (λ s.
    and_then (corner_of place s.0) (λ corner.
    corners_from place item left (corners ++ corner ∷ []) s.1))

-- what follows n scalars
abbrev pub skipped : RowPlace → ScalarType → ℕ → Cursor → Result Cursor PlyFault
skipped place item zero cursor = Ok cursor
skipped place item (suc left) cursor =
    and_then (one_scalar place item cursor) (λ s. skipped place item left s.1)

abbrev pub with_corners : Row → List ℕ × Cursor → Row × Cursor
with_corners row read = (record row { corners = Some read.0 }, read.1)

abbrev pub list_of_size : RowPlace → Bool → ScalarType → ℕ → Row → Cursor → Result (Row × Cursor) PlyFault
list_of_size place true item size row cursor =
    and_then (corners_from place item size [] cursor) (λ read. Ok (with_corners row read))
list_of_size place false item size row cursor =
    and_then (skipped place item size cursor) (λ rest. Ok (row, rest))

-- the size of a list; no row has 10^15 items, and a larger size is taken for that
abbrev pub size_of : Scalar → Option ℕ
size_of scalar = option_map (min 1000000000000000) (number_of_scalar scalar)

-- ---- properties
-- a row after a property with one scalar
abbrev pub scalar_property : RowPlace → Option Axis → ScalarType → Row → Cursor → Result (Row × Cursor) PlyFault
scalar_property place axis type row cursor =
    and_then (one_scalar place type cursor) (λ s.
    and_then (with_scalar place axis row s.0) (λ r. Ok (r, s.1)))

-- a row after a property with a list
abbrev pub list_property :
    RowPlace → Bool → ScalarType → ScalarType → Row → Cursor → Result (Row × Cursor) PlyFault
list_property place corners size item row cursor =
    and_then (one_scalar place size cursor) (λ s.
    and_then (unless_short place (size_of s.0)) (λ n.
    list_of_size place corners item n row s.1))

-- whether an element has a property
abbrev pub begins_property : List Declaration → Bool
begins_property [] = false
begins_property (declaration.Element element ∷ ds) = false
begins_property (declaration.Scalar axis type ∷ ds) = true
begins_property (declaration.List corners size item ∷ ds) = true

-- the properties up to the next element
abbrev pub properties : RowPlace → List Declaration → Row → Cursor → Result (Row × Cursor) PlyFault
properties place [] row cursor = Ok (row, cursor)
properties place (declaration.Element element ∷ ds) row cursor = Ok (row, cursor)
properties place (declaration.Scalar axis type ∷ ds) row cursor =
    and_then (scalar_property place axis type row cursor) (λ r. properties place ds r.0 r.1)
properties place (declaration.List corners size item ∷ ds) row cursor =
    and_then (list_property place corners size item row cursor) (λ r. properties place ds r.0 r.1)

-- the next row, with these properties
abbrev pub row_at : RowPlace → List Declaration → Cursor → Result (Row × Cursor) PlyFault
row_at place ds cursor =
    and_then (unless_short place (next_row cursor)) (λ c. properties place ds empty_row c)
