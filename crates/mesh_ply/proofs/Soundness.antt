-- Each corner that is read is a vertex
use Rattle.std.proofs.Common.{ℕ, zero, suc, Bool, true, false, ◌<◌, ◌+◌, List, [], ◌∷◌, ◌++◌, length}
use Rattle.std.proofs.Common.{arith, length-append, Option, None, Some, Result, Ok, Err, All}
use Rattle.std.specs.Prelude.{if◌then◌else◌, nat_lt, IfOk, IfSome}
use Rattle.std.proofs.lemmas.List.Elements.{All-nil, All-push, All-append, All-weaker}
use Rattle.mesh_number.specs.Number.Fractions.{Fraction}
use Rattle.mesh_number.specs.Number.Naturals.{below}
use Rattle.mesh_read.specs.declared.surface.surface.Facet.{Facet}
use Rattle.mesh_read.specs.Surface.Surfaces.{Point, Content, IsWithin, fan, no_content}
use Rattle.mesh_read.proofs.Fans.{fan_within}
use Rattle.mesh_read.proofs.Flaws.{IsSound}
use Rattle.mesh_read.proofs.Soundness.{limited}
use Rattle.mesh_ply.specs.declared.declarations.ScalarType.{ScalarType}
use Rattle.mesh_ply.specs.declared.declarations.Encoding.{Encoding}
use Rattle.mesh_ply.specs.declared.declarations.Axis.{Axis}
use Rattle.mesh_ply.specs.declared.declarations.Axis.TheVariants.{X, Y, Z}
use Rattle.mesh_ply.specs.declared.declarations.ElementKind.{ElementKind}
use Rattle.mesh_ply.specs.declared.declarations.ElementKind.TheVariants.{Vertex, Face, Other}
use Rattle.mesh_ply.specs.declared.declarations.Element.{Element}
use Rattle.mesh_ply.specs.declared.declarations.Declaration.{Declaration}
use Rattle.mesh_ply.specs.declared.declarations.Declaration.TheVariants as declaration
use Rattle.mesh_ply.specs.declared.place.RowPlace.{RowPlace}
use Rattle.mesh_ply.specs.declared.fault.PlyFault.{PlyFault}
use Rattle.mesh_ply.specs.declared.fault.PlyFault.TheVariants.{FewCorners}
use Rattle.mesh_ply.specs.Header.{header_of_file}
use Rattle.mesh_ply.specs.Scalars.{Scalar, value_of_scalar, number_of_scalar}
use Rattle.mesh_ply.specs.Cursors.{Cursor, next_row, begun}
use Rattle.mesh_ply.specs.Rows.{and_then, Row, empty_row, unless_short, one_scalar, with_value, with_scalar}
use Rattle.mesh_ply.specs.Rows.{corner_or_fault, corner_of, corners_from, skipped, list_of_size, size_of}
use Rattle.mesh_ply.specs.Rows.{scalar_property, list_property, begins_property, properties, row_at}
use Rattle.mesh_ply.specs.ReadPly.{point_of_three, facets_of, with_row, place_of, rows_from, bare_fault, unless_fault}
use Rattle.mesh_ply.specs.ReadPly.{element_rows, elements_from, content_in, content_of_file}

-- what a step keeps if the first part gives what the second needs
then_holds : {A B : Type 0} (P : A → Type 0) (Q : B → Type 0) (r : Result A PlyFault) (next : A → Result B PlyFault) →
    IfOk r P → ((a : A) → P a → IfOk (next a) Q) → IfOk (and_then r next) Q
then_holds P Q (Err fault) next h k = tt
then_holds P Q (Ok a) next h k = k a h

anything : {A : Type 0} (r : Result A PlyFault) → IfOk r (λ _. Unit {0})
anything (Err fault) = tt
anything (Ok a) = tt

abbrev AreBelow : ℕ → List ℕ → Type 0
AreBelow v corners = All (λ c. c < v) corners

abbrev HasBelow : ℕ → Row → Type 0
HasBelow v row = IfSome row.corners (AreBelow v)

or_fault_sound : (place : RowPlace) (n : Option ℕ) → IfSome n (λ c. c < place.vertices) → IfOk (corner_or_fault place n) (λ c. c < place.vertices)
or_fault_sound place None h = tt
or_fault_sound place (Some n) h = h

corner_sound : (place : RowPlace) (s : Scalar) → IfOk (corner_of place s) (λ c. c < place.vertices)
corner_sound place s = or_fault_sound place (below place.vertices (number_of_scalar s)) (limited place.vertices (number_of_scalar s))

corners_sound : (place : RowPlace) (item : ScalarType) (left : ℕ) (corners : List ℕ) (cursor : Cursor) →
    AreBelow place.vertices corners → IfOk (corners_from place item left corners cursor)
    (λ r. AreBelow place.vertices r.0)
corners_sound place item zero corners cursor h = h
corners_sound place item (suc left) corners cursor h =
    then_holds (λ _. Unit {0}) (λ r. AreBelow place.vertices r.0) (one_scalar place item cursor)
    (λ s. and_then (corner_of place s.0) (λ corner. corners_from place item left (corners ++ corner ∷ []) s.1))
    (anything (one_scalar place item cursor)) (λ s _.
    then_holds (λ c. c < place.vertices) (λ r. AreBelow place.vertices r.0) (corner_of place s.0)
    (λ corner. corners_from place item left (corners ++ corner ∷ []) s.1) (corner_sound place s.0)
    (λ corner below_limit.
    corners_sound place item left (corners ++ corner ∷ []) s.1 (All-push (λ c. c < place.vertices) corners corner h below_limit)))

list_sound : (place : RowPlace) (corners : Bool) (item : ScalarType) (size : ℕ) (row : Row) (cursor : Cursor) →
    HasBelow place.vertices row → IfOk (list_of_size place corners item size row cursor)
    (λ r. HasBelow place.vertices r.0)
list_sound place true item size row cursor h =
    then_holds (λ r. AreBelow place.vertices r.0) (λ r. HasBelow place.vertices r.0)
    (corners_from place item size [] cursor) _
    (corners_sound place item size [] cursor (All-nil (λ c. c < place.vertices))) (λ r below_limit. below_limit)
list_sound place false item size row cursor h =
    then_holds (λ _. Unit {0}) (λ r. HasBelow place.vertices r.0) (skipped place item size cursor) _ (anything (skipped place item size cursor)) (λ rest _. h)

list_property_sound : (place : RowPlace) (corners : Bool) (size item : ScalarType) (row : Row) (cursor : Cursor) →
    HasBelow place.vertices row → IfOk (list_property place corners size item row cursor)
    (λ r. HasBelow place.vertices r.0)
list_property_sound place corners size item row cursor h =
    then_holds (λ _. Unit {0}) (λ r. HasBelow place.vertices r.0) (one_scalar place size cursor) _ (anything (one_scalar place size cursor)) (λ s _.
    then_holds (λ _. Unit {0}) (λ r. HasBelow place.vertices r.0) (unless_short place (size_of s.0)) _ (anything (unless_short place (size_of s.0))) (λ n _.
    list_sound place corners item n row s.1 h))

value_sound : (place : RowPlace) (axis : Axis) (row : Row) (value : Option Fraction) → HasBelow place.vertices row →
    IfOk (with_value place axis row value) (HasBelow place.vertices)
value_sound place axis row None h = tt
value_sound place X row (Some value) h = h
value_sound place Y row (Some value) h = h
value_sound place Z row (Some value) h = h

scalar_sound : (place : RowPlace) (axis : Option Axis) (row : Row) (s : Scalar) → HasBelow place.vertices row →
    IfOk (with_scalar place axis row s) (HasBelow place.vertices)
scalar_sound place None row s h = h
scalar_sound place (Some axis) row s h = value_sound place axis row (value_of_scalar s) h

scalar_property_sound : (place : RowPlace) (axis : Option Axis) (type : ScalarType) (row : Row) (cursor : Cursor) →
    HasBelow place.vertices row → IfOk (scalar_property place axis type row cursor) (λ r. HasBelow place.vertices r.0)
scalar_property_sound place axis type row cursor h =
    then_holds (λ _. Unit {0}) (λ r. HasBelow place.vertices r.0) (one_scalar place type cursor) _ (anything (one_scalar place type cursor)) (λ s _.
    then_holds (HasBelow place.vertices) (λ r. HasBelow place.vertices r.0) (with_scalar place axis row s.0) _
    (scalar_sound place axis row s.0 h) (λ r below_limit. below_limit))

properties_sound : (place : RowPlace) (ds : List Declaration) (row : Row) (cursor : Cursor) →
    HasBelow place.vertices row → IfOk (properties place ds row cursor) (λ r. HasBelow place.vertices r.0)
properties_sound place [] row cursor h = h
properties_sound place (declaration.Element element ∷ ds) row cursor h = h
properties_sound place (declaration.Scalar axis type ∷ ds) row cursor h =
    then_holds (λ r. HasBelow place.vertices r.0) (λ r. HasBelow place.vertices r.0)
    (scalar_property place axis type row cursor) (λ r. properties place ds r.0 r.1)
    (scalar_property_sound place axis type row cursor h)
    (λ r below_limit. properties_sound place ds r.0 r.1 below_limit)
properties_sound place (declaration.List corners size item ∷ ds) row cursor h =
    then_holds (λ r. HasBelow place.vertices r.0) (λ r. HasBelow place.vertices r.0)
    (list_property place corners size item row cursor) (λ r. properties place ds r.0 r.1)
    (list_property_sound place corners size item row cursor h)
    (λ r below_limit. properties_sound place ds r.0 r.1 below_limit)

row_sound : (place : RowPlace) (ds : List Declaration) (cursor : Cursor) → IfOk (row_at place ds cursor) (λ r. HasBelow place.vertices r.0)
row_sound place ds cursor =
    then_holds (λ _. Unit {0}) (λ r. HasBelow place.vertices r.0) (unless_short place (next_row cursor)) _
    (anything (unless_short place (next_row cursor))) (λ c _. properties_sound place ds empty_row c tt)

one_more : (points : List Point) (point : Point) (facets : List Facet) → All (IsWithin (length points)) facets →
    All (IsWithin (length (points ++ point ∷ []))) facets
one_more points point facets h =
    All-weaker (IsWithin (length points)) (IsWithin (length (points ++ point ∷ [])))
    (λ f hf. All-weaker (λ c. c < length points) (λ c. c < length (points ++ point ∷ []))
    (λ c hc. omega (arith, hc, length-append points (point ∷ []))) f.corners hf) facets h

facets_sound : (v number : ℕ) (corners : Option (List ℕ)) → IfSome corners (AreBelow v) → IfOk (facets_of number corners) (All (IsWithin v))
facets_sound v number None h = tt
facets_sound v number (Some corners) h =
    elim (nat_lt (length corners) 3) as (λ (t : Bool). IfOk
    (if t then Err (FewCorners number) else Ok (fan number corners)) (All (IsWithin v)))
    [ true ↦ tt | false ↦ fan_within v number corners h ]

with_row_sound : (kind : ElementKind) (number : ℕ) (content : Content) (row : Row) → IsSound content →
    HasBelow (length content.points) row → IfOk (with_row kind number content row) IsSound
with_row_sound Vertex number content row h k =
    then_holds (λ _. Unit {0}) IsSound (point_of_three row.x row.y row.z) _
    (anything (point_of_three row.x row.y row.z)) (λ point _. one_more content.points point content.facets h)
with_row_sound Face number content row h k =
    then_holds (All (IsWithin (length content.points))) IsSound (facets_of number row.corners) _
    (facets_sound (length content.points) number row.corners k)
    (λ facets within. All-append (IsWithin (length content.points)) content.facets facets h within)
with_row_sound Other number content row h k = h

rows_sound : (element : Element) (ds : List Declaration) (number left : ℕ) (content : Content) (cursor : Cursor) →
    IsSound content → IfOk (rows_from element ds number left content cursor) (λ r. IsSound r.0)
rows_sound element ds number zero content cursor h = h
rows_sound element ds number (suc left) content cursor h =
    then_holds (λ r. HasBelow (length content.points) r.0) (λ r. IsSound r.0)
    (row_at (place_of element number content) ds cursor) _ (row_sound (place_of element number content) ds cursor)
    (λ r below_limit.
    then_holds IsSound (λ r. IsSound r.0) (with_row element.kind number content r.0)
    (λ c. rows_from element ds (number + 1) left c r.1) (with_row_sound element.kind number content r.0 h below_limit)
    (λ c sound.
    rows_sound element ds (number + 1) left c r.1 sound))

bare_sound : (fault : Option PlyFault) (content : Content) (cursor : Cursor) → IsSound content →
    IfOk {T = Content × Cursor} (unless_fault fault (content, cursor)) (λ r. IsSound r.0)
bare_sound None content cursor h = h
bare_sound (Some fault) content cursor h = tt

element_sound : (element : Element) (ds : List Declaration) (content : Content) (cursor : Cursor) → IsSound content →
    IfOk (element_rows element ds content cursor) (λ r. IsSound r.0)
element_sound element ds content cursor h =
    elim (begins_property ds) as (λ (t : Bool). IfOk {T =
    Content × Cursor} (if t then rows_from element ds 1 element.count content cursor else unless_fault
    (bare_fault element.kind element.count) (content, cursor)) (λ r. IsSound r.0)) [
      | true ↦ rows_sound element ds 1 element.count content cursor h
      | false ↦ bare_sound (bare_fault element.kind element.count) content cursor h
    ]

elements_sound : (ds : List Declaration) (content : Content) (cursor : Cursor) → IsSound content → IfOk (elements_from ds content cursor) IsSound
elements_sound [] content cursor h = h
elements_sound (declaration.Element element ∷ ds) content cursor h =
    then_holds (λ r. IsSound r.0) IsSound (element_rows element ds content cursor) (λ r. elements_from ds r.0 r.1)
    (element_sound element ds content cursor h) (λ r sound. elements_sound ds r.0 r.1 sound)
elements_sound (declaration.Scalar axis type ∷ ds) content cursor h = elements_sound ds content cursor h
elements_sound (declaration.List corners size item ∷ ds) content cursor h = elements_sound ds content cursor h

content_sound : (encoding : Option Encoding) (ds : List Declaration) (body : List ℕ) → IfOk (content_in encoding ds body) IsSound
content_sound None ds body = tt
content_sound (Some encoding) ds body = elements_sound ds no_content (begun encoding body) (All-nil (IsWithin 0))

-- each corner of what is read is a vertex
pub file_sound : (bytes : List ℕ) → IfOk (content_of_file bytes) IsSound
file_sound bytes =
    then_holds (λ _. Unit {0}) IsSound (header_of_file bytes) _ (anything (header_of_file bytes)) (λ h _. content_sound h.0.encoding h.0.declarations h.1)
