-- The text of a surface: an OFF file with all digits of its coordinates
use Rattle.std.specs.Prelude.{◌≡◌, ℕ, ◌-◌, ◌*◌, ◌^◌, ◌≤◌, Bool, ◌&&◌, nat_eq, nat_lt, ℤ, List, length, map}
use Rattle.std.specs.Prelude.{slice_index}
use Rattle.std.specs.List.{list_all}
use Rattle.ember_dec.specs.Digits.{number_from}
use Rattle.mesh_number.specs.Number.Fractions.{signed_whole}
use Rattle.mesh_read.specs.declared.surface.surface.Facet.{Facet}
use Rattle.mesh_read.specs.Surface.Surfaces.{Content, is_point_below}
use Rattle.mesh_place.specs.declared.exact.decimals.ExactDecimal.{ExactDecimal}
use Rattle.mesh_place.specs.declared.surface.transformed.TransformedPoint.{TransformedPoint}
use Rattle.mesh_place.specs.declared.surface.transformed.TransformedSurface.{TransformedSurface}
use Rattle.mesh_write.specs.declared.vertices.point.DecimalPoint.{DecimalPoint}
use Rattle.mesh_write.specs.declared.vertices.point.IndexedTriangle.{IndexedTriangle}
use Rattle.mesh_write.specs.Text.Texts.{off_text}
use Rattle.mesh_write.specs.Reading.Readings.{AreReadable, IsReadAs}

-- at least as many places as a decimal has. A text has no zeros at the end, so more of them make no other text
unfoldable pub most_places : ℕ
most_places = 65535

-- ---- a surface in units of the last place
abbrev pub units_of : ExactDecimal → ℤ
units_of d = signed_whole d.minus (number_from 0 d.digits.items * 10 ^ (most_places - d.places))

abbrev pub point_in_units : TransformedPoint → DecimalPoint
point_in_units p = record { x = units_of p.x; y = units_of p.y; z = units_of p.z }

-- its decimals have at most the most places
pub record HasFewPlaces (p : TransformedPoint) : Type 0 where
  pub x : p.x.places ≤ most_places
  pub y : p.y.places ≤ most_places
  pub z : p.z.places ≤ most_places

abbrev pub triangle_of : Facet → IndexedTriangle
triangle_of f = record { a = slice_index f.corners 0; b = slice_index f.corners 1; c = slice_index f.corners 2 }

-- the text of a surface
abbrev pub text_of : TransformedSurface → List ℕ
text_of s = off_text most_places (map point_in_units s.points.items) (map triangle_of s.facets.items)

-- ---- surfaces that have a text
abbrev pub is_within : ℕ → Facet → Bool
is_within points f =
    nat_eq (length f.corners) 3
    && (nat_lt (slice_index f.corners 0) points
    && (nat_lt (slice_index f.corners 1) points && nat_lt (slice_index f.corners 2) points))

-- there is a triangle, all corners are points, and all coordinates are below 10^15 in size
abbrev pub is_readable : Content → Bool
is_readable c =
    nat_lt 0 (length c.facets) && (list_all (is_within (length c.points)) c.facets && list_all is_point_below c.points)

-- the text has these points, in value, and these triangles, both in order; readers take it
pub record IsTextOf (c : Content) (text : List ℕ) : Type 0 where
  pub places : ℕ
  pub points : List DecimalPoint
  pub triangles : List IndexedTriangle
  pub same : IsReadAs places points triangles c
  pub readable : AreReadable places points triangles
  pub bytes : text ≡ off_text places points triangles
