-- The corners of triangles, in trillionths of the unit
use Rattle.std.specs.Prelude.{ℤ, pos, if◌then◌else◌, List, map, slice_index}
use Rattle.mesh_grid.specs.Grid.Lengths.{trillionth}
use Rattle.mesh_number.specs.declared.number.values.Number.{Number}
use Rattle.mesh_number.specs.Number.Fractions.{is_below_limit}
use Rattle.mesh_number.specs.Number.Values.{value_of}
use Rattle.mesh_grid.specs.Snap.Cells.{cell_at}
use Rattle.mesh_read.specs.declared.surface.surface.Vertex.{Vertex}
use Rattle.mesh_read.specs.declared.surface.surface.Facet.{Facet}
use Rattle.mesh_read.specs.declared.surface.surface.Surface.{Surface}
use Rattle.mesh_write.specs.declared.vertices.point.DecimalPoint.{DecimalPoint}
use Rattle.mesh_write.specs.declared.vertices.point.DecimalTriangle.{DecimalTriangle}
use Rattle.mesh_write.specs.Vertices.Vertices.{point_at}

-- the nearest whole number of trillionths; 0 of a number of 10^15 or more, which no file has
abbrev pub trillionths : Number → ℤ
trillionths x = if is_below_limit (value_of x) then cell_at trillionth x else pos 0

-- where a vertex lies
abbrev pub place_of : Vertex → DecimalPoint
place_of v = record { x = trillionths v.x; y = trillionths v.y; z = trillionths v.z }

abbrev pub places_of : Surface → List DecimalPoint
places_of s = map place_of s.vertices.items

-- a triangle by the places of its corners
abbrev pub triangle_over : List DecimalPoint → Facet → DecimalTriangle
triangle_over places f = record {
  a = point_at places (slice_index f.corners 0);
  b = point_at places (slice_index f.corners 1);
  c = point_at places (slice_index f.corners 2);
}

-- all triangles of the surface
abbrev pub triangles_of : Surface → List DecimalTriangle
triangles_of s = map (triangle_over (places_of s)) s.facets.items
