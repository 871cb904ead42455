-- The row that code has in hand
use Rattle.std.specs.Prelude.{if◌then◌else◌, Some, None}
use Rattle.std.specs.Option.{option_map}
use Rattle.mesh_number.specs.Number.Values.{value_of}
use Rattle.mesh_ply.specs.declared.row.Row.{Row}
use Rattle.mesh_ply.specs.Rows as rows

-- a row as definitions see it
abbrev pub row_of : Row → rows.Row
row_of row = record {
  x = option_map value_of row.x;
  y = option_map value_of row.y;
  z = option_map value_of row.z;
  corners = if row.has_corners then Some row.corners.items else None;
}
