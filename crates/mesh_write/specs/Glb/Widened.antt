-- Bounds that are widened to one more triangle
use Rattle.std.specs.Prelude.{if◌then◌else◌}
use Rattle.std.specs.Float.{Float}
use Rattle.std.specs.Float.Ieee.{lt}
use Rattle.mesh_write.specs.declared.stl.triangle.FloatTriangle.{FloatTriangle}
use Rattle.mesh_write.specs.declared.glb.bounds.FloatCoordinates.{FloatCoordinates}
use Rattle.mesh_write.specs.declared.glb.bounds.Bounds.{Bounds}
use Rattle.mesh_write.specs.Glb.Bounds.{coordinates_of}

abbrev pub lesser : Float → Float → Float
lesser a b = if lt b a then b else a

abbrev pub greater : Float → Float → Float
greater a b = if lt a b then b else a

abbrev pub lower : FloatCoordinates → FloatCoordinates → FloatCoordinates
lower p q = record { x = lesser p.x q.x; y = lesser p.y q.y; z = lesser p.z q.z }

abbrev pub higher : FloatCoordinates → FloatCoordinates → FloatCoordinates
higher p q = record { x = greater p.x q.x; y = greater p.y q.y; z = greater p.z q.z }

-- the bounds of the points of these bounds and of the triangle
abbrev pub widened : Bounds → FloatTriangle → Bounds
widened b t =
    let p = coordinates_of t.a in
    let q = coordinates_of t.b in
    let r = coordinates_of t.c in
    record { low = lower (lower (lower b.low p) q) r; high = higher (higher (higher b.high p) q) r }
