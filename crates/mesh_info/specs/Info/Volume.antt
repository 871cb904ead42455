-- The volume inside triangles, in binary64
use Rattle.std.specs.Prelude.{ℕ, ◌/◌, ◌%◌, ◌^◌, ℤ, pos, ◌-ℤ◌, unsigned_abs, List, fold}
use Rattle.std.specs.Float.{Float, binary64}
use Rattle.std.specs.Float.Ieee.{add, sub, mul, div, of_int}
use Rattle.mesh_write.specs.declared.vertices.point.DecimalPoint.{DecimalPoint}
use Rattle.mesh_write.specs.declared.vertices.point.IndexedTriangle.{IndexedTriangle}
use Rattle.mesh_write.specs.Vertices.Vertices.{point_at}
use Rattle.mesh_info.specs.declared.info.volume.Position.{Position}
use Rattle.mesh_info.specs.declared.info.volume.TheConstants.{NOTHING, SIX, TRILLION, HIGH_PLACE}

-- a number of trillionths in the unit
unfoldable pub in_unit : ℕ → Float
in_unit n =
    let high = of_int binary64 (pos (n / 2 ^ 64)) in
    let low = of_int binary64 (pos (n % 2 ^ 64)) in
    div binary64 (add binary64 (mul binary64 high HIGH_PLACE) low) TRILLION

-- how far apart two numbers of trillionths are
abbrev pub distance : ℤ → ℤ → Float
distance from to = in_unit (unsigned_abs (to -ℤ from))

-- where a point lies from the lower corner of a box
abbrev pub offset_of : DecimalPoint → DecimalPoint → Position
offset_of lower p = record { x = distance lower.x p.x; y = distance lower.y p.y; z = distance lower.z p.z }

-- x * (y * z' - z * y')
abbrev pub minor : Float → Float → Float → Float → Float → Float
minor a b c d e = mul binary64 a (sub binary64 (mul binary64 b c) (mul binary64 d e))

-- six times the volume between a triangle and the lower corner: the determinant of its corners
unfoldable pub sixfold_volume : Position → Position → Position → Float
sixfold_volume a b c =
    add binary64 (add binary64 (minor a.x b.y c.z b.z c.y) (minor a.y b.z c.x b.x c.z)) (minor a.z b.x c.y b.y c.x)

-- that of a triangle over points
abbrev pub sixfold_volume_at : DecimalPoint → List DecimalPoint → IndexedTriangle → Float
sixfold_volume_at lower points t =
    sixfold_volume (offset_of lower (point_at points t.a)) (offset_of lower (point_at points t.b))
    (offset_of lower (point_at points t.c))

-- a sixth of the sum over all triangles
unfoldable pub volume_of : DecimalPoint → List DecimalPoint → List IndexedTriangle → Float
volume_of lower points ts =
    div binary64 (fold (λ total t. add binary64 total (sixfold_volume_at lower points t)) NOTHING ts) SIX
