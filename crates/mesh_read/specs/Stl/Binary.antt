-- What the bytes of a binary STL mean: 80 bytes of header, the number of facets, and 50 bytes for each facet.
use Rattle.std.specs.Prelude.{ℕ, zero, suc, ◌+◌, ◌*◌, List, Option, None, Some, Result, Ok, Err, slice_index}
use Rattle.mesh_number.specs.Number.Fractions.{Fraction}
use Rattle.mesh_number.specs.Number.Floats.{binary32_value}
use Rattle.mesh_read.specs.Surface.Surfaces.{Point, Content, no_content}
use Rattle.mesh_read.specs.declared.stl.fault.StlFault.{StlFault}
use Rattle.mesh_read.specs.declared.stl.fault.StlFault.TheVariants.{NotFinite}
use Rattle.mesh_read.specs.Stl.Facets.{with_triangle}

-- the number of four bytes from this index on, the lowest byte first
abbrev pub number_at : List ℕ → ℕ → ℕ
number_at bytes at =
    slice_index bytes at
    + slice_index bytes (at + 1) * 256
    + slice_index bytes (at + 2) * 65536
    + slice_index bytes (at + 3) * 16777216

-- the point of three coordinates, if all three are finite
abbrev pub finite_point : Option Fraction → Option Fraction → Option Fraction → Option Point
finite_point (Some x) (Some y) (Some z) = Some (record { x = x; y = y; z = z })
finite_point x y z = None

-- the point of the three binary32 from this index on
unfoldable pub point_at : List ℕ → ℕ → Option Point
point_at bytes at =
    finite_point
    (binary32_value (number_at bytes at))
    (binary32_value (number_at bytes (at + 4)))
    (binary32_value (number_at bytes (at + 8)))

abbrev pub with_points : ℕ → Content → Option Point → Option Point → Option Point → Result Content StlFault
with_points place content (Some a) (Some b) (Some c) = Ok (with_triangle place a b c content)
with_points place content a b c = Err (NotFinite place)

-- with the facet of this index; its corners come after its normal
abbrev pub with_facet_at : List ℕ → ℕ → Result Content StlFault → Result Content StlFault
with_facet_at bytes k (Err fault) = Err fault
with_facet_at bytes k (Ok content) =
    with_points
    (k + 1)
    content
    (point_at bytes (50 * k + 96))
    (point_at bytes (50 * k + 108))
    (point_at bytes (50 * k + 120))

-- the first n facets, or the first fault in them
abbrev pub first_facets : List ℕ → ℕ → Result Content StlFault
first_facets bytes zero = Ok no_content
first_facets bytes (suc k) = with_facet_at bytes k (first_facets bytes k)

-- the triangles of a binary STL, or its first fault
abbrev pub binary_of : List ℕ → Result Content StlFault
binary_of bytes = first_facets bytes (number_at bytes 80)
