-- The limits, by name
use Rattle.std.specs.Prelude.{ℕ}

-- ---- corners: the greatest coordinate
-- on the narrow grid: 2^11 - 1
abbrev pub narrow_limit : ℕ
narrow_limit = 2047

-- on the broad grid: 2^19 - 1
abbrev pub broad_limit : ℕ
broad_limit = 524287

-- ---- valid planes and points
-- an entry of a normal: 2^25 - 1
abbrev pub valid_normal_limit : ℕ
valid_normal_limit = 33554431

-- a constant: 2^39 - 1
abbrev pub valid_constant_limit : ℕ
valid_constant_limit = 549755813887

-- a number of a spot: 2^40 - 1
abbrev pub spot_limit : ℕ
spot_limit = 1099511627775

-- a coordinate of a meet: 2^92 - 1
abbrev pub meet_limit : ℕ
meet_limit = 4951760157141521099596496895

-- the weight of a meet: 2^78 - 1
abbrev pub meet_weight_limit : ℕ
meet_weight_limit = 302231454903657293676543

-- ---- planes of a valid triangle
-- the constant of the support plane: 3 * 2^36 - 1
abbrev pub support_constant_limit : ℕ
support_constant_limit = 206158430207

-- an entry of an edge plane's normal: 2^12 - 1
abbrev pub edge_normal_limit : ℕ
edge_normal_limit = 4095

-- its constant: 2^24 - 1
abbrev pub edge_constant_limit : ℕ
edge_constant_limit = 16777215

-- ---- scenes
abbrev pub most_triangles : ℕ
most_triangles = 262144

abbrev pub most_meshes : ℕ
most_meshes = 64

-- ---- sizes that are computed with
-- bytes of a file, and of what is read from one: 2^28
abbrev pub most_bytes : ℕ
most_bytes = 268435456

-- edges of the triangles of a scene: 3 * 2^18
abbrev pub most_edges : ℕ
most_edges = 786432

-- a coordinate of a wall of a box: 2^11
abbrev pub wall_limit : ℕ
wall_limit = 2048

-- a side of a box: 2^12
abbrev pub root_side : ℕ
root_side = 4096

-- a difference of two coordinates on the narrow grid: 2 * 2047
abbrev pub narrow_difference_limit : ℕ
narrow_difference_limit = 4094

-- an entry of the direction in which two planes meet: 2 * (2^25 - 1)^2
abbrev pub direction_limit : ℕ
direction_limit = 2251799679467522

-- a winding number that is being counted: 2^30 - 1
abbrev pub count_limit : ℕ
count_limit = 1073741823

-- a number whose double fits into 64 bits: 2^62 - 1
abbrev pub short_limit : ℕ
short_limit = 4611686018427387903
