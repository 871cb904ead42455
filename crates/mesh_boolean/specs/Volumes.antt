-- The signed volumes of meshes on their grid
use Rattle.std.specs.Prelude.{ℕ, ℤ, pos, List, map, nat_eq, if◌then◌else◌}
use Rattle.std.specs.List.{range_with_len}
use Rattle.ember_algebra.specs.Sums.{total}
use Rattle.ember_algebra.specs.Vector.{det}
use Rattle.ember_model.specs.declared.tri.Tri.{Tri}
use Rattle.ember_model.specs.Meshes.{of_mesh}
use Rattle.ember_model.specs.Planes.{vector_of}

-- six times the signed volume of the tetrahedron of a triangle and 0: the determinant of the triangle's corners
abbrev pub sixfold_volume : Tri → ℤ
sixfold_volume t = det (vector_of t.a) (vector_of t.b) (vector_of t.c)

-- six times that of the mesh with this number: the sum over its triangles
abbrev pub sixfold_volume_of_mesh : List Tri → ℕ → ℤ
sixfold_volume_of_mesh ts mesh = total sixfold_volume (of_mesh mesh ts)

-- six times those of the meshes from 1 to this number
abbrev pub sixfold_volumes_of_meshes : List Tri → ℕ → List ℤ
sixfold_volumes_of_meshes ts count = map (sixfold_volume_of_mesh ts) (range_with_len 1 count)

-- what a triangle adds to the sum of this mesh
abbrev pub sixfold_volume_for : ℕ → Tri → ℤ
sixfold_volume_for mesh t = if nat_eq t.mesh mesh then sixfold_volume t else pos 0
