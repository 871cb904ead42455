-- Meshes whose vertices are doubled
use Rattle.std.specs.Prelude.{◌≡◌, ℕ, List, ◌++◌, Some, slice_get}
use Rattle.std.specs.List.{AllZip}
use Rattle.mesh_write.specs.declared.vertices.point.IndexedTriangle.{IndexedTriangle}
use Rattle.mesh_manifold.specs.declared.split.SplitMesh.{SplitMesh}

-- the corners of the new triangle are at the vertices of the old one
pub record IsSplitOf (origins : List ℕ) (new old : IndexedTriangle) : Type 0 where
  pub a : slice_get origins new.a ≡ Some old.a
  pub b : slice_get origins new.b ≡ Some old.b
  pub c : slice_get origins new.c ≡ Some old.c

-- the same triangles in order
abbrev pub AreSplitOf : SplitMesh → List IndexedTriangle → Type 0
AreSplitOf split ts = AllZip (IsSplitOf split.origins.items) split.triangles.items ts

-- the one list begins the other
pub record Continues (before after : List ℕ) : Type 0 where
  pub more : List ℕ
  pub is : after ≡ before ++ more
