-- How many triangles of a solid lie on each mesh of a scene
use Rattle.std.specs.Prelude.{ℕ, ◌+◌, List}
use Rattle.std.specs.List.{AllZip, range_with_len}
use Rattle.ember_model.specs.declared.tri.Tri.{Tri}
use Rattle.ember_model.specs.Meshes.{of_mesh}
use Rattle.mesh_solid.specs.declared.mesh.mesh.SolidMesh.{SolidMesh}
use Rattle.mesh_sources.specs.Sources.{IsSourceCount}

-- so many triangles of the solid lie on the mesh with this number: they have a source among its triangles
abbrev pub IsLyingCount : List Tri → SolidMesh → ℕ → ℕ → Type 0
IsLyingCount ts solid number count =
    IsSourceCount (of_mesh number ts) solid.corners.items solid.planes.items solid.triangles.items count

-- how many lie on each of the meshes from 1 to this number
abbrev pub AreLyingCounts : List Tri → ℕ → SolidMesh → List ℕ → Type 0
AreLyingCounts ts meshes solid counts =
    AllZip (λ index count. IsLyingCount ts solid (index + 1) count) (range_with_len 0 meshes) counts
