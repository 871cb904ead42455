-- Surfaces of too many triangles
use Rattle.std.specs.Prelude.{◌≡◌, ℕ, ◌<◌, List, length, ⊤}
use Rattle.mesh_read.specs.declared.surface.surface.Facet.{Facet}
use Rattle.ember_model.specs.declared.point.Corner.{Corner}
use Rattle.mesh_grid.specs.declared.grid.fault.SnapFault.{SnapFault}
use Rattle.mesh_grid.specs.declared.grid.fault.SnapFault.TheVariants.{TooManyTriangles, OutOfMemory}
use Rattle.mesh_grid.specs.Grid.Images.{images}

-- more than 262,144 triangles are left
abbrev pub IsSnapFault : (ℕ → Corner) → List Facet → SnapFault → Type 0
IsSnapFault at fs (TooManyTriangles count) = (count ≡ length (images at 0 fs)) × (262144 < count)
IsSnapFault at fs OutOfMemory = ⊤
