-- From which file each triangle is that a page shows
use Rattle.std.specs.Prelude.{◌≡◌, ℕ, List, Option, None, Some, map, slice_get}
use Rattle.std.specs.Global.{Vec}
use Rattle.ember_model.specs.declared.tri.Tri.{Tri}
use Rattle.mesh_grid.specs.declared.grid.grid.Grid.{Grid}
use Rattle.mesh_solid.specs.declared.mesh.mesh.SolidMesh.{SolidMesh}
use Rattle.mesh_sources.specs.Sources.{EachSource}
use Rattle.mesh_sources.specs.declared.source.Source.{Source}
use Rattle.mesh_write.specs.declared.stl.triangle.FloatPoint.{FloatPoint}
use Rattle.mesh_written.specs.Floats.{AreFloatPoints}
use Rattle.mesh_written.specs.Triangles.{kept_numbers, triangle_at}

abbrev pub mesh_number_of : Option Tri → ℕ
mesh_number_of None = 0
mesh_number_of (Some tri) = tri.mesh

-- the number of the file, from 1, whose triangle is this source; 0 if there is none
abbrev pub file_of : List Tri → Option Source → ℕ
file_of scene None = 0
file_of scene (Some source) = mesh_number_of (slice_get scene source.triangle)

-- of the numbers of all exact triangles' files those of the triangles that don't vanish when they are rounded
pub record AreShownFiles (scene : List Tri) (grid : Grid) (mesh : SolidMesh) (files : Vec ℕ) : Type 0 where
  pub sources : List (Option Source)
  pub each : EachSource scene mesh.corners.items mesh.planes.items mesh.triangles.items sources
  pub points : List FloatPoint
  pub rounded : AreFloatPoints grid.step grid.offset mesh.corners.items points
  pub are : files.items
      ≡ kept_numbers (map (triangle_at mesh.planes.items points) mesh.triangles.items) (map (file_of scene) sources)
