-- A solid in arrays
use Rattle.std.specs.Prelude.{◌≡◌, ℕ, ◌+◌, Bool, true, List, [], None, Some, Option, length, map}
use Rattle.ember_expr.specs.Formula.{Formula}
use Rattle.ember_meaning.specs.Regions.Meaning.{HaveMeaning}
use Rattle.ember_meaning.specs.Regions.Nearby.{WindOnceAtMost}
use Rattle.ember_meaning.specs.Regions.Solids.{IsSolidReport}
use Rattle.mesh_arrays.specs.Doubles.{doubles_of}
use Rattle.mesh_arrays.specs.Indices.{corners_of}
use Rattle.mesh_arrays.specs.declared.mesh.ArrayMesh.{ArrayMesh}
use Rattle.mesh_boolean.specs.Effects.{IsDecimalEffect, decimals_of, origins_of_decimals, over_vertices}
use Rattle.mesh_boolean.specs.Lying.{AreLyingCounts}
use Rattle.mesh_boolean.specs.Splits.{AreDecimalsOver}
use Rattle.mesh_boolean.specs.Volumes.{sixfold_volumes_of_meshes}
use Rattle.mesh_boolean.specs.declared.split.SplitDecimals.{SplitDecimals}
use Rattle.mesh_grid.specs.Moves.Shown.{AreMoves}
use Rattle.mesh_grid.specs.declared.grid.choice.Wanted.{Wanted}
use Rattle.mesh_grid.specs.declared.grid.grid.Grid.{Grid}
use Rattle.mesh_read.specs.declared.surface.surface.Surface.{Surface}
use Rattle.mesh_scene.specs.Scene.Images.{counts_on, images_of}
use Rattle.mesh_solid.specs.Mesh.Asked.{IsThereIf}
use Rattle.mesh_solid.specs.Mesh.MeshFaces.{faces_of_mesh}
use Rattle.mesh_solid.specs.Mesh.Meshes.{IsSolidMesh}
use Rattle.mesh_solid.specs.declared.mesh.mesh.SolidMesh.{SolidMesh}
use Rattle.mesh_written.specs.Closed.{AreDecimalsClosed, AreIndicesClosed}
use Rattle.mesh_written.specs.Digits.{written_places}
use Rattle.mesh_written.specs.Shared.{IsSharedIndexCount}
use Rattle.ember_arrays.specs.Meshes.{ArePlaced}
use Rattle.ember_arrays.specs.Sources.{AreSources, inputs_from, origins_after}
use Rattle.ember_arrays.specs.declared.arrays.Arrays.{Arrays}
use Rattle.ember_arrays.specs.declared.solid.ArraySolid.{ArraySolid}

-- ---- arrays
-- the arrays are those of the mesh's rounded triangles, which are closed, with the indices of the triangles that were
-- rounded; the numbers are those of the mesh, of what
-- rounding did to it, of its triangles that vanished, and of the edges of more than two of the others
pub record AreArrays (digits : Option ℕ) (grid : Grid) (mesh : SolidMesh) (arrays : Arrays) : Type 0 where
  pub over : SplitDecimals
  pub are_over : AreDecimalsOver (decimals_of digits grid mesh) over
  pub vertices : map (map (λ double. Some double)) arrays.vertices.items
      ≡ map (doubles_of (written_places digits grid.step)) over.points.items
  pub triangles : arrays.triangles.items ≡ map corners_of over.triangles.items
  pub origins : arrays.origins.items ≡ origins_after (origins_of_decimals digits grid mesh) over.origins
  pub is_manifold : arrays.numbers.is_manifold ≡ over.is_manifold
  pub effect : IsDecimalEffect digits grid mesh arrays.numbers.effect
  pub faces : arrays.numbers.faces ≡ mesh.faces
  pub planes : arrays.numbers.planes ≡ length mesh.planes.items
  pub mesh_triangles : arrays.numbers.triangles ≡ length mesh.triangles.items
  pub vanished : arrays.numbers.vanished + length (decimals_of digits grid mesh) ≡ arrays.numbers.triangles
  pub count : arrays.numbers.written ≡ length arrays.triangles.items
  pub shared : AreIndicesClosed (over_vertices (decimals_of digits grid mesh)) →
      IsSharedIndexCount (over_vertices (decimals_of digits grid mesh)) arrays.numbers.shared
  pub no_bytes : arrays.numbers.bytes.items ≡ []
  pub none_shown : arrays.numbers.shown ≡ None

-- ---- solids
-- the surfaces of the meshes are a scene on the wanted grid, with these counts, moves and volumes; there is a mesh of
-- the solid of their triangles, with this report of the run, and so many of its triangles lie on each of the meshes; its
-- rounded triangles are closed, and these are their arrays. If it is wanted, the source of each of them is there: that of the exact triangle that it was made from
pub record IsArraySolid (meshes : List ArrayMesh) (formula : Formula) (wanted : Wanted) (digits : Option ℕ)
    (wants_sources : Bool) (solid : ArraySolid) : Type 0 where
  pub surfaces : List Surface
  pub are_placed : ArePlaced meshes wanted surfaces solid.file.grid
  pub counts : solid.file.counts.items ≡ map (counts_on solid.file.grid) surfaces
  pub moves : AreMoves solid.file.grid surfaces solid.file.moves.items
  pub sixfold_volumes : solid.file.sixfold_volumes.items
      ≡ sixfold_volumes_of_meshes (images_of solid.file.grid surfaces) (length surfaces)
  pub mesh : SolidMesh
  pub is_mesh : IsSolidMesh (images_of solid.file.grid surfaces) formula mesh
  pub report : IsSolidReport (images_of solid.file.grid surfaces) formula solid.file.report
  pub arrays : Arrays
  pub are_arrays : AreArrays digits solid.file.grid mesh arrays
  pub vertices : solid.vertices ≡ arrays.vertices
  pub triangles : solid.triangles ≡ arrays.triangles
  pub numbers : solid.file.written ≡ arrays.numbers
  pub closed : AreDecimalsClosed (decimals_of digits solid.file.grid mesh)
  pub lying : IsThereIf true
      (λ counts. AreLyingCounts (images_of solid.file.grid surfaces) (length surfaces) mesh counts.items)
      solid.file.lying
  pub sources : IsThereIf wants_sources (AreSources (inputs_from solid.file.grid 1 surfaces)
      (images_of solid.file.grid surfaces) mesh arrays.origins.items) solid.sources

-- before its triangles are rounded, they wind once where the formula is true of the meshes' triangles on the grid, and
-- not at all elsewhere; around each point that is clear of them alone, once or not at all
pub record MeansFormula (meshes : List ArrayMesh) (formula : Formula) (wanted : Wanted) (digits : Option ℕ)
    (wants_sources : Bool) (solid : ArraySolid) (is : IsArraySolid meshes formula wanted digits wants_sources solid) :
    Type 0 where
  pub means : HaveMeaning (images_of solid.file.grid is.surfaces) formula (faces_of_mesh is.mesh)
  pub once : WindOnceAtMost (faces_of_mesh is.mesh)
