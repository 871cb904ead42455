-- The meshes that surfaces are on a grid
use Rattle.std.specs.Prelude.{ℕ, ◌+◌, List, [], ◌∷◌, length, flat_map}
use Rattle.mesh_read.specs.declared.surface.surface.Surface.{Surface}
use Rattle.ember_model.specs.declared.tri.Tri.{Tri}
use Rattle.mesh_grid.specs.declared.grid.grid.Grid.{Grid}
use Rattle.mesh_grid.specs.Grid.Corners.{corner_at}
use Rattle.mesh_grid.specs.Grid.Images.{kept, images, vanished, flat_ones, places_of}
use Rattle.mesh_scene.specs.declared.scene.counts.Counts.{Counts}

-- the triangles of a surface on the grid, as the mesh with this number
abbrev pub images_on : Grid → ℕ → Surface → List Tri
images_on g mesh s = images (corner_at g s.vertices.items) mesh s.facets.items

-- their places
abbrev pub places_on : Grid → Surface → List ℕ
places_on g s = places_of (kept (corner_at g s.vertices.items) s.facets.items)

-- the triangles of each surface: the first surface is the mesh with this number, the next one has the next number
abbrev pub meshes_on : Grid → ℕ → List Surface → List (List Tri)
meshes_on g mesh [] = []
meshes_on g mesh (s ∷ ss) = images_on g mesh s ∷ meshes_on g (mesh + 1) ss

-- the triangles of all surfaces, one surface after the other, with the mesh numbers from 1 on
abbrev pub images_of : Grid → List Surface → List Tri
images_of g ss = flat_map (λ ts. ts) (meshes_on g 1 ss)

-- how many triangles the surface has, how many of them vanish on the grid, and how many keep no area there
abbrev pub counts_on : Grid → Surface → Counts
counts_on g s = record {
  triangles = length s.facets.items;
  vanished = length (vanished (corner_at g s.vertices.items) s.facets.items);
  flat = length (flat_ones (images_on g 0 s));
}
