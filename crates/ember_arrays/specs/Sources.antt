-- From which triangle of a mesh each triangle of a solid comes
use Rattle.std.specs.Prelude.{◌≡◌, ⊤, ℕ, ◌+◌, ◌-◌, Bool, if◌then◌else◌, List, [], ◌∷◌, ◌++◌, map}
use Rattle.std.specs.Prelude.{Option, None, Some, slice_get, slice_index_or}
use Rattle.std.specs.Global.{Vec}
use Rattle.ember_model.specs.declared.tri.Tri.{Tri}
use Rattle.mesh_grid.specs.declared.grid.grid.Grid.{Grid}
use Rattle.mesh_read.specs.declared.surface.surface.Surface.{Surface}
use Rattle.mesh_scene.specs.Scene.Images.{places_on}
use Rattle.mesh_solid.specs.declared.mesh.mesh.SolidMesh.{SolidMesh}
use Rattle.mesh_sources.specs.Sources.{EachSource}
use Rattle.mesh_sources.specs.declared.source.Source.{Source}
use Rattle.ember_arrays.specs.declared.inputs.InputTriangle.{InputTriangle}
use Rattle.ember_arrays.specs.declared.sources.ArraySource.{ArraySource}

-- ---- the triangles of the scene
-- the triangle with this place in the mesh with this number: places are from 1, indices from 0
abbrev pub input_at : ℕ → ℕ → InputTriangle
input_at mesh place = record { mesh = mesh; triangle = place - 1 }

-- for each triangle of the surfaces' scene the triangle of a mesh that it is, in the order of `images_of`; the first
-- surface is the mesh with this number
abbrev pub inputs_from : Grid → ℕ → List Surface → List InputTriangle
inputs_from g mesh [] = []
inputs_from g mesh (s ∷ ss) = map (input_at mesh) (places_on g s) ++ inputs_from g (mesh + 1) ss

-- ---- origins
-- the number with this index; what is none is the largest of 64 bits
abbrev pub origin_at : List ℕ → ℕ → ℕ
origin_at rounded piece = slice_index_or rounded piece 18446744073709551615

-- for each triangle of a solid the index of the exact triangle that it was made from: of these indices of the triangles
-- that were rounded, those at the indices of the triangles that pieces were cut of
abbrev pub origins_after : List ℕ → Option (Vec ℕ) → List ℕ
origins_after rounded None = rounded
origins_after rounded (Some pieces) = map (origin_at rounded) pieces.items

-- ---- sources
abbrev pub flags_of : Bool → Bool → ℕ
flags_of turned several = (if turned then 1 else 0) + (if several then 2 else 0)

abbrev pub no_source : ArraySource
no_source = record { mesh = 0; triangle = 4294967295; flags = 0 }

-- the source with the triangle of a mesh in place of the one of the scene
abbrev pub with_input : Source → Option InputTriangle → ArraySource
with_input source None = no_source
with_input source (Some input) =
    record { mesh = input.mesh; triangle = input.triangle; flags = flags_of source.turned source.several }

abbrev pub of_input : List InputTriangle → Source → ArraySource
of_input inputs source = with_input source (slice_get inputs source.triangle)

abbrev pub of_exact : List InputTriangle → Option (Option Source) → ArraySource
of_exact inputs (Some (Some source)) = of_input inputs source
of_exact inputs _ = no_source

-- the source of the exact triangle with this index
abbrev pub source_at : List InputTriangle → List (Option Source) → ℕ → ArraySource
source_at inputs exact origin = of_exact inputs (slice_get exact origin)

-- these are the sources of triangles that were made from these triangles of the mesh
pub record AreSources (inputs : List InputTriangle) (scene : List Tri) (mesh : SolidMesh) (origins : List ℕ)
    (sources : Vec ArraySource) : Type 0 where
  pub exact : List (Option Source)
  pub each : EachSource scene mesh.corners.items mesh.planes.items mesh.triangles.items exact
  pub are : sources.items ≡ map (source_at inputs exact) origins

-- they are there exactly if the triangles of the meshes are
abbrev pub AreSourcesIf : Option (Vec InputTriangle) → List Tri → SolidMesh → List ℕ → Option (Vec ArraySource) → Type 0
AreSourcesIf None scene mesh origins None = ⊤
AreSourcesIf (Some inputs) scene mesh origins (Some sources) = AreSources inputs.items scene mesh origins sources
AreSourcesIf _ scene mesh origins _ = ⊥
