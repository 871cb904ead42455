-- The image of a surface by a placing
use Rattle.std.specs.Prelude.{◌≡◌, ◌≢◌, ⊤, Some}
use Rattle.std.specs.List.{AllZip}
use Rattle.mesh_read.specs.declared.surface.surface.Surface.{Surface}
use Rattle.mesh_read.specs.declared.surface.flaw.Flaw.{Flaw}
use Rattle.mesh_read.specs.Surface.Surfaces.{Content, content_of}
use Rattle.mesh_read.specs.Surface.Flaws.{flaw_in}
use Rattle.mesh_place.specs.declared.maps.steps.StepsFault.{StepsFault}
use Rattle.mesh_place.specs.declared.maps.steps.StepsFault.TheVariants as steps_fault
use Rattle.mesh_place.specs.declared.surface.transformed.TransformFault.{TransformFault}
use Rattle.mesh_place.specs.declared.surface.transformed.TransformFault.TheVariants as transform_fault
use Rattle.mesh_place.specs.AffineMaps.{Affine, is_mirroring}
use Rattle.mesh_place.specs.Steps.{IsMapOfSteps, IsFaultOf}
use Rattle.mesh_place.specs.Images.{IsImage, facets_under, long_vertex_from}
use Rattle.mesh_placing.specs.declared.files.Placing.{Placing}
use Rattle.mesh_placing.specs.declared.image.ImageFault.{ImageFault}
use Rattle.mesh_placing.specs.declared.image.ImageFault.TheVariants.{OutOfMemory, Steps, LongVertex}
use Rattle.mesh_placing.specs.declared.image.ImageFault.TheVariants as image

-- each point is the image of the one in its place by the map of the steps; outside stays outside, but if the surface is
-- turned inside out
pub record IsPlacedBy (p : Placing) (c d : Content) : Type 0 where
  pub map : Affine
  pub right : IsMapOfSteps p.steps.items map
  pub points : AllZip (IsImage map) c.points d.points
  pub facets : d.facets ≡ facets_under p.is_turned (facets_under (is_mirroring map) c.facets)

-- ---- faults
abbrev pub of_steps_fault : StepsFault → ImageFault
of_steps_fault steps_fault.OutOfMemory = OutOfMemory
of_steps_fault fault = Steps fault

abbrev pub of_transform_fault : TransformFault → ImageFault
of_transform_fault transform_fault.OutOfMemory = OutOfMemory
of_transform_fault (transform_fault.TooLong vertex) = LongVertex vertex

-- the steps have no map, and not for want of memory
pub record HaveNoMap (p : Placing) (fault : StepsFault) : Type 0 where
  pub is_fault : IsFaultOf p.steps.items fault
  pub of_steps : fault ≢ steps_fault.OutOfMemory

-- the image is no mesh
pub record IsNoMesh (p : Placing) (s : Surface) (flaw : Flaw) : Type 0 where
  pub image : Content
  pub placed : IsPlacedBy p (content_of s) image
  pub has : flaw_in image ≡ Some flaw

-- when a fault comes
abbrev pub IsImageFault : Placing → Surface → ImageFault → Type 0
IsImageFault p s OutOfMemory = ⊤
IsImageFault p s (Steps fault) = HaveNoMap p fault
IsImageFault p s (LongVertex vertex) = long_vertex_from 0 s.vertices.items ≡ Some vertex
IsImageFault p s (image.Flaw flaw) = IsNoMesh p s flaw
