-- What no mesh has, and what a file says if it is a mesh
use Rattle.std.specs.Prelude.{ℕ, List, [], ◌∷◌, Option, None, Some, Result, Ok, Err}
use Rattle.mesh_read.specs.declared.surface.surface.Facet.{Facet}
use Rattle.mesh_read.specs.declared.surface.flaw.Flaw.{Flaw}
use Rattle.mesh_read.specs.declared.surface.flaw.Flaw.TheVariants.{NoTriangles, TooLarge}
use Rattle.mesh_read.specs.Surface.Surfaces.{Content, first_far}

-- the flaw of a triangle at this place that lies too far out
abbrev pub flaw_at : Option ℕ → Option Flaw
flaw_at None = None
flaw_at (Some place) = Some (TooLarge place)

abbrev pub flaw_with : Option ℕ → List Facet → Option Flaw
flaw_with far [] = Some NoTriangles
flaw_with far (f ∷ fs) = flaw_at far

-- there are no triangles, or one is too far out
abbrev pub flaw_in : Content → Option Flaw
flaw_in content = flaw_with (first_far content) content.facets

abbrev pub unless_flaw : {F : Type 0} → (Flaw → F) → Content → Option Flaw → Result Content F
unless_flaw fault content None = Ok content
unless_flaw fault content (Some flaw) = Err (fault flaw)

-- what is read, if it is a mesh, where each flaw is a fault of the format
abbrev pub as_mesh : {F : Type 0} → (Flaw → F) → Result Content F → Result Content F
as_mesh fault (Err e) = Err e
as_mesh fault (Ok content) = unless_flaw fault content (flaw_in content)
