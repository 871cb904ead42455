-- Surfaces that are read have no triangle with a coordinate of 10^15 or more
use Rattle.std.proofs.Common.{◌≡◌, ℕ, Bool, true, false, List, Option, None, Some, refl, sym, ◌∙◌, Result, Ok, Err}
use Rattle.std.specs.Prelude.{if◌then◌else◌}
use Rattle.std.specs.List.{find}
use Rattle.std.specs.Option.{option_map}
use Rattle.mesh_read.specs.declared.surface.surface.Facet.{Facet}
use Rattle.mesh_read.specs.declared.surface.surface.Surface.{Surface}
use Rattle.mesh_read.specs.Surface.Surfaces.{Content, content_of, is_facet_too_large, first_far}
use Rattle.mesh_read.proofs.FarPoints.{far_by_content}
use Rattle.mesh_read.proofs.Flaws.{mesh_near}
use Rattle.mesh_read.specs.declared.stl.fault.StlFault.{StlFault}
use Rattle.mesh_read.specs.declared.stl.fault.StlFault.TheVariants.{CutOff}
use Rattle.mesh_read.specs.Stl.Ascii.{ascii_of}
use Rattle.mesh_read.specs.Stl.Binary.{binary_of}
use Rattle.mesh_read.specs.Stl.ReadStl.{is_binary, is_ascii, facets_said, read_stl_of, checked}
use Rattle.mesh_read.specs.Stl.ReadStl as stl
use Rattle.mesh_ply.specs.ReadPly as ply
use Rattle.mesh_read.specs.Off.Rows as off_rows
use Rattle.mesh_read.specs.Off.ReadOff as off
use Rattle.mesh_gltf.specs.ReadGltf as gltf
use Rattle.mesh_read.specs.Wavefront.Faults.{of_flaw}
use Rattle.mesh_read.specs.Wavefront.Rows as wavefront_rows
use Rattle.mesh_read.specs.Wavefront.ReadWavefront as wavefront

none_found : (o : Option Facet) → option_map (λ f. f.place) o ≡ None → o ≡ None
none_found None e = refl
none_found (Some f) e = cc

within : (s : Surface) → first_far (content_of s) ≡ None → find (is_facet_too_large s.vertices.items) s.facets.items ≡ None
within s e = none_found (find (is_facet_too_large s.vertices.items) s.facets.items) (sym (far_by_content s) ∙ e)

-- a PLY file that is read has no far triangle
pub ply_is_within : (bytes : List ℕ) (s : Surface) → ply.read_ply_of bytes ≡ Ok (content_of s) →
    find (is_facet_too_large s.vertices.items) s.facets.items ≡ None
ply_is_within bytes s e = within s (mesh_near ply.of_flaw (ply.content_of_file bytes) (content_of s) e)

-- an OFF file that is read has no far triangle
pub off_is_within : (bytes : List ℕ) (s : Surface) → off.read_off_of bytes ≡ Ok (content_of s) →
    find (is_facet_too_large s.vertices.items) s.facets.items ≡ None
off_is_within bytes s e = within s (mesh_near off.of_flaw (off.content_in (off_rows.rows_of bytes)) (content_of s) e)

-- a glTF that is read has no far triangle
pub gltf_is_within : (bytes : List ℕ) (s : Surface) → gltf.read_gltf_of bytes ≡ Ok (content_of s) →
    find (is_facet_too_large s.vertices.items) s.facets.items ≡ None
gltf_is_within bytes s e = within s (mesh_near gltf.of_flaw (gltf.content_in bytes) (content_of s) e)

-- an OBJ file that is read has no far triangle
pub wavefront_is_within : (bytes : List ℕ) (s : Surface) → wavefront.read_wavefront_of bytes ≡ Ok (content_of s) →
    find (is_facet_too_large s.vertices.items) s.facets.items ≡ None
wavefront_is_within bytes s e = within s (mesh_near of_flaw (wavefront.content_in (wavefront_rows.rows_of bytes)) (content_of s) e)

stl_kinds : (b a : Bool) (x y : Result Content StlFault) (fault : StlFault) (d : Content) →
    (if b then checked true x else (if a then checked false y else Err fault)) ≡ Ok d → first_far d ≡ None
stl_kinds true a x y fault d e = mesh_near (stl.of_flaw true) x d e
stl_kinds false true x y fault d e = mesh_near (stl.of_flaw false) y d e
stl_kinds false false x y fault d e = cc

-- an STL file that is read has no far triangle
pub stl_is_within : (bytes : List ℕ) (s : Surface) → read_stl_of bytes ≡ Ok (content_of s) → find (is_facet_too_large s.vertices.items) s.facets.items ≡ None
stl_is_within bytes s e =
    within s (stl_kinds (is_binary bytes) (is_ascii bytes) (binary_of bytes) (ascii_of bytes)
    (CutOff (facets_said bytes)) (content_of s) e)
