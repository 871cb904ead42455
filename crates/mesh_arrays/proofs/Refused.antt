-- The faults of the steps are those of a mesh in arrays
use Rattle.std.proofs.Common.{◌≡◌, ◌<◌, ℕ, zero, suc, nat_eq, false, arith, List, [], ◌∷◌, All, IsSome, None, Some}
use Rattle.std.proofs.Common.{length, map, refl, subst, sym, ◌∙◌}
use Rattle.std.specs.Global.{Vec}
use Rattle.std.specs.List.{find}
use Rattle.std.specs.Option.{option_map}
use Rattle.std.specs.declared.option.Option.{Option}
use Rattle.mesh_ply.specs.ReadPly.{of_flaw}
use Rattle.mesh_ply.specs.declared.fault.PlyFault.{PlyFault}
use Rattle.mesh_ply.specs.declared.fault.PlyFault.TheVariants as fault
use Rattle.mesh_read.proofs.FarPoints.{far_by_content}
use Rattle.mesh_read.specs.Surface.Flaws.{flaw_in, flaw_with}
use Rattle.mesh_read.specs.Surface.Surfaces.{Content, Point, content_of, first_far, is_facet_too_large}
use Rattle.mesh_read.specs.declared.surface.flaw.Flaw.{Flaw}
use Rattle.mesh_read.specs.declared.surface.flaw.Flaw.TheVariants as flaw
use Rattle.mesh_read.specs.declared.surface.surface.Facet.{Facet}
use Rattle.mesh_read.specs.declared.surface.surface.Surface.{Surface}
use Rattle.mesh_read.proofs.Flaws.{far_is_flaw}
use Rattle.mesh_arrays.specs.Arrays.{IsContentOf, point_of_bits}
use Rattle.mesh_arrays.specs.Faults.{AreWithin, IsMeshFault, IsTriangleFault}
use Rattle.mesh_arrays.specs.declared.mesh.ArrayMesh.{ArrayMesh}

-- a fault of the triangles, if all vertices are finite
pub triangle_fault_is : (mesh : ArrayMesh) (count : ℕ) (why : PlyFault) → count ≡ length mesh.vertices.now →
    All (λ bits. IsSome (point_of_bits bits)) mesh.vertices.now → IsTriangleFault mesh.triangles.now count why →
    IsMeshFault mesh why
triangle_fault_is mesh count fault.NoEnd e finite h = absurd h
triangle_fault_is mesh count (fault.NotUnderstood line) e finite h = absurd h
triangle_fault_is mesh count fault.NoFormat e finite h = absurd h
triangle_fault_is mesh count (fault.ShortRow name row) e finite h = absurd h
triangle_fault_is mesh count (fault.NotFinite number) e finite h = absurd h
triangle_fault_is mesh count fault.NoCoordinates e finite h = absurd h
triangle_fault_is mesh count fault.NoCorners e finite h = absurd h
triangle_fault_is mesh count (fault.NoSuchVertex number) e finite h = record {
  finite = finite;
  first = subst (λ n. IsTriangleFault mesh.triangles.now n (fault.NoSuchVertex number)) e h;
}
triangle_fault_is mesh count (fault.FewCorners number) e finite h = absurd h
triangle_fault_is mesh count fault.NoTriangles e finite h = absurd h
triangle_fault_is mesh count (fault.TooLarge number) e finite h = absurd h
triangle_fault_is mesh count fault.OutOfMemory e finite h = tt

-- a number that isn't 0
pub has_some : (n : ℕ) → nat_eq n 0 ≡ false → 0 < n
has_some zero e = absurd (cc)
has_some (suc n) e = omega arith

-- where there are triangles, they are no flaw
not_empty : (far : Option ℕ) (facets : List Facet) → 0 < length facets → flaw_with far facets ≡ Some flaw.NoTriangles → ⊥
not_empty far [] some e = absurd (omega (arith, some))
not_empty None (facet ∷ facets) some e = cc
not_empty (Some place) (facet ∷ facets) some e = cc

-- a flaw of what a mesh with triangles says
pub flaw_is : (mesh : ArrayMesh) (content : Content) (why : Flaw) → IsContentOf mesh content → 0 < length content.facets →
    All (AreWithin (length mesh.vertices.now)) mesh.triangles.now → flaw_in content ≡ Some why → IsMeshFault mesh (of_flaw why)
flaw_is mesh content flaw.NoTriangles is some within has = absurd (not_empty (first_far content) content.facets some has)
flaw_is mesh content (flaw.TooLarge place) is some within has = record { content = content; is_content = is; within = within; has = has }

-- ---- coordinates

no_place : (found : Option Facet) → option_map (λ (f : Facet). f.place) found ≡ None → found ≡ None
no_place None e = refl
no_place (Some facet) e = absurd (cc)

-- without triangles none is too far out
pub no_triangle_is_far : (points : List Point) (facets : List Facet) → length facets ≡ 0 →
    first_far (record { points = points; facets = facets }) ≡ None
no_triangle_is_far points [] none = refl
no_triangle_is_far points (facet ∷ facets) none = absurd (omega (arith, none))

-- what has no flaw has no triangle that is too far out
pub without_flaw_is_near : (content : Content) → flaw_in content ≡ None → first_far content ≡ None
without_flaw_is_near content e = far_is_flaw (first_far content) content.facets e

-- a surface without a flaw has no triangle that is too far out
pub no_flaw_is_within : (s : Surface) → flaw_in (content_of s) ≡ None →
    find (is_facet_too_large s.vertices.items) s.facets.items ≡ None
no_flaw_is_within s e =
    no_place (find (is_facet_too_large s.vertices.items) s.facets.items)
    (sym (far_by_content s) ∙ without_flaw_is_near (content_of s) e)
