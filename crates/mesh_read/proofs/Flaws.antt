-- What is read, if it is a mesh
use Rattle.std.proofs.Common.{◌≡◌, ℕ, List, [], ◌∷◌, length, Option, None, Some, Result, Ok, Err, All, refl, ap, subst, ◌∙◌}
use Rattle.std.specs.Prelude.{IfOk}
use Rattle.std.proofs.lemmas.List.{length-map}
use Rattle.mesh_read.specs.declared.surface.surface.Facet.{Facet}
use Rattle.mesh_read.specs.declared.surface.surface.Surface.{Surface}
use Rattle.mesh_read.specs.declared.surface.flaw.Flaw.{Flaw}
use Rattle.mesh_read.specs.Surface.Surfaces.{Content, point_of, content_of, IsWithin, IsSurface, first_far}
use Rattle.mesh_read.specs.Surface.Flaws.{flaw_with, flaw_in, unless_flaw, as_mesh}

-- what is read and has no flaw is a mesh
pub mesh_found : {F : Type 0} (fault : Flaw → F) (read : Result Content F) (content : Content) →
    read ≡ Ok content → flaw_in content ≡ None → as_mesh fault read ≡ Ok content
mesh_found fault read content is none = ap (as_mesh fault) is ∙ ap (unless_flaw fault content) none

-- a flaw of what is read is a fault
pub mesh_refused : {F : Type 0} (fault : Flaw → F) (read : Result Content F) (content : Content) (flaw : Flaw) →
    read ≡ Ok content → flaw_in content ≡ Some flaw → as_mesh fault read ≡ Err (fault flaw)
mesh_refused fault read content flaw is some = ap (as_mesh fault) is ∙ ap (unless_flaw fault content) some

-- each corner is a point
abbrev pub IsSound : Content → Type 0
IsSound c = All (IsWithin (length c.points)) c.facets

flaw_sound : {F : Type 0} (fault : Flaw → F) (content : Content) (flaw : Option Flaw) → IsSound content →
    IfOk (unless_flaw fault content flaw) IsSound
flaw_sound fault content None h = h
flaw_sound fault content (Some flaw) h = tt

mesh_sound : {F : Type 0} (fault : Flaw → F) (read : Result Content F) → IfOk read IsSound → IfOk (as_mesh fault read) IsSound
mesh_sound fault (Err e) h = tt
mesh_sound fault (Ok content) h = flaw_sound fault content (flaw_in content) h

surface_of : (s : Surface) → IsSound (content_of s) → IsSurface s
surface_of s h = subst (λ n. All (IsWithin n) s.facets.items) (length-map s.vertices.items point_of) h

-- a mesh is a surface if what is read is sound
pub reads_surface : {E F : Type 0} (fault : Flaw → F) (read : Result Content F) (r : Result Surface E) →
    IfOk read IsSound → IfOk r (λ s. as_mesh fault read ≡ Ok (content_of s)) → IfOk r IsSurface
reads_surface fault read (Err e) sound h = tt
reads_surface fault read (Ok s) sound h = surface_of s (subst (λ c. IfOk c IsSound) h (mesh_sound fault read sound))

-- ---- coordinates
-- without a flaw no number is too far
pub far_is_flaw : (far : Option ℕ) (facets : List Facet) → flaw_with far facets ≡ None → far ≡ None
far_is_flaw far [] e = cc
far_is_flaw None (f ∷ fs) e = refl
far_is_flaw (Some place) (f ∷ fs) e = cc

unflawed_near : {F : Type 0} (fault : Flaw → F) (c d : Content) (flaw : Option Flaw) → flaw_in c ≡ flaw →
    unless_flaw fault c flaw ≡ Ok d → first_far d ≡ None
unflawed_near fault c d None none e =
    let same : c ≡ d = cc in
    subst (λ x. first_far x ≡ None) same (far_is_flaw (first_far c) c.facets none)
unflawed_near fault c d (Some flaw) some e = cc

-- no triangle of a mesh lies too far out
pub mesh_near : {F : Type 0} (fault : Flaw → F) (read : Result Content F) (d : Content) → as_mesh fault read ≡ Ok d → first_far d ≡ None
mesh_near fault (Err f) d e = cc
mesh_near fault (Ok c) d e = unflawed_near fault c d (flaw_in c) refl e
