-- What is read of a mesh, whatever its format
use Rattle.std.proofs.Common.{◌≡◌, ℕ, zero, suc, ◌+◌, ◌<◌, Bool, true, false, ◌&&◌, ◌||◌, not, List, [], ◌∷◌, length, map, Option, None, Ok, refl, ap, ap₂, ◌∙◌, arith}
use Rattle.std.specs.Prelude.{All, slice_get}
use Rattle.std.specs.List.{AllZip, list_any, find}
use Rattle.std.specs.Option.{option_map}
use Rattle.std.proofs.lemmas.List.Elements.{All-head, All-tail}
use Rattle.std.proofs.lemmas.Option.{slice_get-map}
use Rattle.mesh_read.specs.declared.surface.surface.Facet.{Facet}
use Rattle.mesh_read.specs.declared.surface.flaw.Flaw.{Flaw}
use Rattle.mesh_read.specs.Surface.Flaws.{flaw_at, unless_flaw, as_mesh}
use Rattle.mesh_read.specs.Surface.Surfaces.{Point, Content, is_point_below, is_far_point, is_far, first_far}
use Rattle.mesh_write.specs.declared.vertices.point.DecimalPoint.{DecimalPoint}
use Rattle.mesh_write.specs.declared.vertices.point.IndexedTriangle.{IndexedTriangle}
use Rattle.mesh_write.specs.Reading.Readings.{IsPointBelow, IsSamePoint, IsReadAs, corners_of}
use Rattle.mesh_write.proofs.Coordinates.{read_value, coordinate_is_read}

abbrev pub read_point : ℕ → DecimalPoint → Point
read_point places p = record { x = read_value places p.x; y = read_value places p.y; z = read_value places p.z }

-- triangles with consecutive places
abbrev pub facets_from : ℕ → List IndexedTriangle → List Facet
facets_from n [] = []
facets_from n (t ∷ ts) = record { corners = corners_of t; place = n } ∷ facets_from (n + 1) ts

abbrev pub content_from : ℕ → ℕ → List DecimalPoint → List IndexedTriangle → Content
content_from n places ps ts = record { points = map (read_point places) ps; facets = facets_from n ts }

-- ---- the same mesh
same_points : (places : ℕ) (ps : List DecimalPoint) → All (IsPointBelow places) ps → AllZip (IsSamePoint places) ps (map (read_point places) ps)
same_points places [] h = tt
same_points places (p ∷ ps) h =
    let first = All-head (IsPointBelow places) p ps h in (
      record {
        x = (coordinate_is_read places p.x first.x).same;
        y = (coordinate_is_read places p.y first.y).same;
        z = (coordinate_is_read places p.z first.z).same;
      },
      same_points places ps (All-tail (IsPointBelow places) p ps h),
    )

same_corners : (n : ℕ) (ts : List IndexedTriangle) → map (λ f. f.corners) (facets_from n ts) ≡ map corners_of ts
same_corners n [] = refl
same_corners n (t ∷ ts) = ap (λ l. corners_of t ∷ l) (same_corners (n + 1) ts)

pub content_is_read : (n places : ℕ) (ps : List DecimalPoint) (ts : List IndexedTriangle) →
    All (IsPointBelow places) ps → IsReadAs places ps ts (content_from n places ps ts)
content_is_read n places ps ts h = record { points = same_points places ps h; triangles = same_corners n ts }

-- ---- no triangle is too far out
all_three : (a b c : Bool) → a ≡ true → b ≡ true → c ≡ true → (a && b && c) ≡ true
all_three a b c p q r = rw (p, q, r) refl

point_below : (places : ℕ) (p : DecimalPoint) → IsPointBelow places p → is_point_below (read_point places p) ≡ true
point_below places p h =
    all_three _ _ _ (coordinate_is_read places p.x h.x).below (coordinate_is_read places p.y h.y).below (coordinate_is_read places p.z h.z).below

corner_near : (places : ℕ) (ps : List DecimalPoint) → All (IsPointBelow places) ps → (c : ℕ) → is_far_point (slice_get (map (read_point places) ps) c) ≡ false
corner_near places ps h c = ap is_far_point (slice_get-map (read_point places) ps c) ∙ near ps h c
  where
    near : (ps : List DecimalPoint) → All (IsPointBelow places) ps → (c : ℕ) → is_far_point (option_map (read_point places) (slice_get ps c)) ≡ false
    near [] h c = refl
    near (p ∷ ps) h zero = ap not (point_below places p (All-head (IsPointBelow places) p ps h))
    near (p ∷ ps) h (suc c) = near ps (All-tail (IsPointBelow places) p ps h) c

corners_near : (points : List Point) → ((c : ℕ) → is_far_point (slice_get points c) ≡ false) → (cs : List ℕ) →
    list_any (λ corner. is_far_point (slice_get points corner)) cs ≡ false
corners_near points h [] = refl
corners_near points h (c ∷ cs) = ap₂ (λ a b. a || b) (h c) (corners_near points h cs)

none_far : (points : List Point) → ((c : ℕ) → is_far_point (slice_get points c) ≡ false) → (fs : List Facet) → find (is_far points) fs ≡ None
none_far points h [] = refl
none_far points h (f ∷ fs) = rw (corners_near points h f.corners) (none_far points h fs)

pub content_near : (n places : ℕ) (ps : List DecimalPoint) (ts : List IndexedTriangle) → All (IsPointBelow places) ps →
    first_far (content_from n places ps ts) ≡ None
content_near n places ps ts h =
    ap (λ (o : Option Facet). option_map (λ f. f.place) o) (none_far (map (read_point places) ps) (corner_near places ps h) (facets_from n ts))

-- triangles that a file may hold are a mesh
pub mesh_ok : {F : Type 0} (fault : Flaw → F) (n places : ℕ) (ps : List DecimalPoint) (ts : List IndexedTriangle) →
    0 < length ts → All (IsPointBelow places) ps →
    as_mesh fault (Ok (content_from n places ps ts)) ≡ Ok (content_from n places ps ts)
mesh_ok fault n places ps [] some h = absurd (omega (arith, some))
mesh_ok fault n places ps (t ∷ ts) some h =
    ap (λ far. unless_flaw fault (content_from n places ps (t ∷ ts)) (flaw_at far)) (content_near n places ps (t ∷ ts) h)
