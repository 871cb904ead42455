-- The points and the triangles of arrays, one after the other
use Rattle.std.proofs.Common.{◌≡◌, ℕ, ◌+◌, ◌<◌, List, [], ◌∷◌, ◌++◌, All, Bool, true, None, Some, Option, IsSome, length, take}
use Rattle.std.proofs.Common.{get_or, drop, map, refl, sym, ap, subst, ◌∙◌, arith}
use Rattle.std.specs.Prelude.{◌↔◌, IsTrue, false}
use Rattle.std.proofs.lemmas.Bool.{false≢true}
use Rattle.std.proofs.lemmas.List.{length-map, length-take-le, map-append, take_more}
use Rattle.std.proofs.lemmas.List.Elements.{All-cons, All-head, All-nil, All-push, All-tail}
use Rattle.std.proofs.lemmas.Option.{slice_get-get_or}
use Rattle.mesh_read.specs.declared.surface.surface.Facet.{Facet}
use Rattle.mesh_read.specs.declared.surface.surface.Vertex.{Vertex}
use Rattle.mesh_read.specs.Surface.Surfaces.{IsWithin, Point, point_of}
use Rattle.mesh_arrays.specs.Arrays.{ArePointsOf, facets_from, point_of_bits}
use Rattle.mesh_arrays.specs.Faults.{AreWithin, IsFirstNotFinite, IsFirstOutside}

-- ---- vertices
abbrev some : Point → Option Point
some point = Some point

-- there are as many vertices as points
pub found_are_as_many : (vertices : List (List ℕ)) (found : List Vertex) → ArePointsOf vertices (map point_of found) →
    length found ≡ length vertices
found_are_as_many vertices found e =
    sym (length-map found point_of) ∙ sym (length-map (map point_of found) some) ∙ sym (ap length e) ∙ length-map vertices point_of_bits

is_some_of : (o : Option Point) (point : Point) → o ≡ Some point → IsSome o
is_some_of o point e = subst (λ o. IsSome o) (sym e) refl

-- vertices that have points are finite
pub points_are_finite : (vertices : List (List ℕ)) (points : List Point) → ArePointsOf vertices points →
    All (λ bits. IsSome (point_of_bits bits)) vertices
points_are_finite [] points e = All-nil (λ bits. IsSome (point_of_bits bits))
points_are_finite (bits ∷ vertices) [] e = absurd (cc)
points_are_finite (bits ∷ vertices) (point ∷ points) e =
    All-cons (λ bits. IsSome (point_of_bits bits)) bits vertices
    (is_some_of (point_of_bits bits) point (ap (λ os. get_or os 0 None) e)) (points_are_finite vertices points (ap (drop 1) e))

-- a vertex behind those that have points is the first that isn't finite, if it isn't
pub first_not_finite : (vertices : List (List ℕ)) (i : ℕ) (d : List ℕ) (before : List Vertex) → i < length vertices →
    ArePointsOf (take i vertices) (map point_of before) → point_of_bits (get_or vertices i d) ≡ None →
    IsFirstNotFinite vertices (i + 1)
first_not_finite vertices i d before l h none = record {
  index = i;
  number_is = refl;
  bits = get_or vertices i d;
  found = slice_get-get_or vertices i d l;
  not_finite = none;
  before = points_are_finite (take i vertices) (map point_of before) h;
}

-- ---- triangles
abbrev facet_at : ℕ → List ℕ → Facet
facet_at place corners = record { corners = corners; place = place }

facets_behind : (place : ℕ) (triangles : List (List ℕ)) (corners : List ℕ) →
    facets_from place (triangles ++ corners ∷ []) ≡ facets_from place triangles ++ facet_at (place + length triangles) corners ∷ []
facets_behind place [] corners = ap (λ n. facet_at n corners ∷ []) (omega arith)
facets_behind place (first ∷ triangles) corners =
    ap (λ fs. facet_at place first ∷ fs) (facets_behind (place + 1) triangles corners
    ∙ ap (λ n. facets_from (place + 1) triangles ++ facet_at n corners ∷ []) (omega arith))

-- one triangle more
pub facets_more : (triangles : List (List ℕ)) (i : ℕ) (d : List ℕ) (before after : List Facet) (facet : Facet) → i < length triangles →
    before ≡ facets_from 1 (take i triangles) → after ≡ before ++ facet ∷ [] → facet ≡ facet_at (i + 1) (get_or triangles i d) →
    after ≡ facets_from 1 (take (i + 1) triangles)
facets_more triangles i d before after facet l h p q =
    let count : length (take i triangles) ≡ i = length-take-le i triangles (omega (arith, l)) in
    p ∙ (λ k. h k ++ q k ∷ []) ∙ ap (λ n. facets_from 1 (take i triangles) ++ facet_at n (get_or triangles i d) ∷ []) (omega (arith, count))
    ∙ sym (ap (facets_from 1) (take_more triangles i d l) ∙ facets_behind 1 (take i triangles) (get_or triangles i d))

-- a triangle behind those that are within is the first outside, if a test says so
pub first_outside : (triangles : List (List ℕ)) (count i : ℕ) (d : List ℕ) (test : Bool) → i < length triangles →
    All (AreWithin count) (take i triangles) → (IsTrue test ↔ AreWithin count (get_or triangles i d)) → test ≡ false →
    IsFirstOutside triangles count (i + 1)
first_outside triangles count i d test l h tests is_no = record {
  index = i;
  number_is = refl;
  corners = get_or triangles i d;
  found = slice_get-get_or triangles i d l;
  outside = λ within. false≢true (sym is_no ∙ tests.1 within);
  before = h;
}

-- it is one of those that are within otherwise
pub all_within_more : (triangles : List (List ℕ)) (count i : ℕ) (d : List ℕ) (test : Bool) → i < length triangles →
    All (AreWithin count) (take i triangles) → (IsTrue test ↔ AreWithin count (get_or triangles i d)) → test ≡ true →
    All (AreWithin count) (take (i + 1) triangles)
all_within_more triangles count i d test l h tests is_yes =
    subst (All (AreWithin count)) (sym (take_more triangles i d l))
    (All-push (AreWithin count) (take i triangles) (get_or triangles i d) h (tests.0 is_yes))

-- and its facet, too
pub all_facets_within_more : (count : ℕ) (before after : List Facet) (facet : Facet) (test : Bool) → All (IsWithin count) before →
    after ≡ before ++ facet ∷ [] → (IsTrue test ↔ AreWithin count facet.corners) → test ≡ true → All (IsWithin count) after
all_facets_within_more count before after facet test h p tests is_yes =
    subst (All (IsWithin count)) (sym p) (All-push (IsWithin count) before facet h (tests.0 is_yes))

-- the corners of facets that are within are, too
corners_within : (triangles : List (List ℕ)) (count place : ℕ) → All (IsWithin count) (facets_from place triangles) →
    All (AreWithin count) triangles
corners_within [] count place h = All-nil (AreWithin count)
corners_within (corners ∷ triangles) count place h =
    All-cons (AreWithin count) corners triangles
    (All-head (IsWithin count) (facet_at place corners) (facets_from (place + 1) triangles) h)
    (corners_within triangles count (place + 1)
    (All-tail (IsWithin count) (facet_at place corners) (facets_from (place + 1) triangles) h))

pub all_corners_within : (triangles : List (List ℕ)) (count many place : ℕ) (facets : List Facet) → count ≡ many →
    facets ≡ facets_from place triangles → All (IsWithin count) facets → All (AreWithin many) triangles
all_corners_within triangles count many place facets e p h =
    corners_within triangles many place
    (subst (λ n. All (IsWithin n) (facets_from place triangles)) e (subst (All (IsWithin count)) p h))
