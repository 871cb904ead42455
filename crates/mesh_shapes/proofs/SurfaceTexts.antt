-- What the text of a surface is read as
use Rattle.std.proofs.Common.{◌≡◌, ℕ, zero, suc, ◌+◌, ◌-◌, ◌*◌, ◌^◌, ◌<◌, ◌≤◌, Bool, true, false, ◌&&◌, List, [], ◌∷◌, length, map, refl, sym, ap, ap₂, ◌∙◌, arith, pos, ◌*ℤ◌, pow-add, get_or, neg_ℤ}
use Rattle.std.specs.Prelude.{All, nat_eq, nat_lt, slice_index}
use Rattle.std.specs.List.{list_all, AllZip}
use Rattle.std.proofs.lemmas.Bool.{and_parts}
use Rattle.std.proofs.lemmas.Bool.Decides.{nat_tests}
use Rattle.std.proofs.lemmas.Int.{ints}
use Rattle.std.proofs.lemmas.List.{length-map}
use Rattle.std.proofs.lemmas.List.Elements.{All-cons, All-nil}
use Rattle.std.proofs.Math.Nat.{mul-lt-mul_of_pos_right}
use Rattle.mesh_number.specs.Number.Fractions.{signed_whole, is_below_limit}
use Rattle.mesh_number.proofs.DigitNumbers.{pow_ten_pos}
use Rattle.mesh_number.proofs.SignedFloors.{unsigned_abs-signed_whole}
use Rattle.ember_dec.specs.Digits.{number_from}
use Rattle.mesh_read.specs.declared.surface.surface.Facet.{Facet}
use Rattle.mesh_read.specs.Surface.Surfaces.{is_point_below}
use Rattle.mesh_place.specs.declared.exact.decimals.ExactDecimal.{ExactDecimal}
use Rattle.mesh_place.specs.declared.surface.transformed.TransformedPoint.{TransformedPoint}
use Rattle.mesh_place.specs.declared.surface.transformed.TransformedSurface.{TransformedSurface}
use Rattle.mesh_place.specs.Decimals.{exact_value}
use Rattle.mesh_place.specs.Images.{transformed_point, transformed_points, transformed_content}
use Rattle.mesh_write.specs.Reading.Readings.{IsBelow, IsPointBelow, IsWithin, IsInUnits, IsSamePoint, corners_of}
use Rattle.mesh_shapes.specs.Texts.{most_places, units_of, point_in_units, HasFewPlaces, triangle_of, text_of, is_within, is_readable, IsTextOf}
use Rattle.mesh_shapes.proofs.CoordinateTexts.{below_limit}

-- ---- coordinates
neg_times : (m l : ℕ) → neg_ℤ (pos (m * l)) ≡ neg_ℤ (pos m) *ℤ pos l
neg_times zero l = let none : 0 * l ≡ 0 = omega arith in rw none (omega (arith, ints))
neg_times (suc m) l = omega (arith, ints)

-- a number with a sign over a power of ten, and over a larger one
same_over : (minus : Bool) (n l k most : ℕ) → most ≡ l * k → signed_whole minus n *ℤ pos most ≡ signed_whole minus (n * k) *ℤ pos l
same_over false n l k most e = rw e (omega (arith, ints))
same_over true zero l k most e = let none : 0 * k ≡ 0 = omega arith in rw none (omega (arith, ints))
same_over true (suc n) l k most e =
    let all : suc n * most ≡ suc n * k * l = ap (λ (i : ℕ). suc n * i) e ∙ omega arith in
    sym (neg_times (suc n) most) ∙ ap (λ (i : ℕ). neg_ℤ (pos i)) all ∙ neg_times (suc n * k) l

power_of_most : (places most : ℕ) → places ≤ most → 10 ^ most ≡ 10 ^ places * 10 ^ (most - places)
power_of_most places most h =
    let count : most ≡ places + (most - places) = omega arith in ap (λ (i : ℕ). 10 ^ i) count ∙ pow-add 10 places (most - places)

in_units : (d : ExactDecimal) → d.places ≤ most_places → IsInUnits most_places (units_of d) (exact_value d)
in_units d h = record {
  positive = pow_ten_pos d.places;
  same = same_over d.minus (number_from 0 d.digits.items) (10 ^ d.places) (10 ^ (most_places - d.places)) (10 ^ most_places) (power_of_most d.places most_places h);
}

below_in_units : (d : ExactDecimal) → d.places ≤ most_places → is_below_limit (exact_value d) ≡ true → IsBelow most_places (units_of d)
below_in_units d h below =
    let n = number_from 0 d.digits.items in
    let k = 10 ^ (most_places - d.places) in
    let small : n < 10 ^ 15 * 10 ^ d.places = below_limit d.minus n (10 ^ d.places) below in
    let more : n * k < 10 ^ 15 * 10 ^ d.places * k = mul-lt-mul_of_pos_right small (pow_ten_pos (most_places - d.places)) in
    let same = unsigned_abs-signed_whole d.minus (n * k) in
    rw (same, power_of_most d.places most_places h) (omega (arith, more))

-- ---- points
same_points : (ps : List TransformedPoint) → All HasFewPlaces ps → AllZip (IsSamePoint most_places) (map point_in_units ps) (transformed_points ps)
same_points [] h = tt
same_points (p ∷ ps) h =
    let few = h 0 p (omega arith) in (
      record { x = in_units p.x few.x; y = in_units p.y few.y; z = in_units p.z few.z },
      same_points ps (λ k d l. h (suc k) d (omega arith)),
    )

points_below : (ps : List TransformedPoint) → All HasFewPlaces ps → list_all is_point_below (transformed_points ps) ≡ true →
    All (IsPointBelow most_places) (map point_in_units ps)
points_below [] h below = All-nil (IsPointBelow most_places)
points_below (p ∷ ps) h below =
    let few = h 0 p (omega arith) in
    let parts = and_parts (is_point_below (transformed_point p)) (list_all is_point_below (transformed_points ps)) below in
    let z = and_parts (is_below_limit (exact_value p.x) && is_below_limit (exact_value p.y)) (is_below_limit (exact_value p.z)) parts.0 in
    let y = and_parts (is_below_limit (exact_value p.x)) (is_below_limit (exact_value p.y)) z.0 in
    All-cons (IsPointBelow most_places) (point_in_units p) (map point_in_units ps)
    (record { x = below_in_units p.x few.x y.0; y = below_in_units p.y few.y y.1; z = below_in_units p.z few.z z.1 })
    (points_below ps (λ k d l. h (suc k) d (omega arith)) parts.1)

-- ---- triangles
-- a triangle whose corners are points
record AreCorners (points : ℕ) (f : Facet) : Type 0 where
  pub count : length f.corners ≡ 3
  pub a : slice_index f.corners 0 < points
  pub b : slice_index f.corners 1 < points
  pub c : slice_index f.corners 2 < points

are_corners : (points : ℕ) (f : Facet) → is_within points f ≡ true → AreCorners points f
are_corners points f h =
    let a = and_parts (nat_eq (length f.corners) 3) _ h in
    let b = and_parts (nat_lt (slice_index f.corners 0) points) _ a.1 in
    let c = and_parts (nat_lt (slice_index f.corners 1) points) (nat_lt (slice_index f.corners 2) points) b.1 in
    record {
      count = grind (arith, nat_tests, a.0);
      a = grind (arith, nat_tests, b.0);
      b = grind (arith, nat_tests, c.0);
      c = grind (arith, nat_tests, c.1);
    }

three : (cs : List ℕ) → length cs ≡ 3 → cs ≡ slice_index cs 0 ∷ slice_index cs 1 ∷ slice_index cs 2 ∷ []
three [] h = absurd (omega arith)
three (a ∷ []) h = absurd (omega arith)
three (a ∷ b ∷ []) h = absurd (omega arith)
three (a ∷ b ∷ c ∷ []) h = refl
three (a ∷ b ∷ c ∷ d ∷ more) h = absurd (omega arith)

same_corners : (points : ℕ) (fs : List Facet) → list_all (is_within points) fs ≡ true →
    map (λ f. f.corners) fs ≡ map corners_of (map triangle_of fs)
same_corners points [] h = refl
same_corners points (f ∷ fs) h =
    let parts = and_parts (is_within points f) (list_all (is_within points) fs) h in
    ap₂ (λ (c : List ℕ) (cs : List (List ℕ)). c ∷ cs) (three f.corners (are_corners points f parts.0).count) (same_corners points fs parts.1)

all_within : (points : ℕ) (fs : List Facet) → list_all (is_within points) fs ≡ true → All (IsWithin points) (map triangle_of fs)
all_within points [] h = All-nil (IsWithin points)
all_within points (f ∷ fs) h =
    let parts = and_parts (is_within points f) (list_all (is_within points) fs) h in
    let corners = are_corners points f parts.0 in
    All-cons (IsWithin points) (triangle_of f) (map triangle_of fs) (record { a = corners.a; b = corners.b; c = corners.c }) (all_within points fs parts.1)

-- ---- surfaces
pub surface_has_text : (s : TransformedSurface) (text : List ℕ) → is_readable (transformed_content s) ≡ true →
    length s.points.items < 2 ^ 64 → length s.facets.items < 2 ^ 64 → All HasFewPlaces s.points.items → text ≡ text_of s →
    IsTextOf (transformed_content s) text
surface_has_text s text h few_points few_facets places is =
    let ps = s.points.items in
    let fs = s.facets.items in
    let some = and_parts (nat_lt 0 (length fs)) _ h in
    let parts = and_parts (list_all (is_within (length (transformed_points ps))) fs) (list_all is_point_below (transformed_points ps)) some.1 in
    let count : length (transformed_points ps) ≡ length (map point_in_units ps) = simp length-map in
    record {
      places = most_places;
      points = map point_in_units ps;
      triangles = map triangle_of fs;
      same = record { points = same_points ps places; triangles = same_corners (length (transformed_points ps)) fs parts.0 };
      readable = record {
        triangles = rw length-map (grind (arith, nat_tests, some.0));
        few_points = rw length-map few_points;
        few_triangles = rw length-map few_facets;
        below = points_below ps places parts.1;
        within = rw (sym count) (all_within (length (transformed_points ps)) fs parts.0);
      };
      bytes = is;
    }

-- a point of a surface whose points are all near
pub near_point : (ps : List TransformedPoint) (i : ℕ) (d : TransformedPoint) → list_all is_point_below (transformed_points ps) ≡ true →
    i < length ps → is_point_below (transformed_point (get_or ps i d)) ≡ true
near_point [] i d h l = absurd (omega arith)
near_point (p ∷ ps) zero d h l = (and_parts (is_point_below (transformed_point p)) (list_all is_point_below (transformed_points ps)) h).0
near_point (p ∷ ps) (suc i) d h l =
    near_point ps i d (and_parts (is_point_below (transformed_point p)) (list_all is_point_below (transformed_points ps)) h).1 (omega arith)
