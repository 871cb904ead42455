-- A plane cuts a face or it doesn't, and a face meets another one or it doesn't. So what a cutting plane
-- leaves of a face is a list of faces, whatever the face.
use Rattle.std.proofs.Common.{◌≡◌, ◌⊎◌, inl, inr, arith, true, List, [], ◌∷◌, ◌++◌, map, pos, neg_ℤ}
use Rattle.std.specs.List.{AllByRecursion}
use Rattle.ember_algebra.specs.Relations.{Every}
use Rattle.ember_algebra.specs.Sign.{is_negative, is_positive}
use Rattle.ember_algebra.proofs.Laws.{linear}
use Rattle.ember_algebra.proofs.Relations.{every_append}
use Rattle.ember_algebra.proofs.Ring.{◌⊕◌, ◌⊖◌, ◌⊗◌, neg, num, ◌≈◌, solve, cancels}
use Rattle.ember_model.specs.declared.plane.Plane.{Plane}
use Rattle.ember_model.specs.declared.point.Spot.{Spot}
use Rattle.ember_model.specs.declared.face.Face.{Face}
use Rattle.ember_model.specs.Planes.{value_at, opposite}
use Rattle.ember_model.specs.Faces.{Somewhere, Cuts, Meets, is_inside, is_in_closed, below, above}
use Rattle.ember_model.proofs.SignTests.{positive_in, positive_out, negative_in, negative_out}
use Rattle.ember_model.proofs.PlaneValues.{value-opposite}
use Rattle.ember_box.specs.Regions.{CuttingPlane, AreLeftByCuttingPlane, splits, whole}
use Rattle.ember_poly.specs.Rings.{IsBelow, IsNotAbove, InFace}
use Rattle.ember_poly.proofs.FaceTests.{inside_in, inside_out, closed_in, closed_out}
use Rattle.ember_poly.proofs.ReachBySigns.{over_opposite, over_from_opposite, most_opposite, least_from_opposite}
use Rattle.ember_trace.proofs.FilledFaces.{inside_below}
use Rattle.ember_leaf.proofs.WallClips.{inside_in_below}
use Rattle.ember_leaf.proofs.LinearInequalities.{Row, dot, Inequality, Solves, IsDecided, every_parts, system_is_decided}

-- ---- planes as inequalities of the four coordinates of a point
abbrev row : Plane → Row 4
row p = (p.a, (p.b, (p.c, (neg_ℤ p.d, tt))))

abbrev point : Spot → Row 4
point v = (v.x, (v.y, (v.z, (v.w, tt))))

abbrev spot : Row 4 → Spot
spot x = record { x = x.0; y = x.1.0; z = x.1.1.0; w = x.1.1.1.0 }

row_value : (p : Plane) (v : Spot) → dot 4 (row p) (point v) ≡ value_at p v
row_value p v =
    solve 8 (λ a b c d x y z w. a ⊗ x ⊕ (b ⊗ y ⊕ (c ⊗ z ⊕ (neg d ⊗ w ⊕ num (pos 0)))) ≈ a ⊗ x ⊕ b ⊗ y ⊕ c ⊗ z ⊖ d ⊗ w) cancels p.a p.b p.c p.d v.x v.y v.z v.w

under : Plane → Inequality 4
under p = record { row = row p; slack = pos 1; least = omega (arith, linear) }

at_most : Plane → Inequality 4
at_most p = record { row = row p; slack = pos 0; least = omega (arith, linear) }

under_in : (p : Plane) (v : Spot) → IsBelow p v → Solves 4 (under p) (point v)
unfolding under
under_in p v h = let a = h.under in let e = row_value p v in record { at_most = omega (arith, linear, a, e) }

under_out : (p : Plane) (v : Spot) → Solves 4 (under p) (point v) → IsBelow p v
unfolding under
under_out p v h = let a = h.at_most in let e = row_value p v in record { under = omega (arith, linear, a, e) }

most_in : (p : Plane) (v : Spot) → IsNotAbove p v → Solves 4 (at_most p) (point v)
unfolding at_most
most_in p v h = let a = h.at_most in let e = row_value p v in record { at_most = omega (arith, linear, a, e) }

most_out : (p : Plane) (v : Spot) → Solves 4 (at_most p) (point v) → IsNotAbove p v
unfolding at_most
most_out p v h = let a = h.at_most in let e = row_value p v in record { at_most = omega (arith, linear, a, e) }

unders_in : (gs : List Plane) (v : Spot) → AllByRecursion (λ g. IsBelow g v) gs → Every (λ b. Solves 4 b (point v)) (map under gs)
unders_in [] v h = tt
unders_in (g ∷ gs) v h = (under_in g v h.0, unders_in gs v h.1)

unders_out : (gs : List Plane) (v : Spot) → Every (λ b. Solves 4 b (point v)) (map under gs) → AllByRecursion (λ g. IsBelow g v) gs
unders_out [] v h = tt
unders_out (g ∷ gs) v h = (under_out g v h.0, unders_out gs v h.1)

mosts_in : (gs : List Plane) (v : Spot) → AllByRecursion (λ g. IsNotAbove g v) gs → Every (λ b. Solves 4 b (point v)) (map at_most gs)
mosts_in [] v h = tt
mosts_in (g ∷ gs) v h = (most_in g v h.0, mosts_in gs v h.1)

mosts_out : (gs : List Plane) (v : Spot) → Every (λ b. Solves 4 b (point v)) (map at_most gs) → AllByRecursion (λ g. IsNotAbove g v) gs
mosts_out [] v h = tt
mosts_out (g ∷ gs) v h = (most_out g v h.0, mosts_out gs v h.1)

-- negative if the weight is positive
abbrev weight : Plane
weight = record { a = pos 0; b = pos 0; c = pos 0; d = pos 1 }

weight_value : (v : Spot) → value_at weight v ≡ neg_ℤ v.w
weight_value v =
    solve 4 (λ x y z w. num (pos 0) ⊗ x ⊕ num (pos 0) ⊗ y ⊕ num (pos 0) ⊗ z ⊖ num (pos 1) ⊗ w ≈ neg w) cancels v.x v.y v.z v.w

-- ---- on a plane, under the planes of one list and at most on those of another
module _ (n : Plane) (gs hs : List Plane) where
  record Fits (v : Spot) : Type 0 where
    inside : InFace n gs v
    loose : AllByRecursion (λ h. IsNotAbove h v) hs

  abbrev system : List (Inequality 4)
  system = map under (weight ∷ gs) ++ map at_most (n ∷ opposite n ∷ hs)

  fits_in : (v : Spot) → Fits v → Every (λ b. Solves 4 b (point v)) system
  fits_in v f =
      let z = f.inside.flat in let o = value-opposite n v in let w = f.inside.weight in let e = weight_value v in
      every_append (λ b. Solves 4 b (point v)) (map under (weight ∷ gs)) (map at_most (n ∷ opposite n ∷ hs))
      (unders_in (weight ∷ gs) v (record { under = omega (arith, linear, w, e) }, f.inside.within))
      (mosts_in (n ∷ opposite n ∷ hs) v (
        record { at_most = omega (arith, linear, z) },
        (record { at_most = omega (arith, linear, z, o) }, f.loose),
      ))

  fits_out : (v : Spot) → Every (λ b. Solves 4 b (point v)) system → Fits v
  fits_out v h =
      let k = every_parts (λ b. Solves 4 b (point v)) (map under (weight ∷ gs)) (map at_most (n ∷ opposite n ∷ hs)) h in
      let u = unders_out (weight ∷ gs) v k.0 in let m = mosts_out (n ∷ opposite n ∷ hs) v k.1 in
      let a = m.0.at_most in let b = m.1.0.at_most in let o = value-opposite n v in let w = u.0.under in let e = weight_value v in
      record { inside = record { flat = omega (arith, linear, a, b, o); weight = omega (arith, linear, w, e); within = u.1 }; loose = m.1.1 }

  fits_decided : ((v : Spot) × Fits v) ⊎ ((v : Spot) → Fits v → ⊥)
  fits_decided = by (system_is_decided 4 system)
    where
      by : IsDecided 4 system → ((v : Spot) × Fits v) ⊎ ((v : Spot) → Fits v → ⊥)
      by (inl r) = inl (spot r.0, fits_out (spot r.0) r.1)
      by (inr f) = inr (λ v k. f (point v) (fits_in v k))

-- ---- cuts and meetings
abbrev Decided : Type 0 → Type 0
Decided P = P ⊎ (P → ⊥)

has_inside_decided : (f : Face) → Decided (Somewhere f (λ v. Unit {0}))
has_inside_decided f = by (fits_decided f.support f.edges [])
  where
    by : ((v : Spot) × Fits f.support f.edges [] v) ⊎ ((v : Spot) → Fits f.support f.edges [] v → ⊥) → Decided (Somewhere f (λ v. Unit {0}))
    by (inl r) = inl (record { at = r.0; inside = inside_in f r.0 r.1.inside; holds = tt })
    by (inr n) = inr (λ s. n s.at (record { inside = inside_out f s.at s.inside; loose = tt }))

meets_decided : (f g : Face) → Decided (Meets f g)
meets_decided f g = by (fits_decided f.support f.edges (g.support ∷ opposite g.support ∷ g.edges))
  where
    closed : (v : Spot) → Fits f.support f.edges (g.support ∷ opposite g.support ∷ g.edges) v → is_in_closed g v ≡ true
    closed v k =
        let a = k.loose.0.at_most in let b = (least_from_opposite g.support v k.loose.1.0).at_least in
        closed_in g v (record { flat = omega (arith, linear, a, b); weight = k.inside.weight; within = k.loose.1.1 })

    fits : (v : Spot) → is_inside f v ≡ true → is_in_closed g v ≡ true → Fits f.support f.edges (g.support ∷ opposite g.support ∷ g.edges) v
    fits v i c =
        let k = closed_out g v c in let z = k.flat in
        record {
          inside = inside_out f v i;
          loose = (
            record { at_most = omega (arith, linear, z) },
            (most_opposite g.support v (record { at_least = omega (arith, linear, z) }), k.within),
          );
        }

    by : ((v : Spot) × Fits f.support f.edges (g.support ∷ opposite g.support ∷ g.edges) v) ⊎ ((v : Spot) →
        Fits f.support f.edges (g.support ∷ opposite g.support ∷ g.edges) v → ⊥) → Decided (Meets f g)
    by (inl r) = inl (record { at = r.0; inside = inside_in f r.0 r.1.inside; holds = closed r.0 r.1 })
    by (inr n) = inr (λ s. n s.at (fits s.at s.inside s.holds))

under_decided : (f : Face) (p : Plane) → Decided (Somewhere f (λ v. is_negative (value_at p v) ≡ true))
under_decided f p = by (has_inside_decided (below f p))
  where
    by : Decided (Somewhere (below f p) (λ v. Unit {0})) → Decided (Somewhere f (λ v. is_negative (value_at p v) ≡ true))
    by (inl s) = let k = inside_below f p s.at s.inside in inl (record { at = s.at; inside = k.0; holds = k.1 })
    by (inr n) = inr (λ s. n (record { at = s.at; inside = inside_in_below f p s.at s.inside s.holds; holds = tt }))

cuts_decided : (f : Face) (p : Plane) → Decided (Cuts f p)
cuts_decided f p = by (under_decided f p) (under_decided f (opposite p))
  where
    over : Somewhere f (λ v. is_negative (value_at (opposite p) v) ≡ true) → Somewhere f (λ v. is_positive (value_at p v) ≡ true)
    over s =
        record {
          at = s.at;
          inside = s.inside;
          holds =
              positive_in (over_from_opposite p s.at
              (record { under = negative_out (value_at (opposite p) s.at) s.holds })).over;
        }

    turned : Somewhere f (λ v. is_positive (value_at p v) ≡ true) → Somewhere f (λ v. is_negative (value_at (opposite p) v) ≡ true)
    turned s =
        record { at = s.at; inside = s.inside; holds = negative_in (over_opposite p s.at (record { over = positive_out (value_at p s.at) s.holds })).under }

    by : Decided (Somewhere f (λ v. is_negative (value_at p v) ≡ true)) →
        Decided (Somewhere f (λ v. is_negative (value_at (opposite p) v) ≡ true)) → Decided (Cuts f p)
    by (inl a) (inl b) = inl (record { some_below = a; some_above = over b })
    by (inl a) (inr n) = inr (λ c. n (turned c.some_above))
    by (inr n) b = inr (λ c. n c.some_below)

-- what a cutting plane leaves of a face
pub at_cutting_plane : (b : CuttingPlane) (f : Face) → (fs : List Face) × AreLeftByCuttingPlane b f fs
at_cutting_plane b f = by (meets_decided f b.face) (cuts_decided f b.plane)
  where
    by : Decided (Meets f b.face) → Decided (Cuts f b.plane) → (fs : List Face) × AreLeftByCuttingPlane b f fs
    by (inl m) (inl c) = (below f b.plane ∷ above f b.plane ∷ [], splits m c)
    by (inl m) (inr n) = (f ∷ [], whole (λ x c. n c))
    by (inr n) c = (f ∷ [], whole (λ m x. n m))
