-- The region's own triangle: a path ends on its plane, and behind its edges. It is known by its planes, which are the
-- region's.
use Rattle.std.proofs.Common.{◌≡◌, ◌≢◌, ◌&&◌, refl, sym, ap, subst, ◌∙◌, arith, ℕ, zero, suc, ◌<◌, true, false, List}
use Rattle.std.proofs.Common.{[], ◌∷◌, length, get_or, None, Some, slice_get, ℤ, pos, ◌*ℤ◌, ◌<ℤ◌}
use Rattle.std.specs.Bool.{Decides}
use Rattle.std.specs.Ordering.{int_eq}
use Rattle.std.proofs.Math.Logic.{∥∥₁_elim}
use Rattle.std.proofs.lemmas.Bool.Decides.{Decides-like, Decides-and, Decides-int_eq}
use Rattle.std.proofs.lemmas.Option.{slice_get-get_or}
use mathlib.Core.Bool.{Bool-set}
use Rattle.std.proofs.lemmas.Bool.{and_parts}
use Rattle.ember_algebra.specs.declared.Sign.{Sign}
use Rattle.ember_algebra.specs.declared.Sign.TheVariants.{Neg, Zero, Pos}
use Rattle.ember_algebra.specs.Sign.{sign, sgn, is_nil, is_negative}
use Rattle.ember_algebra.proofs.Laws.{linear}
use Rattle.ember_algebra.proofs.Booleans.{same_some}
use Rattle.ember_model.specs.declared.plane.Plane.{Plane}
use Rattle.ember_model.specs.declared.point.Spot.{Spot}
use Rattle.ember_model.specs.declared.point.Axis.{Axis}
use Rattle.ember_model.specs.declared.face.Face.{Face}
use Rattle.ember_model.specs.declared.tri.Tri.{Tri}
use Rattle.ember_model.specs.Planes.{value_at, along, support_of, edge_planes, zero_plane}
use Rattle.ember_model.specs.Within.{IsTriWithin, IsPlaneWithin}
use Rattle.ember_model.specs.Faces.{size, edges_of, hit, Everywhere}
use Rattle.ember_model.specs.ClearTest.{all_negative}
use Rattle.ember_model.proofs.SignTests.{clash, size_positive, zero_scaled, zero_times}
use Rattle.ember_model.proofs.PlaneValues.{value_hit}
use Rattle.ember_model.proofs.Hits.{Scales, same_all_negative, inside_parts}
use Rattle.ember_model.proofs.FourSigns.{hit_edges}
use Rattle.ember_model.proofs.Tuples.{same_plane}
use Rattle.ember_width.specs.declared.width.Width.{Ghosts}
use Rattle.ember_width.proofs.Slides.{support_within_planes}
use Rattle.ember_trace.specs.declared.near_triangle.NearTriangle.{NearTriangle}
use Rattle.ember_trace.specs.FirstCorners.{HasFirstCorners}
use Rattle.ember_trace.specs.Paths.{Path, side_at_end}
use Rattle.ember_trace.specs.Lines.{all_behind}
use Rattle.ember_trace.proofs.Corners.{first_corners}
use Rattle.ember_trace.proofs.SegmentSigns.{edges_behind}
use Rattle.ember_trace.proofs.RegionEnds.{Found, first_corners_found}

-- ---- planes
-- the test of the four numbers decides whether two planes have the same numbers
pub planes_are_equal : (p q : Plane) → Decides (int_eq p.a q.a && (int_eq p.b q.b && (int_eq p.c q.c && int_eq p.d q.d))) (p ≡ q)
planes_are_equal p q =
    Decides-like _
    (λ t. same_plane t.0 t.1.0 t.1.1.0 t.1.1.1)
    (λ e. (ap (λ (s : Plane). s.a) e, (ap (λ (s : Plane). s.b) e, (ap (λ (s : Plane). s.c) e, ap (λ (s : Plane). s.d) e))))
    (Decides-and _ _ (Decides-int_eq p.a q.a) (Decides-and _ _ (Decides-int_eq p.b q.b) (Decides-and _ _ (Decides-int_eq p.c q.c) (Decides-int_eq p.d q.d))))

-- if all planes of a list are negative at a point, each of them is
negative_at : (es : List Plane) (x : Spot) → all_negative es x ≡ true → (i : ℕ) (p : Plane) → slice_get es i ≡ Some p → is_negative (value_at p x) ≡ true
negative_at [] x h i p e = by e
  where
    by : None ≡ Some p → is_negative (value_at p x) ≡ true
    by e = cc
negative_at (g ∷ es) x h zero p e =
    subst (λ (p : Plane). is_negative (value_at p x) ≡ true) (by e) (and_parts (is_negative (value_at g x)) (all_negative es x) h).0
  where
    by : Some g ≡ Some p → g ≡ p
    by e = cc
negative_at (g ∷ es) x h (suc i) p e = negative_at es x (and_parts (is_negative (value_at g x)) (all_negative es x) h).1 i p e

-- a face lies behind each of its planes
pub behind_plane : (f : Face) (i : ℕ) (p : Plane) → slice_get f.edges i ≡ Some p → Everywhere f (λ v. is_negative (value_at p v) ≡ true)
behind_plane f i p e = record { holds = λ v h. negative_at f.edges v (inside_parts f v h).2 i p e }

-- and behind the edges of a triangle, if it lies behind each of the three planes
pub behind_edges : (f : Face) (t : Tri) (es : List Plane) → es ≡ edges_of t →
    Everywhere f (λ v. is_negative (value_at (get_or es 0 zero_plane) v) ≡ true) →
    Everywhere f (λ v. is_negative (value_at (get_or es 1 zero_plane) v) ≡ true) →
    Everywhere f (λ v. is_negative (value_at (get_or es 2 zero_plane) v) ≡ true) →
    Everywhere f (λ v. all_negative (edges_of t) v ≡ true)
behind_edges f t es e a b d =
    record {
      holds = λ v h.
          let x = ap (λ (g : Plane). is_negative (value_at g v)) (same_some (here 0 (omega arith))) ∙ a.holds v h in
          let y = ap (λ (g : Plane). is_negative (value_at g v)) (same_some (here 1 (omega arith))) ∙ b.holds v h in
          let z = ap (λ (g : Plane). is_negative (value_at g v)) (same_some (here 2 (omega arith))) ∙ d.holds v h in λ i. x i && (y i && (z i && true));
    }
  where
    here : (i : ℕ) → i < 3 → slice_get (edges_of t) i ≡ Some (get_or es i zero_plane)
    here i l = subst (λ us. slice_get us i ≡ Some (get_or es i zero_plane)) e (slice_get-get_or es i zero_plane (subst (λ us. i < length us) (sym e) l))

-- a sign that the test takes for Zero
nil_out : (s : Sign) → is_nil s ≡ true → s ≡ Zero
nil_out Neg e = absurd (by e)
  where
    by : false ≡ true → ⊥
    by e = cc
nil_out Zero e = refl
nil_out Pos e = absurd (by e)
  where
    by : false ≡ true → ⊥
    by e = cc

-- ---- an inside point of the region, close enough to its first corner
module _ {m : ℕ} (w : Path) (f : Face) (u : Found m f w.first_corner w.second_corner w.third_corner) where
  on_plane : (p : Plane) → IsPlaneWithin m p → p ≡ f.support → is_nil (side_at_end w p) ≡ true
  on_plane p i e =
      ap is_nil (sym (u.close.at_end p i) ∙ ap sgn (ap (λ (n : Plane). value_at n u.q) e ∙ (inside_parts f u.q u.inside).1))

  module _ {W M : Type 0} {G : Ghosts W M} (t : NearTriangle W M G) (v : IsTriWithin m t.tri) (same : t.support ≡ f.support)
      (slope : is_nil (sgn (along t.support w.main)) ≡ false) (behind : Everywhere f (λ v. all_negative (edges_of t.tri) v ≡ true)) where
    abbrev n : Plane
    n = support_of t.tri

    abbrev k : Axis
    k = w.main

    abbrev q : Spot
    q = u.q

    flat : value_at n q ≡ pos 0
    flat = ap (λ (p : Plane). value_at p q) (sym t.plane ∙ same) ∙ (inside_parts f q u.inside).1

    weight : pos 0 <ℤ q.w
    weight = (inside_parts f q u.inside).0

    entry : along n k ≢ pos 0
    entry z = clash (ap (λ (a : ℤ). is_nil (sgn a)) (ap (λ (p : Plane). along p k) t.plane ∙ z)) slope

    -- the line along the axis through a point of the plane meets it there
    stays : Scales (size (along n k)) q (hit n k q)
    stays g =
        let e = value_hit g n k q in let z = zero_times (sign (along n k) *ℤ value_at n q) (along g k)
        (zero_scaled (sign (along n k)) (value_at n q) flat) in omega (arith, linear, e, z)

    -- it is behind all edge planes along the main axis, as it is behind those of the face
    all_are_behind : all_behind (λ p. side_at_end w p) (edge_planes t.tri k) ≡ true
    all_are_behind =
        sym (edges_behind (λ p. side_at_end w p) t.tri k q v (λ h i z. u.close.at_end h (support_within_planes m h i)))
        ∙ sym (hit_edges t.tri k q weight entry)
        ∙ same_all_negative (size (along n k)) q (hit n k q) (edges_of t.tri) (size_positive (along n k) entry) stays
        ∙ behind.holds q u.inside

-- ---- the end of a path
module _ (m : ℕ) (w : Path) (f : Face) (corners : ∥ HasFirstCorners f w.first_corner w.second_corner w.third_corner ∥₁) where
  found : HasFirstCorners f w.first_corner w.second_corner w.third_corner → Found m f w.first_corner w.second_corner w.third_corner
  found r =
      first_corners_found m f w.first_corner w.second_corner w.third_corner
      (first_corners f r.corners w.first_corner w.second_corner w.third_corner r.are_corners r.is_first r.is_second r.is_third)

  -- a path ends on the region's plane
  pub end_on_plane : (p : Plane) → IsPlaneWithin m p → p ≡ f.support → side_at_end w p ≡ Zero
  end_on_plane p i e = nil_out (side_at_end w p) (∥∥₁_elim corners (Bool-set _ _) (λ r. on_plane w f (found r) p i e))

  -- and behind all edge planes of a triangle along its main axis, if the region lies in the triangle's plane, and behind
  -- its edges
  pub own_behind : {W M : Type 0} {G : Ghosts W M} (t : NearTriangle W M G) → IsTriWithin m t.tri → t.support ≡ f.support →
      is_nil (sgn (along t.support w.main)) ≡ false → Everywhere f (λ v. all_negative (edges_of t.tri) v ≡ true) →
      all_behind (λ p. side_at_end w p) (edge_planes t.tri w.main) ≡ true
  own_behind t v same slope behind =
      ∥∥₁_elim corners (Bool-set _ _) (λ r. all_are_behind w f (found r) t v same slope behind)
