-- A generic point is clear.
use Rattle.std.proofs.Common.{◌≡◌, ◌≢◌, ◌⊎◌, inl, inr, refl, sym, ap, ◌∙◌, arith, Bool, true, false, not, ◌&&◌, cond}
use Rattle.std.proofs.Common.{List, [], ◌∷◌, map, filter, ℤ, pos, negsuc, zero, suc, ◌+ℤ◌, ◌*ℤ◌, neg_ℤ, ◌<ℤ◌, ◌≤ℤ◌}
use Rattle.std.specs.List.{AllByRecursion}
use borrow.Author.Differences.{ints}
use lib.IntN.{*ℤ_comm}
use Rattle.std.proofs.lemmas.Bool.{and_parts}
use Rattle.ember_algebra.specs.Vector.{dot, cross}
use Rattle.ember_algebra.specs.Sign.{sign, is_negative, is_positive, is_pos}
use Rattle.ember_algebra.specs.Large.{Eventually}
use Rattle.ember_algebra.proofs.Laws.{linear}
use Rattle.ember_algebra.proofs.Order.{zero_product}
use Rattle.ember_algebra.proofs.Large.{eventually_both, eventually_map}
use Rattle.ember_algebra.proofs.Ring.{◌≈◌, neg, cancels}
use Rattle.ember_algebra.proofs.Vectors.{vector, identity, dotE, crossE, minusE}
use Rattle.ember_algebra.proofs.Identities.{dot_zero}
use Rattle.ember_model.specs.declared.tri.Tri.{Tri}
use Rattle.ember_model.specs.declared.plane.Plane.{Plane}
use Rattle.ember_model.specs.declared.point.Spot.{Spot}
use Rattle.ember_model.specs.declared.point.Axis.{Axis}
use Rattle.ember_model.specs.declared.point.Axis.TheVariants.{X, Y, Z}
use Rattle.ember_model.specs.Planes.{vector_of, unit, value_at, along, main_axis, times_plane, support_of, edge_through, edge_planes, vector_between}
use Rattle.ember_model.specs.Points.{scaled, moved, offset_by}
use Rattle.ember_model.specs.Faces.{size, hit, is_in_closed, is_inside, edges_of, face_of, is_flat}
use Rattle.ember_model.specs.Clear.{IsClear, IsClearOf, AreClear}
use Rattle.ember_model.specs.Meshes.{faces_of}
use Rattle.ember_model.specs.ClearTest.{none_positive, all_negative}
use Rattle.ember_model.proofs.SignTests.{clash, zero_scaled, size_positive}
use Rattle.ember_model.proofs.PlaneValues.{along_dot, value_scaled, value_times, seen}
use Rattle.ember_model.proofs.SeenCrossings.{edge_sign, first_edge, second_edge, third_edge, main_zero}
use Rattle.ember_model.proofs.Hits.{same_all_negative, same_none_positive, value_ray, ray_weight, inside_on, closed_parts}
use Rattle.ember_model.proofs.ClearPoints.{hit_is_one_point, nonzero_product}
use Rattle.ember_model.proofs.FourSigns.{at_point, hit_edges}
use Rattle.ember_law.proofs.Shifted.{eventually_true}
use Rattle.ember_law.proofs.FlatTriangles.{flat_in}
use Rattle.ember_law.proofs.Generic.{IsOff, off_all}

-- as `hit_edges`, for the weak signs
hit_weak : (t : Tri) (a : Axis) (p : Spot) → pos 0 <ℤ p.w → along (support_of t) a ≢ pos 0 →
    none_positive (edges_of t) (hit (support_of t) a p) ≡ none_positive (edge_planes t a) p
hit_weak t a p w na =
    let n = support_of t in let k = main_axis n in let f = unit a in let nk : along n k ≢ pos 0 = λ z. na (main_zero n a z) in
    let x = edge_sign n (edge_through t.a t.b (unit k)) p a k (dot f (cross (seen p t.a) (seen p t.b))) w nk
    (first_edge t p f (unit k)) ∙ sym (at_point t.a t.b a (along n a) p w) in
    let y = edge_sign n (edge_through t.b t.c (unit k)) p a k (dot f (cross (seen p t.b) (seen p t.c))) w nk
    (second_edge t p f (unit k)) ∙ sym (at_point t.b t.c a (along n a) p w) in
    let z = edge_sign n (edge_through t.c t.a (unit k)) p a k (dot f (cross (seen p t.c) (seen p t.a))) w nk
    (third_edge t p f (unit k)) ∙ sym (at_point t.c t.a a (along n a) p w) in
    λ i. not (is_pos (x i)) && (not (is_pos (y i)) && (not (is_pos (z i)) && true))

-- what is asked for an axis that is not along the plane
pub record OffEdges (a : Axis) (p : Spot) (t : Tri) : Type 0 where
  pub first : value_at (edge_through t.a t.b (unit a)) p ≢ pos 0
  pub second : value_at (edge_through t.b t.c (unit a)) p ≢ pos 0
  pub third : value_at (edge_through t.c t.a (unit a)) p ≢ pos 0

-- a number that is neither positive nor 0 is negative
pub strict : (z : ℤ) → z ≢ pos 0 → not (is_positive z) ≡ true → is_negative z ≡ true
strict (pos zero) n e = absurd (n refl)
strict (pos (suc k)) n e = cc
strict (negsuc k) n e = refl

times_off : (s : ℤ) (g : Plane) (p : Spot) → s ≢ pos 0 → value_at g p ≢ pos 0 → value_at (times_plane (sign s) g) p ≢ pos 0
times_off s g p ns n z = by (zero_product (sym (value_times (sign s) g p) ∙ z))
  where
    sign_zero : (s : ℤ) → sign s ≡ pos 0 → s ≡ pos 0
    sign_zero (pos zero) e = refl
    sign_zero (pos (suc k)) e = absurd (omega (arith, ints))
    sign_zero (negsuc k) e = cc

    by : (sign s ≡ pos 0) ⊎ (value_at g p ≡ pos 0) → ⊥
    by (inl e) = ns (sign_zero s e)
    by (inr e) = n e

all_strict : (t : Tri) (a : Axis) (p : Spot) → along (support_of t) a ≢ pos 0 → OffEdges a p t →
    none_positive (edge_planes t a) p ≡ true → all_negative (edge_planes t a) p ≡ true
all_strict t a p nz o h =
    let s = along (support_of t) a in
    let g1 = times_plane (sign s) (edge_through t.a t.b (unit a)) in let g2 =
    times_plane (sign s) (edge_through t.b t.c (unit a)) in let g3 =
    times_plane (sign s) (edge_through t.c t.a (unit a)) in
    let x = and_parts (not (is_positive (value_at g1 p))) (not (is_positive (value_at g2 p)) && (not (is_positive (value_at g3 p)) && true)) h in
    let y = and_parts (not (is_positive (value_at g2 p))) (not (is_positive (value_at g3 p)) && true) x.1 in
    let z = and_parts (not (is_positive (value_at g3 p))) true y.1 in
    let a1 = strict (value_at g1 p) (times_off s (edge_through t.a t.b (unit a)) p nz o.first) x.0 in
    let a2 = strict (value_at g2 p) (times_off s (edge_through t.b t.c (unit a)) p nz o.second) y.0 in
    let a3 = strict (value_at g3 p) (times_off s (edge_through t.c t.a (unit a)) p nz o.third) z.0 in
    λ i. a1 i && (a2 i && (a3 i && true))

generic_clear : (p : Spot) (t : Tri) → pos 0 <ℤ p.w → value_at (support_of t) p ≢ pos 0 →
    ((a : Axis) → along (support_of t) a ≢ pos 0 → OffEdges a p t) → IsClear (face_of t) p
unfolding face_of
generic_clear p t w off o =
    record { outside = not_closed (is_in_closed (face_of t) p) refl; rays = rays }
  where
    not_closed : (b : Bool) → is_in_closed (face_of t) p ≡ b → is_in_closed (face_of t) p ≡ false
    not_closed true e = absurd (off (closed_parts (face_of t) p e).1)
    not_closed false e = e

    rays : (a : Axis) (m s : ℤ) → pos 0 <ℤ m → pos 0 ≤ℤ s → is_in_closed (face_of t) (moved (scaled m p) a s) ≡ true →
        is_inside (face_of t) (moved (scaled m p) a s) ≡ true
    rays a m s lm ls c =
        let n = support_of t in let es = edges_of t in let r = moved (scaled m p) a s in
        let x = closed_parts (face_of t) r c in
        let z : m *ℤ value_at n p +ℤ s *ℤ along n a ≡ pos 0 = sym (value_ray n a p m s) ∙ x.1 in
        let nz : along n a ≢ pos 0 = λ e. off (nonzero_product (value_at n p) m (λ q. omega (arith, linear, lm, q))
        (let v = zero_scaled s (along n a) e in *ℤ_comm (value_at n p) m ∙ omega (arith, linear, v, z))) in
        let k = size (along n a) in
        let most : none_positive es (hit n a p) ≡ true =
        sym (same_none_positive m (hit n a p) (scaled k r) es lm (hit_is_one_point n a p m s z))
        ∙ same_none_positive k r (scaled k r) es (size_positive (along n a) nz) (λ g. value_scaled k g r) ∙ x.2 in
        let low : all_negative es (hit n a p) ≡ true = hit_edges t a p w nz ∙ all_strict t a p nz (o a nz) (sym (hit_weak t a p w nz) ∙ most) in
        let l = sym (same_all_negative k r (scaled k r) es (size_positive (along n a) nz) (λ g. value_scaled k g r))
        ∙ same_all_negative m (hit n a p) (scaled k r) es lm (hit_is_one_point n a p m s z) ∙ low in
        inside_on (face_of t) r (ray_weight a p m s lm w) x.1 ∙ l

-- ---- near every point there are clear points
-- an edge along the axis has its plane's normal 0 only if the axis lies in the triangle's plane
edge_normal : (t : Tri) (a : Axis) (p : Spot) → IsOff (unit a) p t → along (support_of t) a ≢ pos 0 → OffEdges a p t
edge_normal t a p m nz =
    let f = unit a in let n = support_of t in let s = vector ∷ vector ∷ vector ∷ vector ∷ [] in
    let va = vector_of t.a in let vb = vector_of t.b in let vc = vector_of t.c in
    let i1 = identity s (λ a b c f. dotE (crossE (minusE b a) (minusE c a)) f ≈ neg (dotE (minusE c a) (crossE (minusE b a) f))) cancels va vb vc f in
    let i2 = identity s (λ a b c f. dotE (crossE (minusE b a) (minusE c a)) f ≈ dotE (minusE b a) (crossE (minusE c b) f)) cancels va vb vc f in
    let i3 = identity s (λ a b c f. dotE (crossE (minusE b a) (minusE c a)) f ≈ neg (dotE (minusE b a) (crossE (minusE a c) f))) cancels va vb vc f in
    let e = along_dot n a in
    record {
      first = λ z. let h = m.first z in let d = dot_zero (vector_between t.a t.c) (cross (vector_between t.a t.b) f) h.0 h.1 h.2 in nz (e ∙ i1 ∙ ap neg_ℤ d);
      second = λ z. let h = m.second z in let d = dot_zero (vector_between t.a t.b) (cross (vector_between t.b t.c) f) h.0 h.1 h.2 in nz (e ∙ i2 ∙ d);
      third = λ z. let h = m.third z in let d = dot_zero (vector_between t.a t.b) (cross (vector_between t.c t.a) f) h.0 h.1 h.2 in nz (e ∙ i3 ∙ ap neg_ℤ d);
    }

-- a point that misses the planes of a triangle along the three axes is clear of it
pub off_clear : (p : Spot) (t : Tri) → IsOff (unit X) p t → IsOff (unit Y) p t → IsOff (unit Z) p t → IsClearOf t p
off_clear p t x y z nf =
    generic_clear p t x.weight (λ e. let n = x.plane e in clash (flat_in t (record { a = n.0; b = n.1; c = n.2 })) nf) each
  where
    each : (a : Axis) → along (support_of t) a ≢ pos 0 → OffEdges a p t
    each X nz = edge_normal t X p x nz
    each Y nz = edge_normal t Y p y nz
    each Z nz = edge_normal t Z p z nz

-- a point that is shifted by little enough is clear of all triangles
pub clear_shifted : (p : Spot) (ts : List Tri) → pos 0 <ℤ p.w → Eventually (λ k. AllByRecursion (λ t. IsClearOf t (offset_by p (pos k))) ts)
clear_shifted p [] w = eventually_true (λ k. tt)
clear_shifted p (t ∷ ts) w =
    eventually_both (eventually_map (λ k h. off_clear (offset_by p (pos k)) t h.0 h.1.0 h.1.1)
    (eventually_both (off_all (unit X) p t w) (eventually_both (off_all (unit Y) p t w) (off_all (unit Z) p t w))))
    (clear_shifted p ts w)

-- points that are clear of triangles are clear of their faces
pub clear_faces : (p : Spot) (ts : List Tri) → AllByRecursion (λ t. IsClearOf t p) ts → AreClear (faces_of ts) p
clear_faces p [] h = tt
clear_faces p (t ∷ ts) h = by (is_flat t) refl (clear_faces p ts h.1)
  where
    by : (b : Bool) → is_flat t ≡ b → AreClear (faces_of ts) p →
        AreClear (map face_of (cond (not b) (t ∷ filter (λ t. not (is_flat t)) ts) (filter (λ t. not (is_flat t)) ts))) p
    by true e r = r
    by false e r = (h.0 e, r)
