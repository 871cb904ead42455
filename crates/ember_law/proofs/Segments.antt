-- Two clear points, joined by a segment that misses all closed faces, have the same crossings.
use Rattle.std.proofs.Common.{◌≡◌, ◌≢◌, ◌⊎◌, inl, inr, refl, sym, ap, ◌∙◌, arith, le_refl, Bool, true}
use Rattle.std.proofs.Common.{false, not, cond, List, [], ◌∷◌, map, filter, ℤ, pos, ◌+ℤ◌, ◌*ℤ◌, neg_ℤ}
use Rattle.std.proofs.Common.{◌<ℤ◌}
use Rattle.std.specs.List.{AllByRecursion}
use Rattle.ember_algebra.specs.Vector.{dot, det}
use Rattle.ember_algebra.specs.Sums.{total}
use Rattle.ember_algebra.specs.Large.{Eventually}
use Rattle.ember_algebra.proofs.Laws.{linear}
use Rattle.ember_algebra.proofs.Large.{eventually_both, eventually_map}
use Rattle.ember_model.specs.declared.tri.Tri.{Tri}
use Rattle.ember_model.specs.declared.point.Spot.{Spot}
use Rattle.ember_model.specs.declared.point.Axis.{Axis}
use Rattle.ember_model.specs.declared.point.Axis.TheVariants.{X, Y}
use Rattle.ember_model.specs.Planes.{unit, value_at, support_of, HasNoNormal}
use Rattle.ember_model.specs.Points.{offset_by, displacement}
use Rattle.ember_model.specs.Faces.{is_flat, face_of}
use Rattle.ember_model.specs.Clear.{AreClear}
use Rattle.ember_model.specs.Meshes.{wind, faces_of, IsBalanced}
use Rattle.ember_model.proofs.SignTests.{zero_scaled}
use Rattle.ember_model.proofs.PlaneValues.{seen, support_value}
use Rattle.ember_model.proofs.SeenCrossings.{seen_crossing}
use Rattle.ember_law.specs.Laws.{MissesFace}
use Rattle.ember_law.proofs.Directions.{AreGeneric, IsAcross, directions_agree}
use Rattle.ember_law.proofs.Shifted.{follows_shifted, off_shifted, weight_shifted, eventually_true}
use Rattle.ember_law.proofs.FlatTriangles.{IsFlat, flat_out, flat_seen_crossing}
use Rattle.ember_law.proofs.Generic.{wind_shifted, generic_shifted}
use Rattle.ember_law.proofs.Axes.{wind_seen, axes_agree}
use Rattle.ember_law.proofs.Separation.{Separates, missed_face_has_separating_edge}
use Rattle.ember_law.proofs.SegmentTriangles.{sight, sight_value, IsStrict, AreStrict, are_strict_shifted}
use Rattle.ember_law.proofs.SegmentTriangles.{are_generic, are_strict_there, tri_along}

-- ---- a mesh
abbrev AreApart : Spot → Spot → List Tri → Type 0
AreApart p q [] = Unit {0}
AreApart p q (t ∷ ts) = (IsFlat t ⊎ Separates (face_of t) p q) × AreApart p q ts

are_apart : (p q : Spot) (ts : List Tri) → pos 0 <ℤ p.w → pos 0 <ℤ q.w → AllByRecursion (MissesFace p q) (faces_of ts) → AreApart p q ts
are_apart p q [] wp wq h = tt
are_apart p q (t ∷ ts) wp wq h = by (is_flat t) refl h (are_apart p q ts wp wq)
  where
    by : (b : Bool) → is_flat t ≡ b → AllByRecursion (MissesFace p q)
        (map face_of (cond (not b) (t ∷ filter (λ t. not (is_flat t)) ts) (filter (λ t. not (is_flat t)) ts))) →
        (AllByRecursion (MissesFace p q) (faces_of ts) → AreApart p q ts) → AreApart p q (t ∷ ts)
    by true e h r = (inl (flat_out t e), r h)
    by false e h r = (inr (missed_face_has_separating_edge (face_of t) p q wp wq h.0), r h.1)

near_shifted : (p q : Spot) (ts : List Tri) → AreApart p q ts → Eventually (λ k. AreApart (offset_by p (pos k)) q ts)
near_shifted p q [] s = eventually_true (λ k. tt)
near_shifted p q (t ∷ ts) s = eventually_both (by s.0) (near_shifted p q ts s.1)
  where
    by : IsFlat t ⊎ Separates (face_of t) p q → Eventually (λ k. IsFlat t ⊎ Separates (face_of t) (offset_by p (pos k)) q)
    by (inl f) = eventually_true (λ k. inl f)
    by (inr s) =
        eventually_map (λ k h. inr (record { plane = s.plane; near = h.up s.near; far = s.far; low = s.low })) (follows_shifted p s.plane)

far_shifted : (p q : Spot) (ts : List Tri) → AreApart p q ts → Eventually (λ k. AreApart p (offset_by q (pos k)) ts)
far_shifted p q [] s = eventually_true (λ k. tt)
far_shifted p q (t ∷ ts) s = eventually_both (by s.0) (far_shifted p q ts s.1)
  where
    by : IsFlat t ⊎ Separates (face_of t) p q → Eventually (λ k. IsFlat t ⊎ Separates (face_of t) p (offset_by q (pos k)))
    by (inl f) = eventually_true (λ k. inl f)
    by (inr s) =
        eventually_map (λ k h. inr (record { plane = s.plane; near = s.near; far = h.up s.far; low = s.low })) (follows_shifted q s.plane)

off_plane : (p : Spot) (t : Tri) → det (seen p t.a) (seen p t.b) (seen p t.c) ≢ pos 0 → value_at (support_of t) p ≢ pos 0
off_plane p t n z = n (support_value t p ∙ ap neg_ℤ (zero_scaled (p.w *ℤ p.w) (value_at (support_of t) p) z))

flat_along_way : (p q : Spot) (t : Tri) → IsFlat t → seen_crossing (displacement p q) p t ≡ seen_crossing (displacement p q) q t
flat_along_way p q t f = flat_seen_crossing (displacement p q) p t f ∙ sym (flat_seen_crossing (displacement p q) q t f)

tri_way : (p q : Spot) (t : Tri) → pos 0 <ℤ p.w → pos 0 <ℤ q.w → IsFlat t ⊎ IsStrict (displacement p q) p t →
    IsFlat t ⊎ IsStrict (displacement p q) q t → IsFlat t ⊎ Separates (face_of t) p q →
    seen_crossing (displacement p q) p t ≡ seen_crossing (displacement p q) q t
tri_way p q t lp lq (inl f) b c = flat_along_way p q t f
tri_way p q t lp lq (inr a) (inl f) c = flat_along_way p q t f
tri_way p q t lp lq (inr a) (inr b) (inl f) = flat_along_way p q t f
tri_way p q t lp lq (inr a) (inr b) (inr c) = tri_along p q t lp lq (off_plane p t a.off) (off_plane q t b.off) c

mesh_way : (p q : Spot) (ts : List Tri) → pos 0 <ℤ p.w → pos 0 <ℤ q.w → AreStrict (displacement p q) p ts →
    AreStrict (displacement p q) q ts → AreApart p q ts →
    total (seen_crossing (displacement p q) p) ts ≡ total (seen_crossing (displacement p q) q) ts
mesh_way p q [] lp lq a b c = refl
mesh_way p q (t ∷ ts) lp lq a b c =
    let x = tri_way p q t lp lq a.0 b.0 c.0 in let y = mesh_way p q ts lp lq a.1 b.1 c.1 in λ i. x i +ℤ y i

-- the way is not along x
across_x : (p q : Spot) → pos 0 <ℤ p.w → (value_at (sight (unit Y) p) q ≡ pos 0 → HasNoNormal (sight (unit Y) p)) → IsAcross (unit X) (displacement p q)
across_x p q l h x y z =
    let f = displacement p q in
    let e : dot f (unit Y) ≡ pos 0 = omega (arith, linear, z) in
    let n = (h (sight_value (unit Y) p q ∙ e)).1 in omega (arith, linear, n, l)

generic_way : (p q : Spot) (ts : List Tri) → IsBalanced ts → pos 0 <ℤ p.w → pos 0 <ℤ q.w →
    IsAcross (unit X) (displacement p q) → AreGeneric (unit X) p ts → AreGeneric (unit X) q ts → AreStrict (displacement p q) p ts →
    AreApart p q ts → wind X (faces_of ts) p ≡ wind X (faces_of ts) q
generic_way p q ts l lp lq h gp gq sp s =
    let sq = are_strict_there (unit X) p q ts lp lq sp gq in
    wind_seen X p ts lp ∙ directions_agree (unit X) (displacement p q) p ts l h gp (are_generic (displacement p q) p ts sp)
    ∙ mesh_way p q ts lp lq sp sq s ∙ sym (directions_agree (unit X) (displacement p q) q ts l h gq
    (are_generic (displacement p q) q ts sq)) ∙ sym (wind_seen X q ts lq)

-- by a generic point near each of the two
by_way : (a b : Axis) (p q v w : Spot) (ts : List Tri) → IsBalanced ts → pos 0 <ℤ p.w → pos 0 <ℤ q.w →
    AreClear (faces_of ts) p → AreClear (faces_of ts) q → pos 0 <ℤ v.w → pos 0 <ℤ w.w →
    wind X (faces_of ts) p ≡ wind X (faces_of ts) v → wind X (faces_of ts) q ≡ wind X (faces_of ts) w →
    IsAcross (unit X) (displacement v w) → AreGeneric (unit X) v ts → AreGeneric (unit X) w ts → AreStrict (displacement v w) v ts →
    AreApart v w ts → wind a (faces_of ts) p ≡ wind b (faces_of ts) q
by_way a b p q v w ts l lp lq kp kq lv lw ev ew h gv gw sv s =
    axes_agree a X p ts l lp kp ∙ ev ∙ generic_way v w ts l lv lw h gv gw sv s ∙ sym ew ∙ axes_agree X b q ts l lq kq

-- along a segment that misses all faces, winding numbers stay
pub segment_law : (a b : Axis) (p q : Spot) (ts : List Tri) → IsBalanced ts → pos 0 <ℤ p.w → pos 0 <ℤ q.w →
    AreClear (faces_of ts) p → AreClear (faces_of ts) q → AllByRecursion (MissesFace p q) (faces_of ts) →
    wind a (faces_of ts) p ≡ wind b (faces_of ts) q
segment_law a b p q ts l lp lq kp kq h =
    let e = eventually_both (weight_shifted p lp)
    (eventually_both (wind_shifted X p (faces_of ts) lp kp)
    (eventually_both (generic_shifted (unit X) p ts lp) (near_shifted p q ts (are_apart p q ts lp lq h)))) in
    let p' = offset_by p (pos e.from) in let r = e.holds e.from (le_refl e.from) in
    let d = eventually_both (weight_shifted q lq)
    (eventually_both (wind_shifted X q (faces_of ts) lq kq)
    (eventually_both (generic_shifted (unit X) q ts lq)
    (eventually_both (far_shifted p' q ts r.1.1.1)
    (eventually_both (are_strict_shifted (unit X) p' q ts r.0 r.1.1.0) (off_shifted q (sight (unit Y) p')))))) in
    let q' = offset_by q (pos d.from) in let s = d.holds d.from (le_refl d.from) in
    by_way a b p q p' q' ts l lp lq kp kq r.0 s.0 r.1.0 s.1.0 (across_x p' q' r.0 s.1.1.1.1.1) r.1.1.0 s.1.1.0 s.1.1.1.1.0 s.1.1.1.0
