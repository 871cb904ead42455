-- A triangle that no other one touches has one value on each of its sides: between two points beside it, on one side,
-- no face is met.
use Rattle.std.proofs.Common.{◌≡◌, ◌≢◌, ⊎_elim, inl, inr, refl, sym, ap, subst, ◌∙◌, arith, le_refl, ℕ, ◌+◌, ◌*◌, ◌<◌, true, false, List, [], ◌∷◌, Some, slice_get, ℤ, pos, ◌*ℤ◌, neg_ℤ, ◌<ℤ◌}
use Rattle.std.specs.List.{AllByRecursion}
use Rattle.std.proofs.lemmas.Bool.{cases_eq, false_from_ne_true}
use Rattle.ember_algebra.specs.Large.{Eventually}
use Rattle.ember_algebra.specs.Sign.{sign}
use Rattle.ember_algebra.proofs.Laws.{linear}
use Rattle.ember_algebra.proofs.Large.{eventually_both, eventually_map}
use Rattle.ember_algebra.proofs.Order.{by_sign, zero_product}
use Rattle.ember_model.specs.declared.plane.Plane.{Plane}
use Rattle.ember_model.specs.declared.point.Spot.{Spot}
use Rattle.ember_model.specs.declared.point.Axis.{Axis}
use Rattle.ember_model.specs.declared.face.Face.{Face}
use Rattle.ember_model.specs.declared.tri.Tri.{Tri}
use Rattle.ember_model.specs.Planes.{value_at, along, unit, main_axis, support_of, edge_through, times_plane}
use Rattle.ember_model.specs.Points.{scaled, moved, offset_by}
use Rattle.ember_model.specs.Faces.{is_inside, is_in_closed, is_flat, face_of, edges_of}
use Rattle.ember_model.specs.Meshes.{faces_of, vector}
use Rattle.ember_model.specs.Clear.{AreClear}
use Rattle.ember_model.specs.Sides.{HasWindings, IsSides}
use Rattle.ember_model.proofs.SignTests.{clash, zero_times}
use Rattle.ember_model.proofs.PlaneValues.{value_times}
use Rattle.ember_model.proofs.Hits.{inside_parts, closed_parts, inside_closed}
use Rattle.ember_model.proofs.LastZero.{all_negative_member}
use Rattle.ember_law.specs.Laws.{MissesFace}
use Rattle.ember_law.proofs.FlatTriangles.{flat_out, flat_case, flat_along}
use Rattle.ember_law.proofs.Separation.{Separates, combination, missed_face_has_separating_edge}
use Rattle.ember_law.proofs.Shifted.{weight_shifted}
use Rattle.ember_law.proofs.Vectors.{balanced_segments}
use Rattle.ember_law.proofs.CornerSides.{main_entry}
use Rattle.ember_alone.specs.Touch.{IsAlone}
use Rattle.ember_alone.specs.UniformSides.{IsPart, HasUniformSides, AreBalanced, AloneHaveUniformSides}
use Rattle.ember_alone.proofs.Common.{inside_is_not_in_common}
use Rattle.ember_law.proofs.Beside.{inside_combination, separated_face_is_missed, weight_beside, separated_beside}
use Rattle.ember_law.proofs.Beside.{separated_shifted, OneSign, separated_by_support, eventually_each, faces_each}

-- what follows of each face follows of all
pub each_face : (P Q : Face → Type 0) → ((f : Face) → P f → Q f) → (fs : List Face) → AllByRecursion P fs → AllByRecursion Q fs
each_face P Q g [] h = tt
each_face P Q g (f ∷ fs) h = (g f h.0, each_face P Q g fs h.1)

-- the winding numbers that points directly beside q see
abbrev pub Sees : List Tri → Axis → Spot → ℤ → ℕ → List ℤ → Type 0
Sees ts k q d bound counts = (m : ℕ) → bound * 1 < m → HasWindings ts k (moved (scaled (pos m) q) k d) counts

-- a point inside t, and what is seen directly beside it along the main axis
pub record SidesAt (ts : List Tri) (t : Tri) (before after : List ℤ) : Type 0 where
  pub at : Spot
  pub inside : is_inside (face_of t) at ≡ true
  pub bound : ℕ
  pub sees_before : Sees ts (main_axis (support_of t)) at (neg_ℤ (pos 1)) bound before
  pub sees_after : Sees ts (main_axis (support_of t)) at (pos 1) bound after

-- ---- a flat triangle has no inside points

flat_has_no_inside : (t : Tri) (v : Spot) → is_flat t ≡ true → is_inside (face_of t) v ≡ true → ⊥
unfolding face_of
flat_has_no_inside t v e h =
    let n = support_of t in let k = main_axis n in let s = sign (along n k) in let g = edge_through t.a t.b (unit k) in
    let l = all_negative_member v (edges_of t) (times_plane s g) (inside_parts (face_of t) v h).2 (inl refl) in
    let m = value_times s g v in let o = zero_times s (value_at g v) (ap sign (flat_along t k (flat_out t e))) in
    omega (arith, linear, l, m, o)

-- a triangle that is alone in a list of closed meshes
module _ (ts : List Tri) (balanced : AreBalanced ts) (i : ℕ) (t : Tri) (here : slice_get ts i ≡ Some t) (alone : IsAlone ts i)
    (full : is_flat t ≡ false) where
  abbrev n : Plane
  n = support_of t

  -- ---- no other face has an inside point of t
  pub others_are_off : (j : ℕ) (u : Tri) → j ≢ i → slice_get ts j ≡ Some u → is_flat u ≡ false → (x : Spot) →
      is_inside (face_of t) x ≡ true → is_in_closed (face_of u) x ≡ false
  others_are_off j u ne at nf x h =
      false_from_ne_true (is_in_closed (face_of u) x)
      (λ e. inside_is_not_in_common t u x h ((alone.conforms j t u ne here at).common full nf x (inside_closed (face_of t) x h) e))

  level : (v : Spot) → is_inside (face_of t) v ≡ true → value_at n v ≡ pos 0
  unfolding face_of
  level v h = (inside_parts (face_of t) v h).1

  weight : (v : Spot) → is_inside (face_of t) v ≡ true → pos 0 <ℤ v.w
  weight v h = (inside_parts (face_of t) v h).0

  -- ---- on one side of t
  module _ (p q : Spot) (hp : is_inside (face_of t) p ≡ true) (hq : is_inside (face_of t) q ≡ true) (a b : Axis) (e d : ℤ)
      (signs : OneSign (e *ℤ along n a) (d *ℤ along n b)) where
    abbrev Apart : Face → ℕ → Type 0
    Apart f m = Separates f (moved (scaled (pos m) p) a e) (moved (scaled (pos m) q) b d)

    apart_own : Eventually (Apart (face_of t))
    unfolding face_of
    apart_own = record { from = 0; holds = λ m l. separated_by_support (face_of t) p q a b e d (level p hp) (level q hq) signs m }

    apart_other : (j : ℕ) (u : Tri) → j ≢ i → slice_get ts j ≡ Some u → is_flat u ≡ false → Eventually (Apart (face_of u))
    apart_other j u ne at nf =
        separated_beside (face_of u) p q a b e d
        (missed_face_has_separating_edge (face_of u) p q (weight p hp) (weight q hq)
        (λ k m pk pm. false_from_ne_true (is_in_closed (face_of u) (combination k m p q))
        (λ c. clash c (others_are_off j u ne at nf (combination k m p q)
        (inside_combination (face_of t) k m p q pk pm (closed_parts (face_of u) (combination k m p q) c).0 hp hq)))))

    apart_each : (j : ℕ) (u : Tri) → slice_get ts j ≡ Some u → is_flat u ≡ false → Eventually (Apart (face_of u))
    apart_each j u at nf =
        ⊎_elim (λ s. subst (λ (v : Tri). Eventually (Apart (face_of v))) (same s) apart_own)
        (λ ne. apart_other j u ne at nf) (cases_eq j i)
      where
        same : j ≡ i → t ≡ u
        same s = let r = ap (slice_get ts) s in cc

    -- points close to p and q are apart from all faces
    pub apart_all : Eventually (λ m. AllByRecursion (λ f. Apart f m) (faces_of ts))
    apart_all = eventually_each Apart (faces_of ts) (faces_each (λ f. Eventually (Apart f)) ts apart_each)

  -- ---- one vector
  -- what a point beside p sees, a point beside q sees
  one_value : (p q : Spot) → is_inside (face_of t) p ≡ true → is_inside (face_of t) q ≡ true → (k : Axis) (e : ℤ) →
      e ≢ pos 0 → along n k ≢ pos 0 → (bp bq : ℕ) (xs ys : List ℤ) → Sees ts k p e bp xs → Sees ts k q e bq ys → xs ≡ ys
  one_value p q hp hq k e nz slope bp bq xs ys sp sq =
      let far = eventually_both (weight_beside p k e (weight p hp)) (eventually_both (weight_beside q k e (weight q hq)) (apart_all p q hp hq k k e e signs)) in
      let m = far.from + bp * 1 + bq * 1 + 1 in let h = far.holds m (omega arith) in
      let g = sp m (omega arith) in let r = sq m (omega arith) in
      sym g.counts_are ∙ balanced_segments ts balanced k k (at p m) (at q m) h.0 h.1.0 g.clear r.clear
      (each_face (λ f. Separates f (at p m) (at q m)) (MissesFace (at p m) (at q m))
      (λ f s. separated_face_is_missed f (at p m) (at q m) s) (faces_of ts) h.1.1) ∙ r.counts_are
    where
      at : Spot → ℕ → Spot
      at v m = moved (scaled (pos m) v) k e

      signs : OneSign (e *ℤ along n k) (e *ℤ along n k)
      signs =
          by_sign (e *ℤ along n k) (λ l. inl (l, l)) (λ z. absurd (⊎_elim (λ x. nz x) (λ x. slope x) (zero_product z))) (λ l. inr (l, l))

  -- what a point beside q sees, each clear point sees that lies close enough to h, on the same side
  pub shifted_points_see : (q h : Spot) → is_inside (face_of t) q ≡ true → is_inside (face_of t) h ≡ true → (k a : Axis) (d e : ℤ) →
      OneSign (d *ℤ along n k) (e *ℤ along n a) → (bound : ℕ) (counts : List ℤ) → Sees ts k q d bound counts →
      Eventually (λ m. Eventually (λ l. AreClear (faces_of ts) (offset_by (moved (scaled (pos m) h) a e) (pos l)) → (y : Axis) →
      vector y ts (offset_by (moved (scaled (pos m) h) a e) (pos l)) ≡ counts))
  shifted_points_see q h hq hh k a d e signs bound counts sees =
      record { from = far.from + bound * 1 + 1; holds = λ m l. close m (far.holds m (omega arith)) (sees m (omega arith)) }
    where
      seen : ℕ → Spot
      seen m = moved (scaled (pos m) q) k d

      near : ℕ → Spot
      near m = moved (scaled (pos m) h) a e

      IsFar : ℕ → Type 0
      IsFar m = (pos 0 <ℤ (seen m).w) × ((pos 0 <ℤ (near m).w) × AllByRecursion (λ f. Separates f (seen m) (near m)) (faces_of ts))

      far : Eventually IsFar
      far =
          eventually_map (λ m r. (r.0, (r.1.0, r.1.1)))
          (eventually_both (weight_beside q k d (weight q hq)) (eventually_both (weight_beside h a e (weight h hh)) (apart_all q h hq hh k a d e signs)))

      close : (m : ℕ) → IsFar m → HasWindings ts k (seen m) counts → Eventually (λ l. AreClear (faces_of ts) (offset_by (near m) (pos l)) → (y : Axis) →
          vector y ts (offset_by (near m) (pos l)) ≡ counts)
      close m r w =
          eventually_map
          (λ l s c y. sym (balanced_segments ts balanced k y (seen m) (offset_by (near m) (pos l)) r.0 s.0 w.clear c
          (each_face (λ f. Separates f (seen m) (offset_by (near m) (pos l))) (MissesFace (seen m) (offset_by (near m) (pos l)))
          (λ f o. separated_face_is_missed f (seen m) (offset_by (near m) (pos l)) o) (faces_of ts) s.1)) ∙ w.counts_are)
          (eventually_both (weight_shifted (near m) r.1.0)
          (eventually_each (λ f l. Separates f (seen m) (offset_by (near m) (pos l))) (faces_of ts)
          (each_face (λ f. Separates f (seen m) (near m)) (λ f. Eventually (λ l. Separates f (seen m) (offset_by (near m) (pos l))))
          (λ f o. separated_shifted f (seen m) (near m) o) (faces_of ts) r.1.1)))

  -- ---- the sides of a part
  pub sides_of_part : (g : Face) (before after : List ℤ) → IsPart (face_of t) g → IsSides ts g before after → SidesAt ts t before after
  unfolding face_of
  sides_of_part g before after part s =
      record {
        at = s.at;
        inside = part.inside.holds s.at s.inside;
        bound = s.bound;
        sees_before = subst (λ (p : Plane). Sees ts (main_axis p) s.at (neg_ℤ (pos 1)) s.bound before) part.support (λ m l. s.sees_before 1 m (le_refl 1) l);
        sees_after = subst (λ (p : Plane). Sees ts (main_axis p) s.at (pos 1) s.bound after) part.support (λ m l. s.sees_after 1 m (le_refl 1) l);
      }

  -- all sides of all parts are the same
  pub parts_have_uniform_sides : (g : Face) (before after : List ℤ) → IsPart (face_of t) g → IsSides ts g before after → HasUniformSides ts (face_of t) before after
  parts_have_uniform_sides g before after part sides =
      let s = sides_of_part g before after part sides in let k = main_axis n in
      record {
        same = λ h b a part' sides'. let r = sides_of_part h b a part' sides' in (
          one_value r.at s.at r.inside s.inside k (neg_ℤ (pos 1)) (λ z. cc) (main_entry t full) r.bound s.bound b before r.sees_before s.sees_before,
          one_value r.at s.at r.inside s.inside k (pos 1) (λ z. absurd (omega (arith, linear, z))) (main_entry t full) r.bound s.bound a after r.sees_after s.sees_after,
        );
      }

-- triangles that are alone have one value on each side
pub alone_have_uniform_sides : (ts : List Tri) → AreBalanced ts → AloneHaveUniformSides ts
alone_have_uniform_sides ts balanced i t g before after alone here part sides =
    ⊎_elim (λ e. absurd (flat_has_no_inside t sides.at e (part.inside.holds sides.at sides.inside)))
    (λ full. parts_have_uniform_sides ts balanced i t here alone full g before after part sides) (flat_case t)
