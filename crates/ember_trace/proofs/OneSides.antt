-- The sides of a region have one value: the segment between two points beside it, on one side of
-- it, meets no face.
use Rattle.std.proofs.Common.{◌≡◌, ◌⊎◌, inl, inr, ◌≢◌, ⊎_elim, refl, sym, ap, subst, ◌∙◌, arith, le_refl, ℕ, ◌+◌, ◌*◌}
use Rattle.std.proofs.Common.{◌<◌, Bool, true, false, not, cond, List, [], ◌∷◌, All, map, filter, length, ℤ, pos}
use Rattle.std.proofs.Common.{◌*ℤ◌, neg_ℤ, ◌<ℤ◌, ◌≤ℤ◌}
use Rattle.std.specs.List.{AllByRecursion}
use Rattle.std.proofs.lemmas.List.{get_or_default}
use Rattle.std.proofs.lemmas.List.Elements.{All-head, All-tail}
use borrow.Author.Differences.{ints}
use Rattle.ember_algebra.specs.Large.{Eventually}
use Rattle.ember_algebra.proofs.Laws.{linear}
use Rattle.ember_algebra.proofs.Large.{eventually_both, eventually_map}
use Rattle.ember_algebra.proofs.Order.{by_sign, pos_mul, zero_product}
use Rattle.ember_model.specs.declared.plane.Plane.{Plane}
use Rattle.ember_model.specs.declared.point.Spot.{Spot}
use Rattle.ember_model.specs.declared.point.Axis.{Axis}
use Rattle.ember_model.specs.declared.face.Face.{Face}
use Rattle.ember_model.specs.declared.tri.Tri.{Tri}
use Rattle.ember_model.specs.Planes.{value_at, along, main_axis, support_of}
use Rattle.ember_model.specs.Points.{scaled, moved}
use Rattle.ember_model.specs.Faces.{is_inside, is_in_closed, is_flat, face_of}
use Rattle.ember_model.specs.Owners.{is_coplanar}
use Rattle.ember_model.specs.Meshes.{faces_of, of_mesh, vector, IsBalanced, IsScene}
use Rattle.ember_model.specs.Clear.{AreClear}
use Rattle.ember_model.specs.Sides.{HasWindings, IsSides}
use Rattle.ember_model.proofs.Hits.{inside_parts, closed_parts, moved_weight}
use Rattle.ember_law.specs.Laws.{MissesFace}
use Rattle.ember_law.proofs.Separation.{Separates, combination, missed_face_has_separating_edge}
use Rattle.ember_law.proofs.Beside.{inside_combination, separated_face_is_missed, separated_beside, OneSign, separated_by_plane}
use Rattle.ember_law.proofs.Vectors.{balanced_segments}
use Rattle.ember_law.proofs.CornerSides.{main_entry}
use Rattle.ember_box.specs.Boxes.{Cell}
use Rattle.ember_box.specs.Near.{is_near, near, no_tri, tri_at}
use Rattle.ember_ref.specs.ClosedBoxes.{HasPoint}
use Rattle.ember_ref.proofs.FarTriangles.{misses_far}
use Rattle.ember_trace.specs.Boxed.{IsRegion}
use Rattle.ember_trace.proofs.FlatPlanes.{shared_face}
use Rattle.ember_trace.proofs.BoxedRegions.{regions_lie_in}
use Rattle.ember_trace.proofs.CutRegions.{IsCutOut, region_cut}
use Rattle.ember_trace.proofs.TracedSides.{in_box}

-- ---- planes between the segment and a triangle
all_missed : (p q : Spot) (a k : Axis) (e d : ℤ) (ts : List Tri) →
    AllByRecursion (λ u. is_flat u ≡ false → Eventually (λ m. Separates (face_of u) (moved (scaled (pos m) p) a e) (moved (scaled (pos m) q) k d))) ts →
    Eventually (λ m. AllByRecursion (MissesFace (moved (scaled (pos m) p) a e) (moved (scaled (pos m) q) k d)) (faces_of ts))
all_missed p q a k e d [] h = record { from = 0; holds = λ m l. tt }
all_missed p q a k e d (u ∷ ts) h = by (is_flat u) refl (all_missed p q a k e d ts h.1)
  where
    by : (b : Bool) → is_flat u ≡ b → Eventually
        (λ m. AllByRecursion (MissesFace (moved (scaled (pos m) p) a e) (moved (scaled (pos m) q) k d)) (faces_of ts)) →
        Eventually (λ m. AllByRecursion (MissesFace (moved (scaled (pos m) p) a e) (moved (scaled (pos m) q) k d))
        (map face_of (cond (not b) (u ∷ filter (λ t. not (is_flat t)) ts) (filter (λ t. not (is_flat t)) ts))))
    by true f r = r
    by false f r =
        eventually_map (λ m l. (separated_face_is_missed (face_of u) (moved (scaled (pos m) p) a e) (moved (scaled (pos m) q) k d) l.0, l.1))
        (eventually_both (h.0 f) r)

-- ---- a region of a box
module _ (ts ns : List Tri) (balanced : (mesh : ℕ) → IsBalanced (of_mesh mesh ts)) (c : Cell) (is_near_list : near ts c ≡ ns) (f : Face) (r : IsRegion ns c f) where
  abbrev t : Tri
  t = tri_at ns r.tri

  abbrev k : Axis
  k = main_axis f.support

  cut_out : IsCutOut ns t f
  cut_out = region_cut c ns r.tri r.index r.regions f r.are_regions r.here

  slope : along (support_of t) k ≢ pos 0
  slope = subst (λ (n : Plane). along (support_of t) (main_axis n) ≢ pos 0) (sym cut_out.support) (main_entry t cut_out.normal)

  has : (v : Spot) → is_inside f v ≡ true → HasPoint c v
  has v h = in_box c f v (regions_lie_in c ns r.tri r.index r.regions f r.are_regions r.here) h

  level_at : (v : Spot) → is_inside f v ≡ true → value_at (support_of t) v ≡ pos 0
  level_at v h = sym (ap (λ (n : Plane). value_at n v) cut_out.support) ∙ (inside_parts f v h).1

  module _ (p q : Spot) (hp : is_inside f p ≡ true) (hq : is_inside f q ≡ true) (a b : Axis) (e d : ℤ)
      (sign : OneSign (e *ℤ along (support_of t) a) (d *ℤ along (support_of t) b)) where
    abbrev P : Tri → Type 0
    P u = is_flat u ≡ false → Eventually (λ m. Separates (face_of u) (moved (scaled (pos m) p) a e) (moved (scaled (pos m) q) b d))

    separated_missed : (u : Tri) → MissesFace p q (face_of u) →
        Eventually (λ m. Separates (face_of u) (moved (scaled (pos m) p) a e) (moved (scaled (pos m) q) b d))
    separated_missed u h =
        separated_beside (face_of u) p q a b e d
        (missed_face_has_separating_edge (face_of u) p q (has p hp).weight (has q hq).weight h)

    separated_near : (i : ℕ) → i < length ns → P (tri_at ns i)
    separated_near i l nf = by (is_coplanar t (tri_at ns i)) refl
      where
        by : (s : Bool) → is_coplanar t (tri_at ns i) ≡ s →
            Eventually (λ m. Separates (face_of (tri_at ns i)) (moved (scaled (pos m) p) a e) (moved (scaled (pos m) q) b d))
        by true h =
            record {
              from = 0;
              holds = λ m l. separated_by_plane (face_of (tri_at ns i)) (support_of t) p q a b e d
                  (λ x c. shared_face t (tri_at ns i) x h c) (level_at p hp) (level_at q hq) sign m;
            }
        by false h = separated_missed (tri_at ns i)
            (λ i' j pi pj. missed i' j pi pj (is_in_closed (face_of (tri_at ns i)) (combination i' j p q)) refl)
          where
            missed : (i' j : ℤ) → pos 0 ≤ℤ i' → pos 0 ≤ℤ j → (s : Bool) →
                is_in_closed (face_of (tri_at ns i)) (combination i' j p q) ≡ s →
                is_in_closed (face_of (tri_at ns i)) (combination i' j p q) ≡ false
            missed i' j pi pj false o = o
            missed i' j pi pj true o =
                absurd (cut_out.misses i l nf h (combination i' j p q)
                (inside_combination f i' j p q pi pj (closed_parts (face_of (tri_at ns i)) (combination i' j p q) o).0
                hp hq) o)

    separated_far : (u : Tri) → is_near c u ≡ false → P u
    separated_far u far nf = separated_missed u (misses_far c u p q nf far (has p hp) (has q hq))

    separated_all : (us : List Tri) → All P (near us c) → AllByRecursion P us
    separated_all [] h = tt
    separated_all (u ∷ us) h = by (is_near c u) refl h (λ g. separated_all us g)
      where
        by : (s : Bool) → is_near c u ≡ s → All P (cond s (u ∷ near us c) (near us c)) → (All P (near us c) → AllByRecursion P us) → P u × AllByRecursion P us
        by true n h rest = (All-head P u (near us c) h, rest (All-tail P u (near us c) h))
        by false n h rest = (separated_far u n, rest h)

    missed_all : Eventually (λ m. AllByRecursion (MissesFace (moved (scaled (pos m) p) a e) (moved (scaled (pos m) q) b d)) (faces_of ts))
    missed_all =
        all_missed p q a b e d ts (separated_all ts (subst (λ (us : List Tri). All P us) (sym is_near_list)
        (λ i d' l. subst P (get_or_default ns i no_tri d' l) (separated_near i l))))

    -- clear points beside the region, on one side of it and close enough, have one vector
    one_vector : Eventually (λ m. AreClear (faces_of ts) (moved (scaled (pos m) p) a e) →
        AreClear (faces_of ts) (moved (scaled (pos m) q) b d) → (x y : Axis) →
        vector x ts (moved (scaled (pos m) p) a e) ≡ vector y ts (moved (scaled (pos m) q) b d))
    one_vector =
        record {
          from = missed_all.from + 1;
          holds =
              λ m l cp cq x y. balanced_segments ts balanced x y (moved (scaled (pos m) p) a e) (moved (scaled (pos m) q) b d)
              (weight p a e (has p hp).weight m (omega arith)) (weight q b d (has q hq).weight m (omega arith)) cp cq
              (missed_all.holds m (omega arith));
        }
      where
        weight : (v : Spot) (k : Axis) (e : ℤ) → pos 0 <ℤ v.w → (m : ℕ) → 0 < m → pos 0 <ℤ (moved (scaled (pos m) v) k e).w
        weight v k e w m l =
            let x = moved_weight (scaled (pos m) v) k e in let z : pos 0 <ℤ pos m = omega (arith, ints, l) in let y = pos_mul z w in omega (arith, linear, x, y)

    -- so what one of them sees, the other has
    sees_one : (bound : ℕ) (xs : List ℤ) → ((m : ℕ) → bound * 1 < m →
        HasWindings ts k (moved (scaled (pos m) q) b d) xs) →
        Eventually (λ m. AreClear (faces_of ts) (moved (scaled (pos m) p) a e) → (x : Axis) →
        vector x ts (moved (scaled (pos m) p) a e) ≡ xs)
    sees_one bound xs s =
        record {
          from = one_vector.from + bound * 1 + 1;
          holds = λ m l cp x. let g = s m (omega arith) in
              one_vector.holds m (omega arith) cp g.clear x k ∙ g.counts_are;
        }

  one_value : (p q : Spot) → is_inside f p ≡ true → is_inside f q ≡ true → (e : ℤ) → e ≢ pos 0 →
      (bp bq : ℕ) (xs ys : List ℤ) → ((m : ℕ) → bp * 1 < m → HasWindings ts k (moved (scaled (pos m) p) k e) xs) →
      ((m : ℕ) → bq * 1 < m → HasWindings ts k (moved (scaled (pos m) q) k e) ys) → xs ≡ ys
  one_value p q hp hq e nz bp bq xs ys sp sq =
      let far = sees_one p q hp hq k k e e sign bq ys sq in let m = far.from + bp * 1 + 1 in
      let g = sp m (omega arith) in sym g.counts_are ∙ far.holds m (omega arith) g.clear k
    where
      sign : OneSign (e *ℤ along (support_of t) k) (e *ℤ along (support_of t) k)
      sign =
          by_sign (e *ℤ along (support_of t) k) (λ l. inl (l, l)) (λ z. absurd (⊎_elim (λ x. nz x) (λ x. slope x) (zero_product z))) (λ l. inr (l, l))

  -- a region has one pair of winding numbers on its sides
  pub balanced_sides : (before after before' after' : List ℤ) → IsSides ts f before after → IsSides ts f before' after' → (before ≡ before') × (after ≡ after')
  balanced_sides before after before' after' s s' = (
    one_value s.at s'.at s.inside s'.inside (neg_ℤ (pos 1)) (λ z. cc) s.bound s'.bound before before'
        (λ m l. s.sees_before 1 m (le_refl 1) l) (λ m l. s'.sees_before 1 m (le_refl 1) l),
    one_value s.at s'.at s.inside s'.inside (pos 1) (λ z. absurd (omega (arith, linear, z))) s.bound s'.bound after
        after' (λ m l. s.sees_after 1 m (le_refl 1) l) (λ m l. s'.sees_after 1 m (le_refl 1) l),
  )

  -- beside any inside point, along any axis: a clear point on the side of the sides sees them
  pub balanced_before : (before after : List ℤ) → IsSides ts f before after → (v : Spot) → is_inside f v ≡ true →
      (a : Axis) (e : ℤ) → OneSign (e *ℤ along (support_of t) a) (neg_ℤ (pos 1) *ℤ along (support_of t) k) →
      Eventually (λ m. AreClear (faces_of ts) (moved (scaled (pos m) v) a e) → (x : Axis) →
      vector x ts (moved (scaled (pos m) v) a e) ≡ before)
  balanced_before before after s v h a e o = sees_one v s.at h s.inside a k e (neg_ℤ (pos 1)) o s.bound before (λ m l. s.sees_before 1 m (le_refl 1) l)

  pub balanced_after : (before after : List ℤ) → IsSides ts f before after → (v : Spot) → is_inside f v ≡ true →
      (a : Axis) (e : ℤ) → OneSign (e *ℤ along (support_of t) a) (pos 1 *ℤ along (support_of t) k) →
      Eventually (λ m. AreClear (faces_of ts) (moved (scaled (pos m) v) a e) → (x : Axis) →
      vector x ts (moved (scaled (pos m) v) a e) ≡ after)
  balanced_after before after s v h a e o = sees_one v s.at h s.inside a k e (pos 1) o s.bound after (λ m l. s.sees_after 1 m (le_refl 1) l)

-- ---- in a scene
module _ (ts ns : List Tri) (count : ℕ) (c : Cell) (scene : IsScene ts count) (is_near_list : near ts c ≡ ns) (f : Face) (r : IsRegion ns c f) where
  abbrev t' : Tri
  t' = tri_at ns r.tri

  -- a region has one pair of winding numbers on its sides
  pub one_sides : (before after before' after' : List ℤ) → IsSides ts f before after → IsSides ts f before' after' → (before ≡ before') × (after ≡ after')
  one_sides = balanced_sides ts ns scene.balanced c is_near_list f r
