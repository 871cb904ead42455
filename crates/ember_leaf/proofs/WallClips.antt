-- A wall more, and what it leaves of a part of a triangle.
use Rattle.std.proofs.Common.{◌≡◌, refl, sym, ap, subst, ◌∙◌, arith, ℕ, ◌+◌, ◌<◌, ◌⊎◌, inl, inr, Bool, true, false, not}
use Rattle.std.proofs.Common.{◌&&◌, if◌then◌else◌, List, [], ◌∷◌, length, take, drop, get_or, map, ℤ, pos, ◌-ℤ◌, ◌<ℤ◌}
use Rattle.std.proofs.Common.{◌≤ℤ◌}
use Rattle.std.specs.Int.{int_min}
use Rattle.std.proofs.lemmas.Int.{clamps, by_lt_z}
use Rattle.std.proofs.lemmas.List.{append-nil, map-append, take_more, take-append-drop}
use Rattle.std.proofs.lemmas.List.Folds.{list_all-append}
use borrow.Author.Differences.{ints}
use Rattle.ember_algebra.specs.Sign.{is_negative, is_zero, is_positive}
use Rattle.ember_algebra.specs.Relations.{Each, Chain, none, more, done, step, Every}
use Rattle.ember_algebra.proofs.Laws.{linear}
use Rattle.ember_algebra.proofs.Ring.{◌⊕◌, ◌⊖◌, ◌⊗◌, ◌≈◌, num, solve, cancels}
use Rattle.ember_algebra.proofs.Relations.{chain_push, chain_append, every_append}
use Rattle.ember_model.specs.declared.point.Axis.{Axis}
use Rattle.ember_model.specs.declared.point.Axis.TheVariants.{X, Y, Z}
use Rattle.ember_model.specs.declared.point.Corner.{Corner}
use Rattle.ember_model.specs.declared.point.Spot.{Spot}
use Rattle.ember_model.specs.declared.plane.Plane.{Plane}
use Rattle.ember_model.specs.declared.tri.Tri.{Tri}
use Rattle.ember_model.specs.declared.face.Face.{Face}
use Rattle.ember_model.specs.Planes.{value_at, opposite, support_of, vector_of}
use Rattle.ember_model.specs.Faces.{is_flat, face_of, is_inside, below, Somewhere}
use Rattle.ember_model.specs.Owners.{spot_of_corner}
use Rattle.ember_model.proofs.Hits.{inside_on, inside_parts}
use Rattle.ember_model.proofs.SignTests.{negative_out, positive_out, positive_in, zero_out, clash, zero_in}
use Rattle.ember_box.specs.declared.aabb.Interval.{Interval}
use Rattle.ember_box.specs.Boxes.{entry_along}
use Rattle.ember_box.specs.Aabbs.{aabb_of_tri, interval_along, interval_over}
use Rattle.ember_box.specs.Regions.{Wall, level, AreLeftByWall, cut, outside, in_high, stays}
use Rattle.ember_poly.specs.Cuts.{HasInside, IsReach}
use Rattle.ember_poly.specs.declared.reach_and_cut.Reach.TheVariants.{Below, Above, On, Both}
use Rattle.ember_poly.specs.Rings.{IsBelow, IsNotAbove, IsNotBelow, IsInsideRing}
use Rattle.ember_poly.proofs.ReachBySigns.{closed_from_inside, most_opposite, under_opposite}
use Rattle.ember_poly.proofs.TriangleRing.{tri_sides, inside_ring}
use Rattle.ember_poly.proofs.InsidePoints.{below_is_not_above}
use Rattle.ember_trace.proofs.FilledFaces.{inside_below}
use Rattle.ember_width.specs.Heights.{heights_of, all_on}
use Rattle.ember_leaf.specs.declared.clip.Remainder.{Remainder}
use Rattle.ember_leaf.specs.declared.clip.Remainder.TheVariants.{Whole, Nothing, Unknown}
use Rattle.ember_leaf.specs.declared.wall.Wall as leaf
use Rattle.ember_leaf.specs.Walls.{wall_of, IsPartOf, IsLowRemainder, IsHighRemainder, IsRemainder, IsClippedBy}
use Rattle.ember_leaf.proofs.RegionOrder.{face_support}
use Rattle.ember_leaf.proofs.TriFaces.{AtCorners, AtCorner, has_inside, inside_under, inside_over, closed_at_least, closed_on}
use Rattle.ember_leaf.proofs.TriRelations.{corner_over, on_on}

-- ---- chains of walls
each_one : {X S : Type 0} {R : X → List S → Type 0} {x : X} {ys : List S} → R x ys → Each R (x ∷ []) ys
each_one {R = R} {x = x} {ys = ys} r = subst (λ l. Each R (x ∷ []) l) (append-nil ys) (more r none)

chain_of_walls_grows : {X A : Type 0} (R : X → A → A → Type 0) (S : Type 0) (h : S →
    X) (ys : List S) (i : ℕ) (d : S) (a b c : A) → i < length ys → d ≡ get_or ys i d → Chain R (map h (take i ys)) a b →
    R (h d) b c → Chain R (map h (take (i + 1) ys)) a c
chain_of_walls_grows R S h ys i d a b c l e r q =
    rw (take_more ys i d l, ← e, map-append h (take i ys) (d ∷ [])) (chain_push r q)

-- nothing gives nothing
nothing_more : {X S A : Type 0} (R : X → A → List A → Type 0) (h : S → X) (ys : List S) → Chain (λ x. Each (R x)) (map h ys) [] []
nothing_more R h [] = done
nothing_more R h (y ∷ ys) = step none (nothing_more R h ys)

chain_ended : {X S A : Type 0} (R : X → A → List A → Type 0) (h : S → X) (ys : List S) (n : ℕ) (a : List A) →
    Chain (λ x. Each (R x)) (map h (take n ys)) a [] → Chain (λ x. Each (R x)) (map h ys) a []
chain_ended R h ys n a r =
    subst (λ l. Chain (λ x. Each (R x)) l a []) (sym (map-append h (take n ys) (drop n ys))
    ∙ ap (map h) (take-append-drop n ys)) (chain_append r (nothing_more R h (drop n ys)))

-- ---- planes at corners
up_value : (k : Axis) (h : ℤ) (u : Corner) → value_at (level k h) (spot_of_corner u) ≡ entry_along k (vector_of u) -ℤ h
up_value X h u =
    solve 4 (λ x y z h. num (pos 1) ⊗ x ⊕ num (pos 0) ⊗ y ⊕ num (pos 0) ⊗ z ⊖ h ⊗ num (pos 1) ≈ x ⊖ h) cancels u.x u.y u.z h
up_value Y h u =
    solve 4 (λ x y z h. num (pos 0) ⊗ x ⊕ num (pos 1) ⊗ y ⊕ num (pos 0) ⊗ z ⊖ h ⊗ num (pos 1) ≈ y ⊖ h) cancels u.x u.y u.z h
up_value Z h u =
    solve 4 (λ x y z h. num (pos 0) ⊗ x ⊕ num (pos 0) ⊗ y ⊕ num (pos 1) ⊗ z ⊖ h ⊗ num (pos 1) ≈ z ⊖ h) cancels u.x u.y u.z h

-- the corners of t along an axis, from the least to the greatest
record IsSpanned (s : Interval) (x y z : ℤ) : Type 0 where
  low_x : s.low ≤ℤ x
  low_y : s.low ≤ℤ y
  low_z : s.low ≤ℤ z
  high_x : x ≤ℤ s.high
  high_y : y ≤ℤ s.high
  high_z : z ≤ℤ s.high
  reached : (h : ℤ) → s.low <ℤ h → (x <ℤ h) ⊎ ((y <ℤ h) ⊎ ((z <ℤ h) ⊎ ⊥))

spanned_by : (x y z : ℤ) → IsSpanned (interval_over x y z) x y z
spanned_by x y z =
    record {
      low_x = omega (arith, ints, clamps);
      low_y = omega (arith, ints, clamps);
      low_z =
          omega (arith, ints, clamps);
      high_x = omega (arith, ints, clamps);
      high_y = omega (arith, ints, clamps);
      high_z =
          omega (arith, ints, clamps);
      reached = by;
    }
  where
    by : (h : ℤ) → int_min (int_min x y) z <ℤ h → (x <ℤ h) ⊎ ((y <ℤ h) ⊎ ((z <ℤ h) ⊎ ⊥))
    by h l =
        by_lt_z x h inl (λ a. by_lt_z y h (λ b. inr (inl b))
        (λ b. by_lt_z z h (λ c. inr (inr (inl c))) (λ c. absurd (omega (arith, ints, clamps, l, a, b, c)))))

spanned : (k : Axis) (t : Tri) → IsSpanned (interval_along (aabb_of_tri t) k) (entry_along k (vector_of t.a))
    (entry_along k (vector_of t.b)) (entry_along k (vector_of t.c))
spanned X t = spanned_by t.a.x t.b.x t.c.x
spanned Y t = spanned_by t.a.y t.b.y t.c.y
spanned Z t = spanned_by t.a.z t.b.z t.c.z

module _ (k : Axis) (h : ℤ) (t : Tri) where
  abbrev at : Corner → ℤ
  at u = entry_along k (vector_of u)

  least_by : (u : Corner) → h ≤ℤ entry_along k (vector_of u) → IsNotBelow (level k h) (spot_of_corner u)
  least_by u l = let e = up_value k h u in record { at_least = omega (arith, linear, e, l) }

  most_by : (u : Corner) → entry_along k (vector_of u) ≤ℤ h → IsNotAbove (level k h) (spot_of_corner u)
  most_by u l = let e = up_value k h u in record { at_most = omega (arith, linear, e, l) }

  under_by : (u : Corner) → entry_along k (vector_of u) <ℤ h → IsBelow (level k h) (spot_of_corner u)
  under_by u l = let e = up_value k h u in record { under = omega (arith, linear, e, l) }

  past_all : h ≤ℤ (interval_along (aabb_of_tri t) k).low → AtCorners (λ s. IsNotBelow (level k h) s) t
  past_all l =
      let s = spanned k t in
      let a = s.low_x in let b = s.low_y in let c = s.low_z in
      (least_by t.a (omega (arith, linear, l, a)), (least_by t.b (omega (arith, linear, l, b)), (least_by t.c (omega (arith, linear, l, c)), tt)))

  before_all : (interval_along (aabb_of_tri t) k).high ≤ℤ h → AtCorners (λ s. IsNotAbove (level k h) s) t
  before_all l =
      let s = spanned k t in
      let a = s.high_x in let b = s.high_y in let c = s.high_z in
      (most_by t.a (omega (arith, linear, l, a)), (most_by t.b (omega (arith, linear, l, b)), (most_by t.c (omega (arith, linear, l, c)), tt)))

  before_some : (interval_along (aabb_of_tri t) k).low <ℤ h → AtCorner (λ s. IsBelow (level k h) s) t
  before_some l = by ((spanned k t).reached h l)
    where
      by : (entry_along k (vector_of t.a) <ℤ h) ⊎
          ((entry_along k (vector_of t.b) <ℤ h) ⊎ ((entry_along k (vector_of t.c) <ℤ h) ⊎ ⊥)) →
          AtCorner (λ s. IsBelow (level k h) s) t
      by (inl q) = inl (under_by t.a q)
      by (inr (inl q)) = inr (inl (under_by t.b q))
      by (inr (inr (inl q))) = inr (inr (inl (under_by t.c q)))
      by (inr (inr (inr q))) = inr (inr (inr q))

-- ---- a wall and a part of t
over_not : {p : Plane} {v : Spot} → IsNotAbove p v → is_positive (value_at p v) ≡ true → ⊥
over_not {p} {v} m e = let q = positive_out (value_at p v) e in let l = m.at_most in omega (arith, linear, q, l)

zero_not : {p : Plane} {v : Spot} → IsBelow p v → is_zero (value_at p v) ≡ true → ⊥
zero_not {p} {v} u e = let q = zero_out (value_at p v) e in let l = u.under in omega (arith, linear, q, l)

-- nothing of f is past a low wall
stays_low : (p : Plane) (f : Face) → HasInside f → ((v : Spot) → is_inside f v ≡ true → IsNotAbove p v) →
    AreLeftByWall (record { plane = p; is_high = false }) f (f ∷ [])
stays_low p f s m =
    stays (λ c. over_not (m c.some_above.at c.some_above.inside) c.some_above.holds)
    (λ a. over_not (m s.at s.inside) (a.holds s.at s.inside)) (λ e o. absurd (by e))
  where
    by : false ≡ true → ⊥
    by e = cc

stays_below : (w : Wall) (f : Face) → HasInside f → ((v : Spot) → is_inside f v ≡ true → IsBelow w.plane v) → AreLeftByWall w f (f ∷ [])
stays_below w f s m =
    stays (λ c. over_not (below_is_not_above (m c.some_above.at c.some_above.inside)) c.some_above.holds)
    (λ a. over_not (below_is_not_above (m s.at s.inside)) (a.holds s.at s.inside))
    (λ e o. zero_not (m s.at s.inside) (o.holds s.at s.inside))

module _ (k : Axis) (h : ℤ) (t : Tri) (f : Face) (part : IsPartOf t f) where
  abbrev s : Interval
  s = interval_along (aabb_of_tri t) k

  abbrev low : Wall
  low = record { plane = opposite (level k h); is_high = false }

  abbrev high : Wall
  high = record { plane = level k h; is_high = true }

  in_tri : (v : Spot) → is_inside f v ≡ true → IsInsideRing (support_of t) (tri_sides t) v
  in_tri v i = inside_ring t v (part.within.holds v i)

  low_whole : h ≤ℤ (interval_along (aabb_of_tri t) k).low → AreLeftByWall low f (f ∷ [])
  low_whole l =
      let a = past_all k h t l in let p = level k h in
      stays_low (opposite p) f part.somewhere (λ v i. most_opposite p v
      (closed_at_least t part.plane.normal p v a (closed_from_inside (support_of t) (tri_sides t) v (in_tri v i))))

  under_all : (interval_along (aabb_of_tri t) k).low <ℤ h → (interval_along (aabb_of_tri t) k).high ≤ℤ h → (v : Spot) →
      is_inside f v ≡ true → IsBelow (level k h) v
  under_all l m v i =
      inside_under t part.plane.normal (level k h) v (before_all k h t m) (before_some k h t l) (in_tri v i)

  low_nothing : (interval_along (aabb_of_tri t) k).low <ℤ h → (interval_along (aabb_of_tri t) k).high ≤ℤ h → AreLeftByWall low f []
  low_nothing l m =
      outside (record { holds = λ v i. positive_in (under_opposite (level k h) v (under_all l m v i)).over })

  high_whole : (interval_along (aabb_of_tri t) k).low <ℤ h → (interval_along (aabb_of_tri t) k).high ≤ℤ h → AreLeftByWall high f (f ∷ [])
  high_whole l m = stays_below high f part.somewhere (under_all l m)

  high_nothing : h ≤ℤ (interval_along (aabb_of_tri t) k).low → AreLeftByWall high f []
  high_nothing l = by (all_on (heights_of (level k h) t)) refl
    where
      by : (b : Bool) → all_on (heights_of (level k h) t) ≡ b → AreLeftByWall high f []
      by true e =
          in_high refl (record {
            holds = λ v i. zero_in
                (closed_on t part.plane.normal (level k h) v (on_on (level k h) t e)
                (closed_from_inside (support_of t) (tri_sides t) v (in_tri v i))).on_plane;
          })
      by false e =
          let a = past_all k h t l in
          outside (record { holds = λ v i. positive_in (inside_over t part.plane.normal (level k h) v a (corner_over (level k h) t a e) (in_tri v i)).over })

-- what the intervals say
abbrev low_or : Axis → ℤ → Bool → Wall
low_or k h b = record { plane = if b then level k h else opposite (level k h); is_high = b }

-- what an interval decides about a low wall holds of the triangle
pub low_stay : (w : Wall) (k : Axis) (h : ℤ) (t : Tri) (b : Bool) (s : Remainder) → b ≡ false → w ≡ low_or k h b →
    IsLowRemainder (interval_along (aabb_of_tri t) k) h s → IsRemainder w t s
low_stay w k h t b Whole q e l =
    λ f p. subst (λ (w : Wall). AreLeftByWall w f (f ∷ [])) (sym (e ∙ ap (low_or k h) q)) (low_whole k h t f p l)
low_stay w k h t b Nothing q e l =
    λ f p. subst (λ (w : Wall). AreLeftByWall w f []) (sym (e ∙ ap (low_or k h) q)) (low_nothing k h t f p l.0 l.1)
low_stay w k h t b Unknown q e l = tt

-- what an interval decides about a high wall holds of the triangle
pub high_stay : (w : Wall) (k : Axis) (h : ℤ) (t : Tri) (b : Bool) (s : Remainder) → b ≡ true → w ≡ low_or k h b →
    IsHighRemainder (interval_along (aabb_of_tri t) k) h s → IsRemainder w t s
high_stay w k h t b Whole q e l =
    λ f p. subst (λ (w : Wall). AreLeftByWall w f (f ∷ [])) (sym (e ∙ ap (low_or k h) q)) (high_whole k h t f p l.0 l.1)
high_stay w k h t b Nothing q e l =
    λ f p. subst (λ (w : Wall). AreLeftByWall w f []) (sym (e ∙ ap (low_or k h) q)) (high_nothing k h t f p l)
high_stay w k h t b Unknown q e l = tt

-- ---- a wall by the answers of reach
module _ (w : Wall) (f : Face) (p : Plane) (same : p ≡ w.plane) where
  -- a face below the wall's plane stays
  pub wall_below : IsReach f p Below → AreLeftByWall w f (f ∷ [])
  wall_below h =
      let k : IsReach f w.plane Below = subst (λ (q : Plane). IsReach f q Below) same h in
      stays_below w f (record { at = k.somewhere.at; inside = k.somewhere.inside; holds = tt })
      (λ v i. record { under = negative_out (value_at w.plane v) (k.everywhere.holds v i) })

  -- a face above it goes
  pub wall_above : IsReach f p Above → AreLeftByWall w f []
  wall_above h = outside (subst (λ (q : Plane). IsReach f q Above) same h).everywhere

  wall_high_on : w.is_high ≡ true → IsReach f p On → AreLeftByWall w f []
  wall_high_on e h = in_high e (subst (λ (q : Plane). IsReach f q On) same h).everywhere

  wall_low_on : w.is_high ≡ false → IsReach f p On → AreLeftByWall w f (f ∷ [])
  wall_low_on e h =
      let k : IsReach f w.plane On = subst (λ (q : Plane). IsReach f q On) same h in
      stays (λ c. clash c.some_above.holds (not_over _ (k.everywhere.holds c.some_above.at c.some_above.inside)))
      (λ a. clash (a.holds k.somewhere.at k.somewhere.inside) (not_over _ k.somewhere.holds)) (λ h o. clash h e)
    where
      not_over : (z : ℤ) → is_zero z ≡ true → is_positive z ≡ false
      not_over z q = ap is_positive (zero_out z q)

  -- a face in it stays at a low wall and goes at a high one
  pub wall_on : {g : Face} → g ≡ f → IsReach f p On → AreLeftByWall w f (if not w.is_high then g ∷ [] else [])
  wall_on {g} e h = by w.is_high refl
    where
      by : (b : Bool) → w.is_high ≡ b → AreLeftByWall w f (if not b then g ∷ [] else [])
      by true q = wall_high_on q h
      by false q = subst (λ (g : Face). AreLeftByWall w f (g ∷ [])) (sym e) (wall_low_on q h)

  -- of a face that it cuts, the part below stays
  pub wall_cut : {g : Face} → g ≡ below f p → IsReach f p Both → AreLeftByWall w f (g ∷ [])
  wall_cut e h =
      subst (λ (g : Face). AreLeftByWall w f (g ∷ [])) (sym (e ∙ ap (below f) same)) (cut (subst (λ (q : Plane). IsReach f q Both) same h))

-- ---- what is left is a part of t
pub inside_in_below : (f : Face) (p : Plane) (v : Spot) → is_inside f v ≡ true → is_negative (value_at p v) ≡ true → is_inside (below f p) v ≡ true
inside_in_below f p v i n =
    let k = inside_parts f v i in
    inside_on (below f p) v (positive_in k.0) k.1 ∙ list_all-append (λ e. is_negative (value_at e v)) f.edges (p ∷ []) ∙ (λ j. k.2 j && (n j && true))

-- the part below a plane of a part of t is a part of t
pub part_below : (t : Tri) (f : Face) (p : Plane) → IsPartOf t f → Somewhere f (λ v. is_negative (value_at p v) ≡ true) → IsPartOf t (below f p)
part_below t f p h s =
    record {
      plane = record { normal = h.plane.normal; support = h.plane.support };
      within =
          record { holds = λ v i. h.within.holds v (inside_below f p v i).0 };
      somewhere =
          record { at = s.at; inside = inside_in_below f p s.at s.inside s.holds; holds = tt };
    }

wall_keeps : (t : Tri) (w : Wall) (f : Face) (fs : List Face) → IsPartOf t f → AreLeftByWall w f fs → Every (IsPartOf t) fs
wall_keeps t w f fs h (cut c) = (part_below t f w.plane h c.some_below, tt)
wall_keeps t w f fs h (outside a) = tt
wall_keeps t w f fs h (in_high e o) = tt
wall_keeps t w f fs h (stays c a o) = (h, tt)

-- if what each member gives has a property, all that is given has it
pub each_every : {X S : Type 0} {R : X → List S → Type 0} (P : X → Type 0) (Q : S → Type 0) →
    ((x : X) (ys : List S) → P x → R x ys → Every Q ys) → {xs : List X} {ys : List S} → Each R xs ys → Every P xs →
    Every Q ys
each_every P Q f none h = tt
each_every P Q f (more {x = x} {xs = xs} {ys = ys} {zs = zs} r e) h =
    every_append Q ys zs (f x ys h.0 r) (each_every P Q f e h.1)

walls_keep : (t : Tri) {ws : List Wall} {fs gs : List Face} → Chain (λ w. Each (AreLeftByWall w)) ws fs gs → Every (IsPartOf t) fs → Every (IsPartOf t) gs
walls_keep t done h = h
walls_keep t (step {x = w} r c) h =
    walls_keep t c (each_every (IsPartOf t) (IsPartOf t) (wall_keeps t w) r h)

whole_part : (t : Tri) → is_flat t ≡ false → IsPartOf t (face_of t)
whole_part t n =
    record { plane = record { normal = n; support = face_support t }; within = record { holds = λ v i. i }; somewhere = has_inside t n }

-- what walls leave of a triangle is part of it
pub left_parts : (t : Tri) {ws : List Wall} {fs : List Face} → IsClippedBy ws t fs → Every (IsPartOf t) fs
left_parts t {ws} {fs} l = walls_keep t l (by (is_flat t) refl)
  where
    by : (b : Bool) → is_flat t ≡ b → Every (IsPartOf t) (elim b [ true ↦ [] | false ↦ face_of t ∷ [] ])
    by true e = tt
    by false e = (whole_part t e, tt)

-- ---- one wall after another
pub left_begun : (t : Tri) {f : Face} → is_flat t ≡ false → f ≡ face_of t → IsClippedBy [] t (f ∷ [])
left_begun t {f} n e = subst (λ (g : Face). IsClippedBy [] t (g ∷ [])) (sym e) (rw n done)

module _ (t : Tri) (ws : List leaf.Wall) (i : ℕ) (w : leaf.Wall) (f : Face) (l : i < length ws) (e : w ≡ get_or ws i w)
    (r : IsClippedBy (map wall_of (take i ws)) t (f ∷ [])) where
  -- one more wall
  pub left_next : (gs : List Face) → AreLeftByWall (wall_of w) f gs → IsClippedBy (map wall_of (take (i + 1) ws)) t gs
  left_next gs q = chain_of_walls_grows (λ w. Each (AreLeftByWall w)) leaf.Wall wall_of ws i w _ (f ∷ []) gs l e r (each_one q)

  -- a wall that keeps all of a triangle leaves the face as it is
  pub left_stay : {s : Remainder} → IsRemainder (wall_of w) t s → s ≡ Whole → IsClippedBy (map wall_of (take (i + 1) ws)) t (f ∷ [])
  left_stay h q =
      left_next (f ∷ []) (subst (λ (s : Remainder). IsRemainder (wall_of w) t s) q h f (left_parts t r).0)

  -- a wall that leaves nothing ends the clipping
  pub left_ended : AreLeftByWall (wall_of w) f [] → IsClippedBy (map wall_of ws) t []
  left_ended q = chain_ended AreLeftByWall wall_of ws (i + 1) _ (left_next [] q)

  -- a wall that keeps nothing of a triangle leaves nothing
  pub left_nothing : {s : Remainder} → IsRemainder (wall_of w) t s → s ≡ Nothing → IsClippedBy (map wall_of ws) t []
  left_nothing h q =
      left_ended (subst (λ (s : Remainder). IsRemainder (wall_of w) t s) q h f (left_parts t r).0)
