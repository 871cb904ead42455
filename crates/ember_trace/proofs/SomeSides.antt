-- A face with an inside point has sides: close to that point there is one from which each small step
-- along the main axis leaves all planes of a triangle's size.
use Rattle.std.proofs.Common.{◌≡◌, ◌≢◌, ⊎_elim, le_refl, refl, sym, ap, ◌∙◌, subst, arith, ℕ, ◌+◌, ◌*◌, ◌<◌, ◌≤◌, true}
use Rattle.std.proofs.Common.{cond, ◌&&◌, List, [], ◌∷◌, All, get_or, ℤ, pos, ◌-ℤ◌, ◌*ℤ◌, neg_ℤ, ◌<ℤ◌, unsigned_abs}
use borrow.Author.Differences.{ints}
use Rattle.std.proofs.lemmas.Bool.{and_parts}
use Rattle.ember_algebra.specs.Large.{Eventually, horner}
use Rattle.ember_algebra.specs.declared.Sign.{Sign}
use Rattle.ember_algebra.specs.declared.Sign.TheVariants.{Zero}
use Rattle.ember_algebra.specs.Sign.{sign, sgn, flip, times, is_neg, is_nil, is_negative}
use Rattle.ember_algebra.proofs.Laws.{linear}
use Rattle.ember_algebra.proofs.Large.{eventually_both, eventually_map, horner_neg}
use Rattle.ember_algebra.proofs.Order.{pos_mul, zero_product}
use Rattle.ember_algebra.proofs.Ring.{◌⊕◌, ◌⊖◌, ◌⊗◌, ◌≈◌, num, neg, solve, cancels}
use Rattle.ember_algebra.proofs.Signs.{sgn-mul, flip_zero}
use Rattle.ember_model.specs.declared.plane.Plane.{Plane}
use Rattle.ember_model.specs.declared.point.Spot.{Spot}
use Rattle.ember_model.specs.declared.point.Axis.{Axis}
use Rattle.ember_model.specs.declared.point.Axis.TheVariants.{X, Y, Z}
use Rattle.ember_model.specs.declared.face.Face.{Face}
use Rattle.ember_model.specs.declared.tri.Tri.{Tri}
use Rattle.ember_model.specs.Planes.{value_at, along, main_axis, support_of, HasNoNormal}
use Rattle.ember_model.specs.Points.{scaled, moved}
use Rattle.ember_model.specs.Limits.{narrow_limit}
use Rattle.ember_model.specs.Within.{IsTriWithin, IsSupportWithin, normal_limit}
use Rattle.ember_model.specs.Valid.{IsValidTri}
use Rattle.ember_model.specs.Faces.{is_inside, face_of, crossing}
use Rattle.ember_model.specs.ClearTest.{all_negative}
use Rattle.ember_model.specs.Meshes.{vector}
use Rattle.ember_model.specs.Sides.{HasWindings, IsSides}
use Rattle.ember_model.proofs.FourSigns.{crossing_is}
use Rattle.ember_model.proofs.Hits.{inside_on, inside_parts, moved_weight}
use Rattle.ember_model.proofs.PlaneSizes.{support_within}
use Rattle.ember_model.proofs.SignTests.{negative_in, negative_out, positive_in, zero_out, zero_scaled}
use Rattle.ember_law.proofs.FlatTriangles.{flat_crossing}
use Rattle.ember_width.proofs.Slides.{support_within_planes}
use Rattle.ember_ref.specs.References.{or_sign}
use Rattle.ember_ref.proofs.ReferenceSigns.{both_zero}
use Rattle.ember_trace.proofs.PathVertices.{close_to, value_close}
use Rattle.ember_trace.proofs.VertexSides.{value_bound, close_sign, after_sign, before_sign}
use Rattle.ember_trace.proofs.SegmentSigns.{edges_behind}
use Rattle.ember_trace.proofs.ClearVertices.{generic_clear}
use Rattle.ember_trace.proofs.RegionEnds.{along_small}
use Rattle.ember_trace.proofs.MeshSums.{tally_same}

-- ---- points on one side of each plane of a triangle's size
abbrev pub OnOneSide : ℕ → Spot → Spot → Type 0
OnOneSide m p r = (h : Plane) → IsSupportWithin m h → sgn (value_at h p) ≡ sgn (value_at h r)

-- their rays cross a triangle alike
crossing_on_one_side : {m : ℕ} (k : Axis) (p r : Spot) → pos 0 <ℤ p.w → pos 0 <ℤ r.w → OnOneSide m p r → (t : Tri) →
    IsTriWithin m t → crossing (face_of t) k p ≡ crossing (face_of t) k r
crossing_on_one_side {m} k p r wp wr same t v =
    let h = support_of t in let e = same h (support_within m t v) in
    let b = ap is_neg (sgn-mul (value_at h p) (along h k)) ∙ (λ i. is_neg (times (e i) (sgn (along h k))))
    ∙ sym (ap is_neg (sgn-mul (value_at h r) (along h k))) in
    let g = edges_behind (λ g. sgn (value_at g r)) t k p v (λ g i z. same g i) in
    crossing_is k p t wp ∙ (λ i. cond (b i && g i) (sign (along h k)) (pos 0)) ∙ sym (crossing_is k r t wr)

-- and they have one vector
pub vector_on_one_side : {m : ℕ} (k : Axis) (p r : Spot) → pos 0 <ℤ p.w → pos 0 <ℤ r.w → OnOneSide m p r → (ts : List Tri) →
    All (IsTriWithin m) ts → vector k ts p ≡ vector k ts r
vector_on_one_side k p r wp wr same ts v =
    tally_same (λ f. crossing f k p) (λ f. crossing f k r) (flat_crossing k p) (flat_crossing k r) ts
    (λ i d l. crossing_on_one_side k p r wp wr same (get_or ts i d) (v i d l))

-- ---- directly beside a point
-- on no plane of a triangle's size that runs along k, but those without a normal
record IsLeftAlong (m : ℕ) (k : Axis) (q : Spot) : Type 0 where
  weight : pos 0 <ℤ q.w
  apart : (h : Plane) → IsSupportWithin m h → value_at h q ≡ pos 0 → along h k ≡ pos 0 → HasNoNormal h

module _ (m : ℕ) (ts : List Tri) (valid : All (IsTriWithin m) ts) (k : Axis) (q : Spot) (free : IsLeftAlong m k q) (by : ℕ →
    ℤ) (turn : Sign → Sign) (out : (t : Sign) → turn t ≡ Zero → t ≡ Zero) (side : (h : Plane) → IsSupportWithin m h →
    (n s : ℕ) → 1 ≤ s → normal_limit m * s < n → sgn (value_at h (moved (scaled (pos n) q) k (by s))) ≡ or_sign
    (sgn (value_at h q)) (turn (sgn (along h k)))) where
  abbrev beside : ℕ → ℕ → Spot
  beside n s = moved (scaled (pos n) q) k (by s)

  weight : (n s : ℕ) → normal_limit m * s < n → pos 0 <ℤ (beside n s).w
  weight n s lm =
      let e = moved_weight (scaled (pos n) q) k (by s) in let l : pos 0 <ℤ pos n = omega (arith, ints, lm) in let p =
      pos_mul l free.weight in omega (arith, linear, e, p)

  -- the first number that is large enough
  abbrev enough : ℕ
  enough = normal_limit m + 1

  is_enough : normal_limit m * 1 < enough
  is_enough = omega arith

  abbrev seen : List ℤ
  seen = vector k ts (beside enough 1)

  sees : (s n : ℕ) → 1 ≤ s → normal_limit m * s < n → HasWindings ts k (beside n s) seen
  sees s n ls lm =
      record {
        clear = generic_clear (beside n s) ts (weight n s lm) generic valid;
        counts_are = vector_on_one_side k (beside n s) (beside enough 1) (weight n s lm)
            (weight enough 1 is_enough) (λ h i. side h i n s ls lm
            ∙ sym (side h i enough 1 (le_refl 1) is_enough)) ts valid;
      }
    where
      generic : (h : Plane) → IsSupportWithin m h → value_at h (beside n s) ≡ pos 0 → HasNoNormal h
      generic h i z =
          let p = both_zero _ _ (sym (side h i n s ls lm) ∙ ap sgn z) in
          free.apart h i (zero_out (value_at h q) (ap is_nil p.0)) (zero_out (along h k) (ap is_nil (out (sgn (along h k)) p.1)))

-- ---- two directions in a plane that isn't along k
abbrev first_way : Axis → Plane → Spot
first_way X n = record { x = neg_ℤ n.b; y = n.a; z = pos 0; w = pos 0 }
first_way Y n = record { x = n.b; y = neg_ℤ n.a; z = pos 0; w = pos 0 }
first_way Z n = record { x = n.c; y = pos 0; z = neg_ℤ n.a; w = pos 0 }

abbrev second_way : Axis → Plane → Spot
second_way X n = record { x = neg_ℤ n.c; y = pos 0; z = n.a; w = pos 0 }
second_way Y n = record { x = pos 0; y = neg_ℤ n.c; z = n.b; w = pos 0 }
second_way Z n = record { x = pos 0; y = n.c; z = neg_ℤ n.b; w = pos 0 }

ways_weightless : (k : Axis) (n : Plane) → ((first_way k n).w ≡ pos 0) × ((second_way k n).w ≡ pos 0)
ways_weightless X n = (refl, refl)
ways_weightless Y n = (refl, refl)
ways_weightless Z n = (refl, refl)

ways_level : (k : Axis) (n : Plane) → (value_at n (first_way k n) ≡ pos 0) × (value_at n (second_way k n) ≡ pos 0)
ways_level X n = (
  solve 4 (λ a b c d. a ⊗ neg b ⊕ b ⊗ a ⊕ c ⊗ num (pos 0) ⊖ d ⊗ num (pos 0) ≈ num (pos 0)) cancels n.a n.b n.c n.d,
  solve 4 (λ a b c d. a ⊗ neg c ⊕ b ⊗ num (pos 0) ⊕ c ⊗ a ⊖ d ⊗ num (pos 0) ≈ num (pos 0)) cancels n.a n.b n.c n.d,
)
ways_level Y n = (
  solve 4 (λ a b c d. a ⊗ b ⊕ b ⊗ neg a ⊕ c ⊗ num (pos 0) ⊖ d ⊗ num (pos 0) ≈ num (pos 0)) cancels n.a n.b n.c n.d,
  solve 4 (λ a b c d. a ⊗ num (pos 0) ⊕ b ⊗ neg c ⊕ c ⊗ b ⊖ d ⊗ num (pos 0) ≈ num (pos 0)) cancels n.a n.b n.c n.d,
)
ways_level Z n = (
  solve 4 (λ a b c d. a ⊗ c ⊕ b ⊗ num (pos 0) ⊕ c ⊗ neg a ⊖ d ⊗ num (pos 0) ≈ num (pos 0)) cancels n.a n.b n.c n.d,
  solve 4 (λ a b c d. a ⊗ num (pos 0) ⊕ b ⊗ c ⊕ c ⊗ neg b ⊖ d ⊗ num (pos 0) ≈ num (pos 0)) cancels n.a n.b n.c n.d,
)

-- a product that another one, which is 0, makes 0
no_entry : (n v x u z : ℤ) → n ≢ pos 0 → u ≡ pos 0 → z ≡ pos 0 → z ≡ n *ℤ v -ℤ x *ℤ u → v ≡ pos 0
no_entry n v x u z nz eu ez e =
    let y = zero_scaled x u eu in ⊎_elim (λ a. absurd (nz a)) (λ b. b) (zero_product {a = n} {b = v} (omega (arith, linear, y, ez, e)))

-- a plane along k and both directions has no normal
ways_span : (k : Axis) (n h : Plane) → along n k ≢ pos 0 → along h k ≡ pos 0 → value_at h (first_way k n) ≡ pos 0 →
    value_at h (second_way k n) ≡ pos 0 → HasNoNormal h
ways_span X n h nz l e f = (
  l,
  no_entry n.a h.b n.b h.a _ nz l e (solve 6
      (λ a b c d x y. a ⊗ neg y ⊕ b ⊗ x ⊕ c ⊗ num (pos 0) ⊖ d ⊗ num (pos 0) ≈ x ⊗ b ⊖ y ⊗ a) cancels h.a h.b h.c h.d n.a
      n.b),
  no_entry n.a h.c n.c h.a _ nz l f (solve 6
      (λ a b c d x y. a ⊗ neg y ⊕ b ⊗ num (pos 0) ⊕ c ⊗ x ⊖ d ⊗ num (pos 0) ≈ x ⊗ c ⊖ y ⊗ a) cancels h.a h.b h.c h.d n.a
      n.c),
)
ways_span Y n h nz l e f = (
  no_entry n.b h.a n.a h.b _ nz l e (solve 6 (λ a b c d x y. a ⊗ x ⊕ b ⊗ neg y ⊕ c ⊗ num (pos 0) ⊖ d ⊗ num (pos 0) ≈
      x ⊗ a ⊖ y ⊗ b) cancels h.a h.b h.c h.d n.b n.a),
  l,
  no_entry n.b h.c n.c h.b _ nz l f (solve 6
      (λ a b c d x y. a ⊗ num (pos 0) ⊕ b ⊗ neg y ⊕ c ⊗ x ⊖ d ⊗ num (pos 0) ≈ x ⊗ c ⊖ y ⊗ b) cancels h.a h.b h.c h.d n.b
      n.c),
)
ways_span Z n h nz l e f = (
  no_entry n.c h.a n.a h.c _ nz l e (solve 6 (λ a b c d x y. a ⊗ x ⊕ b ⊗ num (pos 0) ⊕ c ⊗ neg y ⊖ d ⊗ num (pos 0) ≈
      x ⊗ a ⊖ y ⊗ c) cancels h.a h.b h.c h.d n.c n.a),
  no_entry n.c h.b n.b h.c _ nz l f (solve 6
      (λ a b c d x y. a ⊗ num (pos 0) ⊕ b ⊗ x ⊕ c ⊗ neg y ⊖ d ⊗ num (pos 0) ≈ x ⊗ b ⊖ y ⊗ c) cancels h.a h.b h.c h.d n.c
      n.b),
  l,
)

-- ---- close to an inside point
stays_negative : (e : Plane) (u v w : Spot) → is_negative (value_at e u) ≡ true → Eventually (λ m. is_negative (value_at e (close_to (pos m) u v w)) ≡ true)
stays_negative e u v w h =
    let x = value_at e v in let y = value_at e w in
    record {
      from = unsigned_abs x + unsigned_abs y + 1;
      holds =
          λ m l. negative_in (subst (λ (z : ℤ). z <ℤ pos 0) (sym (value_close e (pos m) u v w))
          (horner_neg {m = unsigned_abs x + unsigned_abs y} {n =
          m} (x ∷ y ∷ []) (value_at e u) (omega (arith, l)) (
            record { small = omega arith },
            (record { small = omega arith }, tt),
          ) (negative_out (value_at e u) h)));
    }

all_stay : (es : List Plane) (u v w : Spot) → all_negative es u ≡ true → Eventually (λ m. all_negative es (close_to (pos m) u v w) ≡ true)
all_stay [] u v w h = record { from = 0; holds = λ m l. refl }
all_stay (e ∷ es) u v w h =
    let p = and_parts (is_negative (value_at e u)) (all_negative es u) h in
    eventually_map (λ m r. λ i. r.0 i && r.1 i) (eventually_both (stays_negative e u v w p.0) (all_stay es u v w p.1))

record HasLeftPoint (m : ℕ) (k : Axis) (f : Face) : Type 0 where
  at : Spot
  inside : is_inside f at ≡ true
  free : IsLeftAlong m k at

module _ (m : ℕ) (k : Axis) (f : Face) (p : Spot) (h : is_inside f p ≡ true) (nz : along f.support k ≢ pos 0) where
  abbrev u : Spot
  u = first_way k f.support

  abbrev v : Spot
  v = second_way k f.support

  stay : Eventually (λ n. all_negative f.edges (close_to (pos n) p u v) ≡ true)
  stay = all_stay f.edges p u v (inside_parts f p h).2

  abbrev n : ℕ
  n = stay.from + value_bound m u + value_bound m v + 1

  abbrev q : Spot
  q = close_to (pos n) p u v

  q_weight : pos 0 <ℤ q.w
  q_weight =
      let l : pos 0 <ℤ pos n = omega (arith, ints) in let x = pos_mul (pos_mul l l) (inside_parts f p h).0 in
      let e = ways_weightless k f.support in let y = zero_scaled (pos n) u.w e.0 in let z = e.1 in omega (arith, linear, x, y, z)

  q_level : value_at f.support q ≡ pos 0
  q_level =
      let a = (inside_parts f p h).1 in let l = ways_level k f.support in
      value_close f.support (pos n) p u v ∙ (λ i. horner (pos n) (a i) (l.0 i ∷ l.1 i ∷ []))
      ∙ solve 1 (λ m. (num (pos 0) ⊗ m ⊕ num (pos 0)) ⊗ m ⊕ num (pos 0) ≈ num (pos 0)) cancels (pos n)

  left_point : HasLeftPoint m k f
  left_point =
      record { at = q; inside = inside_on f q (positive_in q_weight) q_level ∙ stay.holds n (omega arith); free = record { weight = q_weight; apart = apart } }
    where
      apart : (g : Plane) → IsSupportWithin m g → value_at g q ≡ pos 0 → along g k ≡ pos 0 → HasNoNormal g
      apart g i z l =
          let a = sgn (value_at g p) in let b = sgn (value_at g u) in let d = sgn (value_at g v) in
          let x = both_zero a (or_sign b d) (sym (close_sign n g p u v (support_within_planes m g i) (omega arith) (omega arith)) ∙ ap sgn z) in
          let y = both_zero b d x.1 in
          ways_span k f.support g nz l (zero_out (value_at g u) (ap is_nil y.0)) (zero_out (value_at g v) (ap is_nil y.1))

-- ---- the sides
pub record HasSides (ts : List Tri) (f : Face) : Type 0 where
  pub before : List ℤ
  pub after : List ℤ
  pub are_sides : IsSides ts f before after

-- a face that isn't along its main axis has sides
module _ (m : ℕ) (ts : List Tri) (valid : All (IsTriWithin m) ts) (f : Face) (p : Spot) (h : is_inside f p ≡ true)
    (nz : along f.support (main_axis f.support) ≢ pos 0) where
  abbrev k : Axis
  k = main_axis f.support

  left : HasLeftPoint m k f
  left = left_point m k f p h nz

  abbrev back : Plane → Type 0
  back g = (n s : ℕ) → 1 ≤ s → normal_limit m * s < n →
      sgn (value_at g (moved (scaled (pos n) left.at) k (neg_ℤ (pos s)))) ≡ or_sign (sgn (value_at g left.at)) (flip (sgn (along g k)))

  abbrev ahead : Plane → Type 0
  ahead g = (n s : ℕ) → 1 ≤ s → normal_limit m * s < n →
      sgn (value_at g (moved (scaled (pos n) left.at) k (pos s))) ≡ or_sign (sgn (value_at g left.at)) (sgn (along g k))

  side_back : (g : Plane) → IsSupportWithin m g → back g
  side_back g i n s = before_sign k left.at g (along_small g k i) n s

  side_ahead : (g : Plane) → IsSupportWithin m g → ahead g
  side_ahead g i n s = after_sign k left.at g (along_small g k i) n s

  pub face_has_sides_within : HasSides ts f
  face_has_sides_within =
      record {
        before = seen m ts valid k left.at left.free (λ s. neg_ℤ (pos s)) flip flip_zero side_back;
        after = seen m ts valid k left.at left.free (λ s. pos s) (λ t. t) (λ t e. e) side_ahead;
        are_sides =
            record {
              at = left.at;
              inside = left.inside;
              bound = normal_limit m;
              sees_before = sees m ts valid k left.at left.free (λ s. neg_ℤ (pos s)) flip flip_zero side_back;
              sees_after = sees m ts valid k left.at left.free (λ s. pos s) (λ t. t) (λ t e. e) side_ahead;
            };
      }

-- the same of valid triangles
pub face_has_sides : (ts : List Tri) → All IsValidTri ts → (f : Face) (p : Spot) → is_inside f p ≡ true →
    along f.support (main_axis f.support) ≢ pos 0 → HasSides ts f
face_has_sides ts valid f p h nz = face_has_sides_within narrow_limit ts valid f p h nz
