-- On which side of a plane the vertices of a path lie: for points that are close enough to the corner
-- of the box and to the first corner of the region, as the definitions of paths say.
use Rattle.std.proofs.Common.{◌≡◌, ◌≢◌, ℕ, ◌+◌, ◌*◌, ◌<◌, ◌≤◌, refl, sym, ap, ◌∙◌, arith, ℤ, pos, ◌+ℤ◌, ◌*ℤ◌, neg_ℤ, ◌<ℤ◌, [], ◌∷◌, unsigned_abs}
use borrow.Author.Differences.{ints}
use lib.IntN.{*ℤ_comm}
use Rattle.ember_algebra.specs.Vector.{Vector}
use Rattle.ember_algebra.specs.Size.{Small}
use Rattle.ember_algebra.specs.Large.{EachSmall}
use Rattle.ember_algebra.specs.declared.Sign.{Sign}
use Rattle.ember_algebra.specs.declared.Sign.TheVariants.{Neg, Zero, Pos}
use Rattle.ember_algebra.specs.Sign.{sgn, flip}
use Rattle.ember_algebra.proofs.Laws.{linear}
use Rattle.ember_algebra.proofs.Order.{by_sign}
use Rattle.ember_algebra.proofs.Large.{horner_pos, horner_neg}
use Rattle.ember_algebra.proofs.Ring.{◌⊕◌, ◌⊗◌, ◌≈◌, neg, solve, cancels}
use Rattle.ember_algebra.proofs.Signs.{sgn_pos, sgn_neg, sgn-neg}
use Rattle.ember_algebra.proofs.Size.{small_within, small_mul, small_add, small_sub, small_neg}
use Rattle.ember_algebra.proofs.Exact.{small_zero}
use Rattle.ember_model.specs.declared.point.Spot.{Spot}
use Rattle.ember_model.specs.declared.point.Axis.{Axis}
use Rattle.ember_model.specs.declared.point.Axis.TheVariants.{X, Y, Z}
use Rattle.ember_model.specs.declared.plane.Plane.{Plane}
use Rattle.ember_model.specs.Planes.{value_at, along, HasNoNormal}
use Rattle.ember_model.specs.Points.{scaled, moved, offset_by}
use Rattle.ember_model.specs.Within.{IsSupportWithin, IsPlaneWithin, normal_limit}
use Rattle.ember_model.proofs.SignTests.{sgn_scaled}
use Rattle.ember_model.proofs.PlaneValues.{value_scaled, value_moved}
use Rattle.ember_model.proofs.PlaneSizes.{own_size}
use Rattle.ember_law.proofs.Shifted.{value_shifted}
use Rattle.ember_point.specs.Points.{slid}
use Rattle.ember_box.specs.Near.{spot_of_vector}
use Rattle.ember_box.specs.Reference.{reference_beside}
use Rattle.ember_ref.specs.References.{or_sign, HasNormalWithin}
use Rattle.ember_ref.proofs.ReferenceSigns.{sign_near, or_sign_assoc, next_sign}
use Rattle.ember_trace.specs.Paths.{inside_side, first_of, second_of}
use Rattle.ember_trace.proofs.PathVertices.{close_to, with_along, pinned, slid_once_to, slid_twice_to, value_close}
use Rattle.ember_trace.proofs.PathVertices.{value_pinned, pinned_once, pinned_twice, level_with}

-- ---- the first that isn't zero
-- how large the value of a plane of a triangle within m can be at a point, also with fixed coordinates
abbrev pub value_bound : ℕ → Spot → ℕ
value_bound m v =
    normal_limit m * unsigned_abs v.x + normal_limit m * unsigned_abs v.y + normal_limit m * unsigned_abs v.z +
    (20 * (m * (m * m)) + 8 * (m * m)) * unsigned_abs v.w

value_small : {m : ℕ} (h : Plane) (v : Spot) → IsPlaneWithin m h → Small (value_bound m v) (value_at h v)
value_small h v s =
    small_sub (small_add (small_add (small_mul s.a (own_size v.x)) (small_mul s.b (own_size v.y))) (small_mul s.c (own_size v.z))) (small_mul s.d (own_size v.w))

-- the sign of a plane at a point that is close to u, closest to the line from there to v
pub close_sign : {m : ℕ} (n : ℕ) (h : Plane) (u v w : Spot) → IsPlaneWithin m h → value_bound m v < n → value_bound m w < n →
    sgn (value_at h (close_to (pos n) u v w)) ≡ or_sign (sgn (value_at h u))
    (or_sign (sgn (value_at h v)) (sgn (value_at h w)))
close_sign n h u v w i lv lw =
    let a = value_at h u in let b = value_at h v in let c = value_at h w in
    ap sgn (value_close h (pos n) u v w) ∙ next_sign n (a *ℤ pos n +ℤ b) c (value_small h w i) lw
    ∙ ap (λ (s : Sign). or_sign s (sgn c)) (next_sign n a b (value_small h v i) lv)
    ∙ or_sign_assoc (sgn a) (sgn b) (sgn c)

-- a plane that isn't 0 at a point has the same sign near it
follows : {m : ℕ} (n : ℕ) (g : Plane) (v : Spot) → m < n → Small m g.a → Small m g.b → Small m g.c →
    value_at g v ≢ pos 0 → sgn (value_at g (offset_by v (pos n))) ≡ sgn (value_at g v)
follows n g v l a b c nz =
    let s : EachSmall _ (g.a ∷ g.b ∷ g.c ∷ []) = (a, (b, (c, tt))) in
    ap sgn (value_shifted g v (pos n)) ∙ by_sign (value_at g v)
    (λ p. sgn_pos (horner_pos (g.a ∷ g.b ∷ g.c ∷ []) (value_at g v) l s p) ∙ sym (sgn_pos p)) (λ z. absurd (nz z))
    (λ p. sgn_neg (horner_neg (g.a ∷ g.b ∷ g.c ∷ []) (value_at g v) l s p) ∙ sym (sgn_neg p))

pinned_within : {m : ℕ} (h : Plane) (a : Axis) (q : Spot) → HasNormalWithin m h → HasNormalWithin (unsigned_abs q.w * m) (pinned h a q)
pinned_within h X q s = record { a = small_zero _; b = small_mul (own_size q.w) s.b; c = small_mul (own_size q.w) s.c }
pinned_within h Y q s = record { a = small_mul (own_size q.w) s.a; b = small_zero _; c = small_mul (own_size q.w) s.c }
pinned_within h Z q s = record { a = small_mul (own_size q.w) s.a; b = small_mul (own_size q.w) s.b; c = small_zero _ }

-- ---- the vertices
-- q is a point of the face close enough to the first of its corners a, b, c; k is its main axis
pub record IsClose (m : ℕ) (k : Axis) (a b c : Spot) (q : Spot) : Type 0 where
  pub weight : pos 0 <ℤ q.w
  pub at_end : (h : Plane) → IsPlaneWithin m h → sgn (value_at h q) ≡ inside_side h a b c
  pub apart : (h : Plane) → inside_side h a b c ≡ Zero → along h k ≡ pos 0 → HasNoNormal h

-- so is n large enough, of a path from the corner lo of a box in steps, whose reference point is shifted by 1/f
pub record AreStops (m f : ℕ) (k : Axis) (lo : Vector) (a b c : Spot) (q : Spot) (n : ℕ) : Type 0 where
  pub close : IsClose m k a b c q
  pub tells : normal_limit m < f
  pub large : f ≤ n
  pub two : 2 ≤ n
  pub once : unsigned_abs q.w * normal_limit m < n
  pub twice : unsigned_abs q.w * (unsigned_abs q.w * normal_limit m) < n
  pub within_once : (h : Plane) → IsSupportWithin m h → IsPlaneWithin m (slid_once_to k lo h)
  pub within_twice : (h : Plane) → IsSupportWithin m h → IsPlaneWithin m (slid_twice_to k lo h)

abbrev pub stop_at_start : Vector → ℕ → Spot
stop_at_start lo n = offset_by (spot_of_vector lo) (pos n)

abbrev pub stop_after_first : Axis → Vector → Spot → ℕ → Spot
stop_after_first k lo q n = with_along (first_of k) (stop_at_start lo n) q

abbrev pub stop_after_second : Axis → Vector → Spot → ℕ → Spot
stop_after_second k lo q n = with_along (second_of k) (stop_after_first k lo q n) q

-- entries of slid planes
slid_last : (h : Plane) (k : Axis) (at : ℤ) → along (slid h k at) k ≡ pos 0
slid_last h X at = refl
slid_last h Y at = refl
slid_last h Z at = refl

twice_level : (k : Axis) (lo : Vector) (h : Plane) → HasNoNormal (slid_twice_to k lo h) → along h (first_of k) ≡ pos 0
twice_level X lo h e = e.1
twice_level Y lo h e = e.0
twice_level Z lo h e = e.0

once_level : (k : Axis) (lo : Vector) (h : Plane) → HasNoNormal (slid_once_to k lo h) → (along h (first_of k) ≡ pos 0) × (along h (second_of k) ≡ pos 0)
once_level X lo h e = (e.1, e.2)
once_level Y lo h e = (e.0, e.2)
once_level Z lo h e = (e.0, e.1)

-- the second sign counts if the first is Zero
pub or_next : (s t : Sign) → s ≡ Zero → t ≡ or_sign s t
or_next s t e = sym (ap (λ (s : Sign). or_sign s t) e)

-- the first of two signs decides if it isn't Zero
pub or_first : (s t : Sign) → (s ≡ Zero → ⊥) → s ≡ or_sign s t
or_first Neg t n = refl
or_first Zero t n = absurd (n refl)
or_first Pos t n = refl

-- a sign that is another one, or if that is zero a third
either : (s r t : Sign) → ((r ≡ Zero → ⊥) → s ≡ r) → (r ≡ Zero → s ≡ t) → s ≡ or_sign r t
either s Neg t f g = f clash
  where
    clash : Neg ≡ Zero → ⊥
    clash e = cc
either s Zero t f g = g refl
either s Pos t f g = f clash
  where
    clash : Pos ≡ Zero → ⊥
    clash e = cc

sized_normal : {m : ℕ} (h : Plane) → IsSupportWithin m h → HasNormalWithin (normal_limit m) h
sized_normal h s = record { a = s.a; b = s.b; c = s.c }

module _ (m f : ℕ) (k : Axis) (lo : Vector) (a b c : Spot) (q : Spot) (n : ℕ) (s : AreStops m f k lo a b c q n) where
  abbrev start : Spot
  start = stop_at_start lo n

  large_above : normal_limit m < n
  large_above = omega (arith, s.tells, s.large)

  -- at a path's start, a plane has the sign that it has at the reference point
  pub start_sign : (h : Plane) → IsSupportWithin m h → sgn (value_at h start) ≡ sgn (value_at h (reference_beside f lo))
  start_sign h i =
      sign_near n h lo large_above i.a i.b i.c ∙ sym (sign_near f h lo s.tells i.a i.b i.c)

  -- the sign of a plane behind a path's first segment
  pub first_sign : (h : Plane) → IsSupportWithin m h →
      sgn (value_at h (stop_after_first k lo q n)) ≡ or_sign (inside_side (slid_twice_to k lo h) a b c)
      (sgn (value_at h (reference_beside f lo)))
  first_sign h i = either _ _ _ strict level
    where
      g : Plane
      g = slid_twice_to k lo h

      strict : (inside_side g a b c ≡ Zero → ⊥) → sgn (value_at h (stop_after_first k lo q n)) ≡ inside_side g a b c
      strict nz =
          let p = pinned h (first_of k) q in let w = pinned_within h (first_of k) q (sized_normal h i) in
          let e = pinned_once h k lo q in let at = s.close.at_end g (s.within_twice h i) in
          ap sgn (value_pinned h (first_of k) start q)
          ∙ follows n p (spot_of_vector lo) s.once w.a w.b w.c (λ z. nz (sym at ∙ ap sgn (sym e ∙ z))) ∙ ap sgn e ∙ at

      level : inside_side g a b c ≡ Zero → sgn (value_at h (stop_after_first k lo q n)) ≡ sgn (value_at h (reference_beside f lo))
      level z =
          let l = twice_level k lo h (s.close.apart g z (slid_last (slid_once_to (second_of k) lo h) k _)) in
          ap sgn (level_with h (first_of k) start q l) ∙ sgn_scaled (value_at h start) s.close.weight ∙ start_sign h i

  -- the sign of a plane behind a path's second segment
  pub second_sign : (h : Plane) → IsSupportWithin m h →
      sgn (value_at h (stop_after_second k lo q n)) ≡ or_sign (inside_side (slid_once_to k lo h) a b c)
      (sgn (value_at h (reference_beside f lo)))
  second_sign h i = either _ _ _ strict level
    where
      g : Plane
      g = slid_once_to k lo h

      strict : (inside_side g a b c ≡ Zero → ⊥) → sgn (value_at h (stop_after_second k lo q n)) ≡ inside_side g a b c
      strict nz =
          let o = pinned h (second_of k) q in let p = pinned o (first_of k) q in
          let w = pinned_within o (first_of k) q (pinned_within h (second_of k) q (sized_normal h i)) in
          let e = ap sgn (pinned_twice h k lo q) ∙ sgn_scaled (value_at g q) s.close.weight ∙ s.close.at_end g (s.within_once h i) in
          ap sgn (value_pinned h (second_of k) (stop_after_first k lo q n) q ∙ value_pinned o (first_of k) start q)
          ∙ follows n p (spot_of_vector lo) s.twice w.a w.b w.c (λ z. nz (sym e ∙ ap sgn z)) ∙ e

      level : inside_side g a b c ≡ Zero → sgn (value_at h (stop_after_second k lo q n)) ≡ sgn (value_at h (reference_beside f lo))
      level z =
          let l = once_level k lo h (s.close.apart g z (slid_last h k _)) in
          ap sgn (level_with h (second_of k) (stop_after_first k lo q n) q l.1)
          ∙ sgn_scaled (value_at h (stop_after_first k lo q n)) s.close.weight
          ∙ ap sgn (level_with h (first_of k) start q l.0) ∙ sgn_scaled (value_at h start) s.close.weight
          ∙ start_sign h i

-- ---- directly beside the end
-- m v + s n, if m is large
beside : {b : ℕ} (m s : ℕ) (v n : ℤ) → Small b n → 1 ≤ s → b * s < m → sgn (pos m *ℤ v +ℤ pos s *ℤ n) ≡ or_sign (sgn v) (sgn n)
beside {b} m s v n i ls l =
    let e = *ℤ_comm (pos m) v in let f : pos m *ℤ v +ℤ pos s *ℤ n ≡ v *ℤ pos m +ℤ pos s *ℤ n = omega (arith, linear, e) in
    let small : Small (b * s) (pos s *ℤ n) = small_within (omega arith) (small_mul (own_size (pos s)) i) in
    ap sgn f ∙ next_sign m v (pos s *ℤ n) small l ∙ ap (λ (t : Sign). or_sign (sgn v) t) (sgn_scaled {c = pos s} n (omega (arith, ints)))

module _ {b : ℕ} (k : Axis) (q : Spot) (h : Plane) (i : Small b (along h k)) where
  -- the sign of a plane a small step ahead
  pub after_sign : (m s : ℕ) → 1 ≤ s → b * s < m → sgn (value_at h (moved (scaled (pos m) q) k (pos s))) ≡ or_sign (sgn (value_at h q)) (sgn (along h k))
  after_sign m s ls l =
      ap sgn (value_moved h (scaled (pos m) q) k (pos s)
      ∙ ap (λ (z : ℤ). z +ℤ pos s *ℤ along h k) (value_scaled (pos m) h q))
      ∙ beside m s (value_at h q) (along h k) i ls l

  -- the sign of a plane a small step back
  pub before_sign : (m s : ℕ) → 1 ≤ s → b * s < m →
      sgn (value_at h (moved (scaled (pos m) q) k (neg_ℤ (pos s)))) ≡ or_sign (sgn (value_at h q))
      (flip (sgn (along h k)))
  before_sign m s ls l =
      let e = value_moved h (scaled (pos m) q) k (neg_ℤ (pos s))
      ∙ ap (λ (z : ℤ). z +ℤ neg_ℤ (pos s) *ℤ along h k) (value_scaled (pos m) h q)
      ∙ solve 3 (λ v s n. v ⊕ neg s ⊗ n ≈ v ⊕ s ⊗ neg n) cancels (pos m *ℤ value_at h q) (pos s) (along h k) in
      ap sgn e ∙ beside m s (value_at h q) (neg_ℤ (along h k)) (small_neg i) ls l ∙ ap (λ (t : Sign). or_sign (sgn (value_at h q)) t) (sgn-neg (along h k))
