-- The leaf that holds the place of a hit is listed, and the triangle is near it; or the expression
-- has one value there.
use Rattle.std.proofs.Common.{◌≡◌, ℕ, ◌+◌, ◌^◌, ◌<◌, refl, ap, ◌∙◌, List, [], ◌∷◌, Bool, true, false, ◌&&◌, cond, ◌⊎◌}
use Rattle.std.proofs.Common.{inl, inr, arith, ℤ, pos, negsuc, neg_ℤ, All, ◌-ℤ◌, ◌*ℤ◌, ◌<ℤ◌, ◌≤ℤ◌}
use borrow.Author.Differences.{ints}
use Rattle.std.specs.Prelude.{int_le, int_lt}
use Rattle.std.specs.List.{count_by, list_any}
use Rattle.std.proofs.lemmas.Bool.{cases_Bool, and_parts, and_from, or_parts}
use Rattle.std.proofs.lemmas.List.Sums.{sum_by-cons}
use Rattle.ember_algebra.proofs.Laws.{linear}
use Rattle.ember_algebra.proofs.Order.{pos_mul}
use Rattle.ember_algebra.proofs.Ring.{◌⊕◌, ◌⊖◌, ◌⊗◌, ◌≈◌, num, neg, solve, cancels}
use Rattle.ember_model.specs.declared.point.Spot.{Spot}
use Rattle.ember_model.specs.declared.point.Axis.{Axis}
use Rattle.ember_model.specs.declared.point.Axis.TheVariants.{X, Y, Z}
use Rattle.std.proofs.lemmas.List.Elements.{All-head, All-tail}
use Rattle.ember_algebra.specs.Size.{Small}
use Rattle.ember_algebra.proofs.Numbers.{int_le_out}
use Rattle.ember_model.specs.declared.tri.Tri.{Tri}
use Rattle.ember_model.specs.Within.{IsTriWithin}
use Rattle.ember_model.specs.Faces.{is_in_closed, is_flat, face_of}
use Rattle.ember_box.specs.Boxes.{Cell, low, high, root, in_steps}
use Rattle.ember_box.proofs.InSteps.{low_in_steps, high_in_steps}
use Rattle.ember_box.specs.Sums.{number}
use Rattle.ember_ref.specs.ClosedBoxes.{HasPoint}
use Rattle.ember_ref.proofs.NearPoints.{past_corners}
use Rattle.ember_meaning.proofs.CountedPoints.{is_between, is_in_box}
use Rattle.ember_meaning.proofs.Listed.{Without, ends, keeps, drops}
use Rattle.ember_meaning.proofs.Lines.{In, here, there}

-- ---- the half-open box lies in the closed one
lt_fact : (a b : ℤ) → int_lt a b ≡ true → a ≤ℤ b
lt_fact a b h = grind (arith, ints)

-- a point in the half-open box is a point of the closed box
pub has_point : (c : Cell) (v : Spot) → pos 0 <ℤ v.w → is_in_box c v ≡ true → HasPoint c v
has_point c v w h =
    let bx = is_between (low c X) (high c X) v.x v.w in let by = is_between (low c Y) (high c Y) v.y v.w in let bz = is_between (low c Z) (high c Z) v.z v.w in
    let p = and_parts bx (by && bz) h in let q = and_parts by bz p.1 in
    let x = and_parts (int_le (low c X *ℤ v.w) v.x) (int_lt v.x (high c X *ℤ v.w)) p.0 in
    let y = and_parts (int_le (low c Y *ℤ v.w) v.y) (int_lt v.y (high c Y *ℤ v.w)) q.0 in
    let z = and_parts (int_le (low c Z *ℤ v.w) v.z) (int_lt v.z (high c Z *ℤ v.w)) q.1 in
    record {
      weight = w;
      on_x = record { from = int_le_out (low c X *ℤ v.w) v.x x.0; to = lt_fact v.x (high c X *ℤ v.w) x.1 };
      on_y = record { from = int_le_out (low c Y *ℤ v.w) v.y y.0; to = lt_fact v.y (high c Y *ℤ v.w) y.1 };
      on_z = record { from = int_le_out (low c Z *ℤ v.w) v.z z.0; to = lt_fact v.z (high c Z *ℤ v.w) z.1 };
    }

-- ---- the root of a grid on which a unit has 2^u steps holds all triangles within m
lifted : {m : ℕ} (z : ℤ) → Small m z → (neg_ℤ (pos m) ≤ℤ (pos 1 *ℤ z)) × (neg_ℤ (pos m) ≤ℤ (negsuc 0 *ℤ z))
lifted (pos n) s = (omega (arith, ints, s.small), omega (arith, ints, s.small))
lifted (negsuc n) s = (omega (arith, ints, s.small), omega (arith, ints, s.small))

-- the box reaches further than m to both sides along an axis
record Reaches (m : ℕ) (c : Cell) (k : Axis) : Type 0 where
  below : low c k <ℤ neg_ℤ (pos m)
  above : pos m <ℤ high c k

between : (l h m x w : ℤ) → pos 0 <ℤ w → l <ℤ neg_ℤ m → m <ℤ h → (neg_ℤ m *ℤ w) ≤ℤ (pos 1 *ℤ x) →
    (neg_ℤ m *ℤ w) ≤ℤ (negsuc 0 *ℤ x) → is_between l h x w ≡ true
between l h m x w p b a f t =
    let z : pos 0 ≤ℤ w = omega (arith, linear, p) in
    let down : pos 0 <ℤ (neg_ℤ m -ℤ l) = omega (arith, linear, b) in let up : pos 0 <ℤ (h -ℤ m) = omega (arith, linear, a) in
    let d = pos_mul down p in let u = pos_mul up p in
    let de = solve 3 (λ m l w. (neg m ⊖ l) ⊗ w ≈ neg m ⊗ w ⊖ l ⊗ w) cancels m l w in
    let ue = solve 3 (λ m h w. (h ⊖ m) ⊗ w ≈ h ⊗ w ⊕ neg m ⊗ w) cancels m h w in
    and_from (int_le (l *ℤ w) x) (int_lt x (h *ℤ w))
    (le_yes (l *ℤ w) x (omega (arith, linear, d, de, f)))
    (lt_yes x (h *ℤ w) (omega (arith, linear, u, ue, t)))
  where
    le_yes : (a b : ℤ) → a ≤ℤ b → int_le a b ≡ true
    le_yes a b h = grind (arith, ints)

    lt_yes : (a b : ℤ) → a <ℤ b → int_lt a b ≡ true
    lt_yes a b h = grind (arith, ints)

root_reaches : (u m : ℕ) → pos m <ℤ (pos 2048 *ℤ pos (2 ^ u)) → (k : Axis) → Reaches m (in_steps u root) k
root_reaches u m l k =
    let p = low_in_steps u root k in let q = high_in_steps u root k in
    let x = solve 1 (λ x. x ⊗ neg (num (pos 2048)) ≈ neg (num (pos 2048) ⊗ x)) cancels (pos (2 ^ u)) in
    let y = solve 1 (λ x. x ⊗ num (pos 2048) ≈ num (pos 2048) ⊗ x) cancels (pos (2 ^ u)) in
    let e : low root k ≡ neg_ℤ (pos 2048) = begins k in let f : high root k ≡ pos 2048 = ends_at k in
    record {
      below = omega (arith, linear, p ∙ ap (λ z. pos (2 ^ u) *ℤ z) e, x, l);
      above = omega (arith, linear, q ∙ ap (λ z. pos (2 ^ u) *ℤ z) f, y, l);
    }
  where
    begins : (k : Axis) → low root k ≡ neg_ℤ (pos 2048)
    begins X = refl
    begins Y = refl
    begins Z = refl

    ends_at : (k : Axis) → high root k ≡ pos 2048
    ends_at X = refl
    ends_at Y = refl
    ends_at Z = refl

-- a point of such a triangle's closed face is in the root
pub in_root : (u m : ℕ) → pos m <ℤ (pos 2048 *ℤ pos (2 ^ u)) → (t : Tri) (v : Spot) → IsTriWithin m t →
    is_flat t ≡ false → is_in_closed (face_of t) v ≡ true → pos 0 <ℤ v.w → is_in_box (in_steps u root) v ≡ true
in_root u m l t v s nf h w =
    let c = in_steps u root in let n = neg_ℤ (pos m) in
    let x = root_reaches u m l X in let y = root_reaches u m l Y in let z = root_reaches u m l Z in
    let bx = is_between (low c X) (high c X) v.x v.w in let by = is_between (low c Y) (high c Y) v.y v.w in
    let bz = is_between (low c Z) (high c Z) v.z v.w in
    and_from bx (by && bz)
    (between (low c X) (high c X) (pos m) v.x v.w w x.below x.above
    (past_corners X (pos 1) n t v nf (lifted t.a.x s.a.x).0 (lifted t.b.x s.b.x).0 (lifted t.c.x s.c.x).0 h)
    (past_corners X (negsuc 0) n t v nf (lifted t.a.x s.a.x).1 (lifted t.b.x s.b.x).1 (lifted t.c.x s.c.x).1 h))
    (and_from by bz
    (between (low c Y) (high c Y) (pos m) v.y v.w w y.below y.above
    (past_corners Y (pos 1) n t v nf (lifted t.a.y s.a.y).0 (lifted t.b.y s.b.y).0 (lifted t.c.y s.c.y).0 h)
    (past_corners Y (negsuc 0) n t v nf (lifted t.a.y s.a.y).1 (lifted t.b.y s.b.y).1 (lifted t.c.y s.c.y).1 h))
    (between (low c Z) (high c Z) (pos m) v.z v.w w z.below z.above
    (past_corners Z (pos 1) n t v nf (lifted t.a.z s.a.z).0 (lifted t.b.z s.b.z).0 (lifted t.c.z s.c.z).0 h)
    (past_corners Z (negsuc 0) n t v nf (lifted t.a.z s.a.z).1 (lifted t.b.z s.b.z).1 (lifted t.c.z s.c.z).1 h)))

-- what holds of all members holds of a member
pub all_in : {X : Type 0} (P : X → Type 0) (xs : List X) (x : X) → All P xs → In x xs → P x
all_in P [] x h i = elim i [ ]
all_in P (a ∷ xs) x h here = All-head P a xs h
all_in P (a ∷ xs) x h (there i) = all_in P xs x (All-tail P a xs h) i

-- ---- what isn't listed
pub record Lost {X : Type 0} (P : X → Type 0) (p : X → Bool) : Type 0 where
  pub at : X
  pub has : P at
  pub holds : p at ≡ true

-- if some member passes and none of the listed does, one that passes isn't listed
pub missing_member_passes : {X : Type 0} {P : X → Type 0} (p : X → Bool) {xs ys : List X} → Without P xs ys →
    0 < count_by p xs → list_any p ys ≡ false → Lost P p
missing_member_passes p ends l h = absurd (omega arith)
missing_member_passes p (keeps {x = x} {xs = xs} {ys = ys} w) l h =
    let q = or_parts (p x) (list_any p ys) h in
    missing_member_passes p w (less (number (p x)) (sum_by-cons (λ z. cond (p z) 1 0) x xs) l (ap number q.0)) q.1
  where
    less : {m n : ℕ} (q : ℕ) → m ≡ q + n → 0 < m → q ≡ 0 → 0 < n
    less q e l z = omega arith
missing_member_passes {P = P} p (drops {x = x} {xs = xs} {ys = ys} d w) l h =
    by (cases_Bool (p x)) (λ k. missing_member_passes p w k h)
  where
    less : {m n : ℕ} (q : ℕ) → m ≡ q + n → 0 < m → q ≡ 0 → 0 < n
    less q e l z = omega arith

    by : (p x ≡ true) ⊎ (p x ≡ false) → (0 < count_by p xs → Lost P p) → Lost P p
    by (inl e) f = record { at = x; has = d; holds = e }
    by (inr e) f = f (less (number (p x)) (sum_by-cons (λ z. cond (p z) 1 0) x xs) l (ap number e))

-- if no item passes a test, none passes it together with another one
pub none_both : {X : Type 0} (p q : X → Bool) (xs : List X) → list_any p xs ≡ false → list_any (λ x. p x && q x) xs ≡ false
none_both p q [] h = refl
none_both p q (x ∷ xs) h =
    let k = or_parts (p x) (list_any p xs) h in rw (k.0, none_both p q xs k.1) refl
