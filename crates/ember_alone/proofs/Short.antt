-- A short segment through a point crosses a face exactly if the point is inside it, unless the point is on its boundary.
use Rattle.std.proofs.Common.{◌≡◌, ◌≢◌, ◌⊎◌, ⊎_elim, inl, inr, refl, sym, ap, ◌∙◌, arith, ℕ, Bool, true, false, cond, ◌&&◌, List, [], ◌∷◌, ℤ, pos, negsuc, ◌+ℤ◌, ◌*ℤ◌, neg_ℤ, ◌<ℤ◌}
use Rattle.std.specs.List.{AllByRecursion}
use Rattle.std.proofs.lemmas.Bool.{and_parts, cases_Bool, false_from_ne_true}
use Rattle.ember_algebra.specs.Large.{Eventually}
use Rattle.ember_algebra.specs.Sign.{sign, is_negative}
use Rattle.ember_algebra.specs.Sums.{total}
use Rattle.ember_algebra.proofs.Laws.{linear}
use Rattle.ember_algebra.proofs.Large.{eventually_both, eventually_map, eventually_pos}
use Rattle.ember_algebra.proofs.Order.{by_sign, pos_mul, mul_pos_neg, mul_neg_pos, sign_pos, sign_neg}
use Rattle.ember_algebra.proofs.Ring.{◌⊕◌, ◌⊗◌, ◌≈◌, neg, solve, cancels}
use Rattle.ember_model.specs.declared.plane.Plane.{Plane}
use Rattle.ember_model.specs.declared.point.Spot.{Spot}
use Rattle.ember_model.specs.declared.point.Axis.{Axis}
use Rattle.ember_model.specs.declared.face.Face.{Face}
use Rattle.ember_model.specs.Planes.{value_at, along}
use Rattle.ember_model.specs.Points.{scaled, moved, offset_by}
use Rattle.ember_model.specs.Faces.{size, is_inside, is_in_closed, between, leg}
use Rattle.ember_model.specs.ClearTest.{all_negative}
use Rattle.ember_model.proofs.SignTests.{negative_in, negative_out, zero_times, size_positive, size_nonnegative, clash, positive_out}
use Rattle.ember_model.proofs.Hits.{inside_parts, closed_scaled, closed_parts, inside_closed}
use Rattle.ember_model.proofs.Legs.{leg_off, leg_on, value_between, between_weight, between_inside, ends_nonzero}
use Rattle.ember_model.proofs.NearClearPoints.{FollowsEach, all_below}
use Rattle.ember_law.specs.Laws.{MissesFace}
use Rattle.ember_law.specs.Counts.{leg_wind}
use Rattle.ember_law.proofs.Separation.{Separates, combination, combination_value, missed_face_has_separating_edge}
use Rattle.ember_law.proofs.Shifted.{follows_shifted, eventually_true}
use Rattle.ember_law.proofs.Beside.{all_combined, value_beside, separated_beside, eventually_each}
use Rattle.ember_alone.proofs.UniformSides.{each_face}

-- ---- a face on the other side of a plane
-- a segment on one side of a plane doesn't cross a face on the other
separated_face_has_no_leg : (f : Face) (p q : Spot) → pos 0 <ℤ p.w → pos 0 <ℤ q.w → Separates f p q → leg f p q ≡ pos 0
separated_face_has_no_leg f p q wp wq s = ⊎_elim across (λ e. leg_off f p q e) (cases_Bool (is_negative (value_at n p *ℤ value_at n q)))
  where
    n : Plane
    n = f.support

    across : is_negative (value_at n p *ℤ value_at n q) ≡ true → leg f p q ≡ pos 0
    across e = leg_on f p q false (sign (value_at n q)) wp wq e (false_from_ne_true (all_negative f.edges (between n p q)) apart) refl
      where
        apart : all_negative f.edges (between n p q) ≡ true → ⊥
        apart h =
            let z = ends_nonzero (value_at n p) (value_at n q) e in
            let l = s.low (between n p q) (inside_closed f (between n p q) (between_inside f p q wp wq e ∙ h)) in
            let v = value_between s.plane n p q in
            let x = pos_mul (size_positive (value_at n q) z.1) s.near in let y = pos_mul (size_positive (value_at n p) z.0) s.far in
            omega (arith, linear, l, v, x, y)

-- a point off the closed face, as a segment of no length
pub single_point_is_missed : (f : Face) (h : Spot) → pos 0 <ℤ h.w → is_in_closed f h ≡ false → MissesFace h h f
single_point_is_missed f h w o k m pk pm = false_from_ne_true (is_in_closed f (combination k m h h)) (λ e. clash (at_h e) o)
  where
    scales : (g : Plane) → value_at g (combination k m h h) ≡ (k +ℤ m) *ℤ value_at g h
    scales g = combination_value g k m h h ∙ solve 3 (λ k m v. k ⊗ v ⊕ m ⊗ v ≈ (k ⊕ m) ⊗ v) cancels k m (value_at g h)

    positive : pos 0 <ℤ (k *ℤ h.w +ℤ m *ℤ h.w) → pos 0 <ℤ (k +ℤ m)
    positive l =
        by_sign (k +ℤ m) (λ p. p)
        (λ z. absurd (let e = zero_times (k +ℤ m) h.w z in let r = solve 3 (λ k m v. k ⊗ v ⊕ m ⊗ v ≈ (k ⊕ m) ⊗ v) cancels k m h.w in
        omega (arith, linear, e, r, l)))
        (λ p. absurd (omega (arith, linear, p, pk, pm)))

    at_h : is_in_closed f (combination k m h h) ≡ true → is_in_closed f h ≡ true
    at_h e =
        sym (closed_scaled (k +ℤ m) h (combination k m h h) f (positive (closed_parts f (combination k m h h) e).0) scales) ∙ e

-- ---- a face that a segment passes through
-- the ends are within the edges, on both sides of the support plane: back to front along the axis if the normal points
-- along it
pub record Pierces (f : Face) (a : Axis) (u v : Spot) : Type 0 where
  pub within_u : all_negative f.edges u ≡ true
  pub within_v : all_negative f.edges v ≡ true
  pub across : ((pos 0 <ℤ along f.support a) × (value_at f.support u <ℤ pos 0) × (pos 0 <ℤ value_at f.support v)) ⊎
      ((along f.support a <ℤ pos 0) × (pos 0 <ℤ value_at f.support u) × (value_at f.support v <ℤ pos 0))

pierced_face_has_leg : (f : Face) (a : Axis) (u v : Spot) → pos 0 <ℤ u.w → pos 0 <ℤ v.w → Pierces f a u v → leg f u v ≡ sign (along f.support a)
pierced_face_has_leg f a u v wu wv p = leg_on f u v true (sign (along n a)) wu wv parted within signs
  where
    n : Plane
    n = f.support

    parted : is_negative (value_at n u *ℤ value_at n v) ≡ true
    parted = ⊎_elim (λ c. negative_in (mul_neg_pos c.1 c.2)) (λ c. negative_in (mul_pos_neg c.1 c.2)) p.across

    within : all_negative f.edges (between n u v) ≡ true
    within =
        all_combined f.edges (size (value_at n v)) (size (value_at n u)) u v (size_nonnegative (value_at n v)) (size_nonnegative (value_at n u))
        (positive_out (between n u v).w (between_weight n u v wu wv parted)) p.within_u p.within_v

    signs : sign (value_at n v) ≡ sign (along n a)
    signs = ⊎_elim (λ c. sign_pos c.2 ∙ sym (sign_pos c.0)) (λ c. sign_neg c.2 ∙ sym (sign_neg c.0)) p.across

-- ---- what a segment through h counts of a face
-- a segment counts c of the face, and so does each segment whose ends are close to its ends
pub data Counts (f : Face) (a : Axis) (u v : Spot) (c : ℤ) : Type 0 where
  beside : Separates f u v → c ≡ pos 0 → Counts f a u v c
  through : Pierces f a u v → c ≡ sign (along f.support a) → Counts f a u v c

pub counted_leg : (f : Face) (a : Axis) (u v : Spot) (c : ℤ) → pos 0 <ℤ u.w → pos 0 <ℤ v.w → Counts f a u v c → leg f u v ≡ c
counted_leg f a u v c wu wv (beside s e) = separated_face_has_no_leg f u v wu wv s ∙ sym e
counted_leg f a u v c wu wv (through p e) = pierced_face_has_leg f a u v wu wv p ∙ sym e

-- ---- directly beside h
-- edges that are negative at a point are negative close to it
within_beside : (es : List Plane) (h : Spot) (a : Axis) (e : ℤ) → all_negative es h ≡ true → Eventually (λ m. all_negative es (moved (scaled (pos m) h) a e) ≡ true)
within_beside [] h a e x = eventually_true (λ m. refl)
within_beside (g ∷ gs) h a e x =
    let p = and_parts (is_negative (value_at g h)) (all_negative gs h) x in let l = negative_out (value_at g h) p.0 in
    let u : pos 0 <ℤ neg_ℤ (value_at g h) = omega (arith, linear, l) in
    eventually_map (λ m r. let i = negative_in (below m r.0) in λ k. i k && r.1 k)
    (eventually_both (eventually_pos (neg_ℤ (e *ℤ along g a)) u) (within_beside gs h a e p.1))
  where
    below : (m : ℕ) → pos 0 <ℤ (neg_ℤ (value_at g h) *ℤ pos m +ℤ neg_ℤ (e *ℤ along g a)) → value_at g (moved (scaled (pos m) h) a e) <ℤ pos 0
    below m r =
        let v = value_beside g m h a e in let s = solve 2 (λ v m. neg v ⊗ m ≈ neg (v ⊗ m)) cancels (value_at g h) (pos m) in
        omega (arith, linear, r, v, s)

pierces_beside : (f : Face) (a : Axis) (h : Spot) → is_inside f h ≡ true → along f.support a ≢ pos 0 →
    Eventually (λ m. Pierces f a (moved (scaled (pos m) h) a (negsuc 0)) (moved (scaled (pos m) h) a (pos 1)))
pierces_beside f a h x nz =
    let i = inside_parts f h x in
    eventually_map (λ m r. record { within_u = r.0; within_v = r.1; across = sides m })
    (eventually_both (within_beside f.edges h a (negsuc 0) i.2) (within_beside f.edges h a (pos 1) i.2))
  where
    n : Plane
    n = f.support

    before : (m : ℕ) → value_at n (moved (scaled (pos m) h) a (negsuc 0)) ≡ neg_ℤ (along n a)
    before m = let v = value_beside n m h a (negsuc 0) in let z = zero_times (value_at n h) (pos m) (inside_parts f h x).1 in omega (arith, linear, v, z)

    after : (m : ℕ) → value_at n (moved (scaled (pos m) h) a (pos 1)) ≡ along n a
    after m = let v = value_beside n m h a (pos 1) in let z = zero_times (value_at n h) (pos m) (inside_parts f h x).1 in omega (arith, linear, v, z)

    sides : (m : ℕ) → ((pos 0 <ℤ along n a) × (value_at n (moved (scaled (pos m) h) a (negsuc 0)) <ℤ pos 0) × (pos 0 <ℤ value_at n (moved (scaled (pos m) h) a (pos 1)))) ⊎
        ((along n a <ℤ pos 0) × (pos 0 <ℤ value_at n (moved (scaled (pos m) h) a (negsuc 0))) × (value_at n (moved (scaled (pos m) h) a (pos 1)) <ℤ pos 0))
    sides m =
        let u = before m in let v = after m in
        by_sign (along n a) (λ l. inl (l, omega (arith, linear, u, l), omega (arith, linear, v, l))) (λ z. absurd (nz z))
        (λ l. inr (l, omega (arith, linear, u, l), omega (arith, linear, v, l)))

-- a segment through h along the axis, if h isn't on the boundary
pub counts_beside : (f : Face) (a : Axis) (h : Spot) → pos 0 <ℤ h.w → (is_in_closed f h ≡ true → is_inside f h ≡ true) →
    (is_inside f h ≡ true → along f.support a ≢ pos 0) → Eventually
    (λ m. Counts f a (moved (scaled (pos m) h) a (negsuc 0)) (moved (scaled (pos m) h) a (pos 1)) (cond (is_inside f h) (sign (along f.support a)) (pos 0)))
counts_beside f a h w strict slope = ⊎_elim inner outer (cases_Bool (is_inside f h))
  where
    count : ℤ
    count = cond (is_inside f h) (sign (along f.support a)) (pos 0)

    inner : is_inside f h ≡ true → Eventually (λ m. Counts f a (moved (scaled (pos m) h) a (negsuc 0)) (moved (scaled (pos m) h) a (pos 1)) count)
    inner e =
        let c : count ≡ sign (along f.support a) = ap (λ (b : Bool). cond b (sign (along f.support a)) (pos 0)) e in
        eventually_map (λ m p. through p c) (pierces_beside f a h e (slope e))

    outer : is_inside f h ≡ false → Eventually (λ m. Counts f a (moved (scaled (pos m) h) a (negsuc 0)) (moved (scaled (pos m) h) a (pos 1)) count)
    outer e =
        let c : count ≡ pos 0 = ap (λ (b : Bool). cond b (sign (along f.support a)) (pos 0)) e in
        let o : is_in_closed f h ≡ false = false_from_ne_true (is_in_closed f h) (λ x. clash (strict x) e) in
        eventually_map (λ m s. beside s c)
        (separated_beside f h h a a (negsuc 0) (pos 1) (missed_face_has_separating_edge f h h w w (single_point_is_missed f h w o)))

-- ---- shifted by little enough
follow_each : (es : List Plane) (u : Spot) → Eventually (λ k. FollowsEach u (offset_by u (pos k)) es)
follow_each [] u = eventually_true (λ k. tt)
follow_each (e ∷ es) u = eventually_both (follows_shifted u e) (follow_each es u)

-- a plane also separates ends that are both shifted by little enough
pub separated_both_shifted : (f : Face) (u v : Spot) → Separates f u v → Eventually (λ k. Separates f (offset_by u (pos k)) (offset_by v (pos k)))
separated_both_shifted f u v s =
    eventually_map (λ k h. record { plane = s.plane; near = h.0.up s.near; far = h.1.up s.far; low = s.low })
    (eventually_both (follows_shifted u s.plane) (follows_shifted v s.plane))

pierces_shifted : (f : Face) (a : Axis) (u v : Spot) → Pierces f a u v → Eventually (λ k. Pierces f a (offset_by u (pos k)) (offset_by v (pos k)))
pierces_shifted f a u v p =
    eventually_map
    (λ k h. record {
      within_u = all_below u (offset_by u (pos k)) f.edges h.0 p.within_u;
      within_v = all_below v (offset_by v (pos k)) f.edges h.1.0 p.within_v;
      across = ⊎_elim (λ c. inl (c.0, h.1.1.0.down c.1, h.1.1.1.up c.2)) (λ c. inr (c.0, h.1.1.0.up c.1, h.1.1.1.down c.2)) p.across;
    })
    (eventually_both (follow_each f.edges u) (eventually_both (follow_each f.edges v)
    (eventually_both (follows_shifted u f.support) (follows_shifted v f.support))))

-- a segment whose ends are shifted counts the same
pub counts_shifted : (f : Face) (a : Axis) (u v : Spot) (c : ℤ) → Counts f a u v c → Eventually (λ k. Counts f a (offset_by u (pos k)) (offset_by v (pos k)) c)
counts_shifted f a u v c (beside s e) = eventually_map (λ k r. beside r e) (separated_both_shifted f u v s)
counts_shifted f a u v c (through p e) = eventually_map (λ k r. through r e) (pierces_shifted f a u v p)

-- ---- lists of faces
-- what a segment through h counts of a face
abbrev pub count_at : Axis → Spot → Face → ℤ
count_at a h f = cond (is_inside f h) (sign (along f.support a)) (pos 0)

pub counted_legs : (a : Axis) (h u v : Spot) (fs : List Face) → pos 0 <ℤ u.w → pos 0 <ℤ v.w →
    AllByRecursion (λ f. Counts f a u v (count_at a h f)) fs → leg_wind fs u v ≡ total (count_at a h) fs
counted_legs a h u v [] wu wv c = refl
counted_legs a h u v (f ∷ fs) wu wv c =
    let x = counted_leg f a u v (count_at a h f) wu wv c.0 in let y = counted_legs a h u v fs wu wv c.1 in λ i. x i +ℤ y i

-- h isn't on the boundary of the face, and the axis leads through it
pub record IsOffBoundary (a : Axis) (h : Spot) (f : Face) : Type 0 where
  pub strict : is_in_closed f h ≡ true → is_inside f h ≡ true
  pub slope : is_inside f h ≡ true → along f.support a ≢ pos 0

-- the same for all faces at once: first directly beside h, and then shifted by little enough
pub short_segments_count : (a : Axis) (h : Spot) (fs : List Face) → pos 0 <ℤ h.w → AllByRecursion (IsOffBoundary a h) fs →
    Eventually (λ m. Eventually (λ k. AllByRecursion (λ f. Counts f a (offset_by (moved (scaled (pos m) h) a (negsuc 0)) (pos k))
    (offset_by (moved (scaled (pos m) h) a (pos 1)) (pos k)) (count_at a h f)) fs))
short_segments_count a h fs w o =
    eventually_map (λ m r. shifted m r)
    (eventually_each (λ f m. Counts f a (u m) (v m) (count_at a h f)) fs
    (each_face (IsOffBoundary a h) (λ f. Eventually (λ m. Counts f a (u m) (v m) (count_at a h f)))
    (λ f b. counts_beside f a h w b.strict b.slope) fs o))
  where
    u : ℕ → Spot
    u m = moved (scaled (pos m) h) a (negsuc 0)

    v : ℕ → Spot
    v m = moved (scaled (pos m) h) a (pos 1)

    shifted : (m : ℕ) → AllByRecursion (λ f. Counts f a (u m) (v m) (count_at a h f)) fs →
        Eventually (λ k. AllByRecursion (λ f. Counts f a (offset_by (u m) (pos k)) (offset_by (v m) (pos k)) (count_at a h f)) fs)
    shifted m r =
        eventually_each (λ f k. Counts f a (offset_by (u m) (pos k)) (offset_by (v m) (pos k)) (count_at a h f)) fs
        (each_face (λ f. Counts f a (u m) (v m) (count_at a h f))
        (λ f. Eventually (λ k. Counts f a (offset_by (u m) (pos k)) (offset_by (v m) (pos k)) (count_at a h f)))
        (λ f c. counts_shifted f a (u m) (v m) (count_at a h f) c) fs r)
