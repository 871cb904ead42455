-- Points beside a face: planes that keep other faces off the segment between two points keep them off the segments
-- between points close to them.
use Rattle.std.proofs.Common.{◌≡◌, ◌⊎◌, ⊎_elim, refl, sym, ap, subst, ◌∙◌, arith, ℕ, zero, suc, Bool, true, false, not}
use Rattle.std.proofs.Common.{cond, ◌&&◌, List, [], ◌∷◌, map, filter, Some, slice_get, ℤ, pos, ◌+ℤ◌, ◌*ℤ◌, neg_ℤ, ◌<ℤ◌, ◌≤ℤ◌}
use Rattle.std.specs.List.{AllByRecursion}
use Rattle.std.proofs.lemmas.Bool.{and_parts, false_from_ne_true}
use borrow.Author.Differences.{ints}
use Rattle.ember_algebra.specs.Large.{Eventually}
use Rattle.ember_algebra.specs.Sign.{is_negative}
use Rattle.ember_algebra.proofs.Laws.{linear}
use Rattle.ember_algebra.proofs.Large.{eventually_both, eventually_map, eventually_pos}
use Rattle.ember_algebra.proofs.Order.{by_sign, pos_mul, nonneg_mul}
use Rattle.ember_algebra.proofs.Ring.{◌⊕◌, ◌⊗◌, ◌≈◌, neg, solve, cancels}
use Rattle.ember_model.specs.declared.plane.Plane.{Plane}
use Rattle.ember_model.specs.declared.point.Spot.{Spot}
use Rattle.ember_model.specs.declared.point.Axis.{Axis}
use Rattle.ember_model.specs.declared.face.Face.{Face}
use Rattle.ember_model.specs.declared.tri.Tri.{Tri}
use Rattle.ember_model.specs.Planes.{value_at, along, opposite}
use Rattle.ember_model.specs.Points.{scaled, moved, offset_by}
use Rattle.ember_model.specs.Faces.{is_inside, is_in_closed, is_flat, face_of}
use Rattle.ember_model.specs.ClearTest.{all_negative}
use Rattle.ember_model.specs.Meshes.{faces_of}
use Rattle.ember_model.proofs.SignTests.{negative_in, negative_out, positive_in, zero_scaled, zero_times, clash}
use Rattle.ember_model.proofs.PlaneValues.{value_moved, value_scaled, value-opposite}
use Rattle.ember_model.proofs.Hits.{inside_on, inside_parts, closed_parts, moved_weight}
use Rattle.ember_law.specs.Laws.{MissesFace}
use Rattle.ember_law.proofs.Separation.{Separates, combination, combination_value}
use Rattle.ember_law.proofs.Shifted.{follows_shifted}

-- ---- sums
-- of two numbers that aren't negative, nor both zero, with positive factors
positive_combination : (k m a b x y : ℤ) → pos 0 ≤ℤ k → pos 0 ≤ℤ m → pos 0 <ℤ a → pos 0 <ℤ b → pos 0 <ℤ (k *ℤ x +ℤ m *ℤ y) → pos 0 <ℤ (k *ℤ a +ℤ m *ℤ b)
positive_combination k m a b x y pk pm pa pb l =
    let za : pos 0 ≤ℤ a = omega (arith, linear, pa) in let zb : pos 0 ≤ℤ b = omega (arith, linear, pb) in
    by_sign k (λ p. let u = pos_mul p pa in let v = nonneg_mul pm zb in omega (arith, linear, u, v))
    (λ z. by_sign m (λ p. let u = nonneg_mul pk za in let v = pos_mul p pb in
    omega (arith, linear, u, v)) (λ w. absurd (let e = zero_times k x z in let f = zero_times m y w in
    omega (arith, linear, e, f, l))) (λ p. absurd (omega (arith, linear, p, pm))))
    (λ p. absurd (omega (arith, linear, p, pk)))

-- ---- a point between two inside points is inside
-- the values of planes that are negative at two points are negative between them
pub all_combined : (es : List Plane) (k m : ℤ) (p q : Spot) → pos 0 ≤ℤ k → pos 0 ≤ℤ m → pos 0 <ℤ (combination k m p q).w →
    all_negative es p ≡ true → all_negative es q ≡ true → all_negative es (combination k m p q) ≡ true
all_combined [] k m p q pk pm w hp hq = refl
all_combined (e ∷ es) k m p q pk pm w hp hq =
    let x = and_parts (is_negative (value_at e p)) (all_negative es p) hp in let y = and_parts (is_negative (value_at e q)) (all_negative es q) hq in
    let a = negative_out (value_at e p) x.0 in let b = negative_out (value_at e q) y.0 in
    let u : pos 0 <ℤ neg_ℤ (value_at e p) = omega (arith, linear, a) in let v : pos 0 <ℤ neg_ℤ (value_at e q) = omega (arith, linear, b) in
    let l = positive_combination k m (neg_ℤ (value_at e p)) (neg_ℤ (value_at e q)) p.w q.w pk pm u v w in
    let f = combination_value e k m p q in let g = solve 4 (λ k m a b. k ⊗ neg a ⊕ m ⊗ neg b ≈ neg (k ⊗ a ⊕ m ⊗ b)) cancels k m (value_at e p) (value_at e q) in
    let n = negative_in {a = value_at e (combination k m p q)} (omega (arith, linear, l, f, g)) in let r =
    all_combined es k m p q pk pm w x.1 y.1 in λ i. n i && r i

-- a point of the segment between two inside points is inside
pub inside_combination : (f : Face) (k m : ℤ) (p q : Spot) → pos 0 ≤ℤ k → pos 0 ≤ℤ m → pos 0 <ℤ (combination k m p q).w →
    is_inside f p ≡ true → is_inside f q ≡ true → is_inside f (combination k m p q) ≡ true
inside_combination f k m p q pk pm w hp hq =
    let i = inside_parts f p hp in let j = inside_parts f q hq in
    let e = combination_value f.support k m p q in let x = zero_scaled k (value_at f.support p) i.1 in let y = zero_scaled m (value_at f.support q) j.1 in
    inside_on f (combination k m p q) (positive_in w) (omega (arith, linear, e, x, y)) ∙ all_combined f.edges k m p q pk pm w i.2 j.2

-- ---- planes between a segment and a face
-- a segment on one side of a plane misses a face on the other
pub separated_face_is_missed : (f : Face) (p q : Spot) → Separates f p q → MissesFace p q f
separated_face_is_missed f p q s k m pk pm =
    false_from_ne_true (is_in_closed f (combination k m p q))
    (λ h. let l = positive_combination k m (value_at s.plane p) (value_at s.plane q) p.w q.w pk pm s.near s.far
    (closed_parts f (combination k m p q) h).0 in let e = combination_value s.plane k m p q in
    let z = s.low (combination k m p q) h in omega (arith, linear, l, e, z))

-- the value of a plane at a point moved along an axis
pub value_beside : (h : Plane) (m : ℕ) (p : Spot) (k : Axis) (e : ℤ) → value_at h (moved (scaled (pos m) p) k e) ≡ value_at h p *ℤ pos m +ℤ e *ℤ along h k
value_beside h m p k e =
    let x = value_moved h (scaled (pos m) p) k e in let y = value_scaled (pos m) h p in let z = solve 2 (λ m v. m ⊗ v ≈ v ⊗ m) cancels (pos m) (value_at h p) in
    omega (arith, linear, x, y, z)

-- the weight of a point moved along an axis
pub weight_beside : (v : Spot) (k : Axis) (e : ℤ) → pos 0 <ℤ v.w → Eventually (λ m. pos 0 <ℤ (moved (scaled (pos m) v) k e).w)
weight_beside v k e w =
    record {
      from = 1;
      holds = λ m l. let x = moved_weight (scaled (pos m) v) k e in let z : pos 0 <ℤ pos m = omega (arith, ints) in let y = pos_mul z w in
          omega (arith, linear, x, y);
    }

-- the plane also separates points that are moved by little enough
pub separated_beside : (f : Face) (p q : Spot) (a b : Axis) (e d : ℤ) → Separates f p q →
    Eventually (λ m. Separates f (moved (scaled (pos m) p) a e) (moved (scaled (pos m) q) b d))
separated_beside f p q a b e d s =
    eventually_map
    (λ m l. let v = l.0 in let w = l.1 in let x = value_beside s.plane m p a e in let y = value_beside s.plane m q b d in
    record { plane = s.plane; near = omega (arith, linear, v, x); far = omega (arith, linear, w, y); low = s.low })
    (eventually_both (eventually_pos (e *ℤ along s.plane a) s.near) (eventually_pos (d *ℤ along s.plane b) s.far))

-- and points that are shifted by little enough
pub separated_shifted : (f : Face) (p q : Spot) → Separates f p q → Eventually (λ k. Separates f p (offset_by q (pos k)))
separated_shifted f p q s =
    eventually_map (λ k h. record { plane = s.plane; near = s.near; far = h.up s.far; low = s.low }) (follows_shifted q s.plane)

-- ---- the two sides of a face
-- two numbers have one strict sign
abbrev pub OneSign : ℤ → ℤ → Type 0
OneSign x y = ((pos 0 <ℤ x) × (pos 0 <ℤ y)) ⊎ ((x <ℤ pos 0) × (y <ℤ pos 0))

-- a plane on which the face lies separates it from points on one side of the plane
pub separated_by_plane : (f : Face) (n : Plane) (p q : Spot) (a b : Axis) (e d : ℤ) →
    ((v : Spot) → is_in_closed f v ≡ true → value_at n v ≡ pos 0) → value_at n p ≡ pos 0 → value_at n q ≡ pos 0 →
    OneSign (e *ℤ along n a) (d *ℤ along n b) → (m : ℕ) →
    Separates f (moved (scaled (pos m) p) a e) (moved (scaled (pos m) q) b d)
separated_by_plane f n p q a b e d level zp zq o m = ⊎_elim above under o
  where
    x : Spot
    x = moved (scaled (pos m) p) a e

    y : Spot
    y = moved (scaled (pos m) q) b d

    at_x : value_at n x ≡ e *ℤ along n a
    at_x = let v = value_beside n m p a e in let z = zero_times (value_at n p) (pos m) zp in omega (arith, linear, v, z)

    at_y : value_at n y ≡ d *ℤ along n b
    at_y = let v = value_beside n m q b d in let z = zero_times (value_at n q) (pos m) zq in omega (arith, linear, v, z)

    above : (pos 0 <ℤ (e *ℤ along n a)) × (pos 0 <ℤ (d *ℤ along n b)) → Separates f x y
    above l =
        let u = l.0 in let w = l.1 in let i = at_x in let j = at_y in
        record {
          plane = n;
          near = omega (arith, linear, u, i);
          far = omega (arith, linear, w, j);
          low = λ v h. let z = level v h in omega (arith, linear, z);
        }

    under : ((e *ℤ along n a) <ℤ pos 0) × ((d *ℤ along n b) <ℤ pos 0) → Separates f x y
    under l =
        let u = l.0 in let w = l.1 in let i = at_x in let j = at_y in let s = value-opposite n x in let t = value-opposite n y in
        record {
          plane = opposite n;
          near = omega (arith, linear, u, i, s);
          far = omega (arith, linear, w, j, t);
          low = λ v h. let z = level v h in let r = value-opposite n v in omega (arith, linear, z, r);
        }

-- the face's own plane is one
pub separated_by_support : (f : Face) (p q : Spot) (a b : Axis) (e d : ℤ) → value_at f.support p ≡ pos 0 →
    value_at f.support q ≡ pos 0 → OneSign (e *ℤ along f.support a) (d *ℤ along f.support b) → (m : ℕ) →
    Separates f (moved (scaled (pos m) p) a e) (moved (scaled (pos m) q) b d)
separated_by_support f p q a b e d zp zq o m =
    separated_by_plane f f.support p q a b e d (λ v h. (closed_parts f v h).1) zp zq o m

-- ---- lists of faces
-- what holds of each face from some number on holds of all from some number on
pub eventually_each : (P : Face → ℕ → Type 0) (fs : List Face) → AllByRecursion (λ f. Eventually (P f)) fs → Eventually (λ m. AllByRecursion (λ f. P f m) fs)
eventually_each P [] h = record { from = 0; holds = λ m l. tt }
eventually_each P (f ∷ fs) h = eventually_map (λ m p. (p.0, p.1)) (eventually_both h.0 (eventually_each P fs h.1))

-- what holds of the face of each triangle that has one holds of all faces
pub faces_each : (P : Face → Type 0) (ts : List Tri) → ((j : ℕ) (u : Tri) → slice_get ts j ≡ Some u → is_flat u ≡ false → P (face_of u)) →
    AllByRecursion P (faces_of ts)
faces_each P [] h = tt
faces_each P (u ∷ us) h = by (is_flat u) refl (faces_each P us (λ j v e nf. h (suc j) v e nf))
  where
    by : (b : Bool) → is_flat u ≡ b → AllByRecursion P (faces_of us) → AllByRecursion P
        (map face_of (cond (not b) (u ∷ filter (λ t. not (is_flat t)) us) (filter (λ t. not (is_flat t)) us)))
    by true e r = r
    by false e r = (h 0 u refl e, r)

-- what holds of all faces holds of the face of each triangle that has one
pub faces_member : (P : Face → Type 0) (ts : List Tri) (i : ℕ) (t : Tri) → AllByRecursion P (faces_of ts) → slice_get ts i ≡ Some t → is_flat t ≡ false → P (face_of t)
faces_member P [] i t h e nf = cc
faces_member P (u ∷ us) zero t h e nf = by (is_flat u) refl h
  where
    same : u ≡ t
    same = cc

    by : (b : Bool) → is_flat u ≡ b → AllByRecursion P
        (map face_of (cond (not b) (u ∷ filter (λ t. not (is_flat t)) us) (filter (λ t. not (is_flat t)) us))) → P (face_of t)
    by true f r = absurd (clash (ap is_flat (sym same) ∙ f) nf)
    by false f r = subst (λ (v : Tri). P (face_of v)) same r.0
faces_member P (u ∷ us) (suc i) t h e nf = by (is_flat u) refl h (λ r. faces_member P us i t r e nf)
  where
    by : (b : Bool) → is_flat u ≡ b → AllByRecursion P
        (map face_of (cond (not b) (u ∷ filter (λ t. not (is_flat t)) us) (filter (λ t. not (is_flat t)) us))) →
        (AllByRecursion P (faces_of us) → P (face_of t)) → P (face_of t)
    by true f r k = k r
    by false f r k = k r.1
