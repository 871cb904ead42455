-- Points close to a point on an edge, and what is seen there.
use Rattle.std.proofs.Common.{◌≡◌, ◌≢◌, inl, inr, sym, ◌∙◌, arith, le_refl, ℕ, ◌≤◌, true, false, List, Some, slice_get, ℤ, pos, ◌+ℤ◌, ◌*ℤ◌, ◌<ℤ◌, ◌≤ℤ◌}
use Rattle.std.specs.List.{AllByRecursion}
use Rattle.ember_algebra.specs.Large.{Eventually}
use Rattle.ember_algebra.proofs.Laws.{linear}
use Rattle.ember_algebra.proofs.Large.{eventually_both, eventually_map, eventually_pos}
use Rattle.ember_algebra.proofs.Order.{by_sign}
use Rattle.ember_algebra.proofs.Ring.{◌⊗◌, ◌≈◌, solve, cancels}
use Rattle.ember_model.specs.declared.plane.Plane.{Plane}
use Rattle.ember_model.specs.declared.point.Spot.{Spot}
use Rattle.ember_model.specs.declared.point.Axis.{Axis}
use Rattle.ember_model.specs.declared.face.Face.{Face}
use Rattle.ember_model.specs.declared.tri.Tri.{Tri}
use Rattle.ember_model.specs.Planes.{value_at, along, support_of}
use Rattle.ember_model.specs.Points.{scaled, moved, plus_s, offset_by}
use Rattle.ember_model.specs.Faces.{is_inside, is_in_closed, is_flat, face_of}
use Rattle.ember_model.specs.Meshes.{faces_of, vector}
use Rattle.ember_model.specs.Clear.{AreClear}
use Rattle.ember_model.proofs.SignTests.{zero_times}
use Rattle.ember_model.proofs.PlaneValues.{value_scaled, value_plus}
use Rattle.ember_law.specs.Laws.{MissesFace}
use Rattle.ember_law.proofs.GenericClear.{clear_shifted, clear_faces}
use Rattle.ember_law.proofs.Separation.{Separates}
use Rattle.ember_law.proofs.Shifted.{weight_shifted}
use Rattle.ember_law.proofs.Vectors.{balanced_segments}
use Rattle.ember_alone.specs.Touch.{IsAlone}
use Rattle.ember_alone.specs.UniformSides.{AreBalanced}
use Rattle.ember_law.proofs.Beside.{separated_face_is_missed, value_beside, weight_beside, OneSign, eventually_each}
use Rattle.ember_alone.proofs.UniformSides.{Sees, each_face, shifted_points_see}
use Rattle.ember_alone.proofs.Short.{separated_both_shifted}

-- ---- close to x, on the way to y
abbrev pub close : Spot → Spot → ℕ → Spot
close x y m = plus_s (scaled (pos m) x) y

-- the value of a plane there
pub value_close : (g : Plane) (x y : Spot) (m : ℕ) → value_at g (close x y m) ≡ value_at g x *ℤ pos m +ℤ value_at g y
value_close g x y m =
    let s = value_plus g (scaled (pos m) x) y in let p = value_scaled (pos m) g x in
    let z = solve 2 (λ m v. m ⊗ v ≈ v ⊗ m) cancels (pos m) (value_at g x) in omega (arith, linear, s, p, z)

-- a plane that is positive at x is positive close to it
pub stays_positive : (g : Plane) (x y : Spot) → pos 0 <ℤ value_at g x → Eventually (λ m. pos 0 <ℤ value_at g (close x y m))
stays_positive g x y l =
    eventually_map (λ m r. let v = value_close g x y m in omega (arith, linear, r, v)) (eventually_pos (value_at g y) l)

-- the weight there
pub weight_close : (x y : Spot) → pos 0 <ℤ x.w → Eventually (λ m. pos 0 <ℤ (close x y m).w)
weight_close x y l =
    eventually_map (λ m r. let z = solve 2 (λ m v. m ⊗ v ≈ v ⊗ m) cancels (pos m) x.w in
    let e : pos 0 <ℤ (pos m *ℤ x.w +ℤ y.w) = omega (arith, linear, r, z) in e) (eventually_pos y.w l)

-- ---- planes that keep a face off
-- a plane is positive at q m and at r m, for large m, and not in front of it is the face; or the plane h isn't
pub data IsKeptOff (h : Plane) (q r : ℕ → Spot) (f : Face) : Type 0 where
  by_other : (g : Plane) → ((x : Spot) → is_in_closed f x ≡ true → value_at g x ≤ℤ pos 0) →
      Eventually (λ m. (pos 0 <ℤ value_at g (q m)) × (pos 0 <ℤ value_at g (r m))) → IsKeptOff h q r f
  by_own : ((x : Spot) → is_in_closed f x ≡ true → value_at h x ≤ℤ pos 0) → IsKeptOff h q r f

-- the same at one m
data IsOff (h : Plane) (q r : Spot) (f : Face) : Type 0 where
  apart : Separates f q r → IsOff h q r f
  level : ((x : Spot) → is_in_closed f x ≡ true → value_at h x ≤ℤ pos 0) → IsOff h q r f

off_at : (h : Plane) (q r : ℕ → Spot) (f : Face) → IsKeptOff h q r f → Eventually (λ m. IsOff h (q m) (r m) f)
off_at h q r f (by_other g low e) = eventually_map (λ m p. apart (record { plane = g; near = p.0; far = p.1; low = low })) e
off_at h q r f (by_own low) = record { from = 0; holds = λ m l. level low }

-- from beside q, where the plane h is positive
apart_beside : (h : Plane) (q r : Spot) (k : Axis) (d : ℤ) (f : Face) → value_at h q ≡ pos 0 → pos 0 <ℤ (d *ℤ along h k) → pos 0 <ℤ value_at h r →
    IsOff h q r f → Eventually (λ l. Separates f (moved (scaled (pos l) q) k d) r)
apart_beside h q r k d f z up at_r (apart s) =
    eventually_map
    (λ l p. let v = value_beside s.plane l q k d in record { plane = s.plane; near = omega (arith, linear, p, v); far = s.far; low = s.low })
    (eventually_pos (d *ℤ along s.plane k) s.near)
apart_beside h q r k d f z up at_r (level low) =
    record {
      from = 0;
      holds = λ l _. let v = value_beside h l q k d in let o = zero_times (value_at h q) (pos l) z in
          record { plane = h; near = omega (arith, linear, up, v, o); far = at_r; low = low };
    }

-- ---- what is seen at r m
module _ (ts : List Tri) (balanced : AreBalanced ts) (i : ℕ) (t : Tri) (here : slice_get ts i ≡ Some t) (alone : IsAlone ts i)
    (full : is_flat t ≡ false) (at : Spot) (inside : is_inside (face_of t) at ≡ true) (k : Axis) (d : ℤ) (slope : d *ℤ along (support_of t) k ≢ pos 0)
    (bound : ℕ) (counts : List ℤ) (sees : Sees ts k at d bound counts) (q r : ℕ → Spot)
    (q_inside : (m : ℕ) → 1 ≤ m → is_inside (face_of t) (q m) ≡ true) (q_weight : (m : ℕ) → 1 ≤ m → pos 0 <ℤ (q m).w)
    (r_weight : Eventually (λ m. pos 0 <ℤ (r m).w)) (h : Plane)
    (h_at_q : (m : ℕ) → value_at h (q m) ≡ pos 0) (h_up : pos 0 <ℤ (d *ℤ along h k)) (h_at_r : Eventually (λ m. pos 0 <ℤ value_at h (r m)))
    (kept : AllByRecursion (IsKeptOff h q r) (faces_of ts)) where
  abbrev Seen : Spot → ℕ → Type 0
  Seen p n = AreClear (faces_of ts) (offset_by p (pos n)) → (y : Axis) → vector y ts (offset_by p (pos n)) ≡ counts

  signs : OneSign (d *ℤ along (support_of t) k) (d *ℤ along (support_of t) k)
  signs = by_sign (d *ℤ along (support_of t) k) (λ l. inl (l, l)) (λ z. absurd (slope z)) (λ l. inr (l, l))

  abbrev beside : ℕ → ℕ → Spot
  beside m l = moved (scaled (pos l) (q m)) k d

  at_one : (m : ℕ) → 1 ≤ m → pos 0 <ℤ (r m).w → pos 0 <ℤ value_at h (r m) → AllByRecursion (IsOff h (q m) (r m)) (faces_of ts) → Eventually (Seen (r m))
  at_one m one w up off = shifted outer.from (outer.holds outer.from (le_refl outer.from))
    where
      outer : Eventually (λ l. Eventually (Seen (beside m l)) × (AllByRecursion (λ f. Separates f (beside m l) (r m)) (faces_of ts) × (pos 0 <ℤ (beside m l).w)))
      outer =
          eventually_map (λ l p. (p.0, (p.1.0, p.1.1)))
          (eventually_both
          (shifted_points_see ts balanced i t here alone full at (q m) inside (q_inside m one) k k d d signs bound counts sees)
          (eventually_both
          (eventually_each (λ f l. Separates f (beside m l) (r m)) (faces_of ts)
          (each_face (IsOff h (q m) (r m)) (λ f. Eventually (λ l. Separates f (beside m l) (r m)))
          (λ f o. apart_beside h (q m) (r m) k d f (h_at_q m) h_up up o) (faces_of ts) off))
          (weight_beside (q m) k d (q_weight m one))))

      shifted : (l : ℕ) → Eventually (Seen (beside m l)) × (AllByRecursion (λ f. Separates f (beside m l) (r m)) (faces_of ts) × (pos 0 <ℤ (beside m l).w)) →
          Eventually (Seen (r m))
      shifted l p =
          let b = beside m l in
          eventually_map
          (λ n e. λ c y. let b' = offset_by b (pos n) in let r' = offset_by (r m) (pos n) in let clear = clear_faces b' ts e.1.0 in
          sym (balanced_segments ts balanced y y b' r' e.1.1.1.0 e.1.1.1.1 clear c
          (each_face (λ f. Separates f b' r') (MissesFace b' r') (λ f s. separated_face_is_missed f b' r' s) (faces_of ts) e.1.1.0)) ∙ e.0 clear y)
          (eventually_both p.0 (eventually_both (clear_shifted b ts p.1.1)
          (eventually_both
          (eventually_each (λ f n. Separates f (offset_by b (pos n)) (offset_by (r m) (pos n))) (faces_of ts)
          (each_face (λ f. Separates f b (r m)) (λ f. Eventually (λ n. Separates f (offset_by b (pos n)) (offset_by (r m) (pos n))))
          (λ f s. separated_both_shifted f b (r m) s) (faces_of ts) p.1.0))
          (eventually_both (weight_shifted b p.1.1) (weight_shifted (r m) w)))))

  -- close to x, clear points see what points beside t see
  pub close_points_see : Eventually (λ m. Eventually (Seen (r m)))
  close_points_see =
      eventually_map (λ m p. at_one m p.0 p.1.0 p.1.1.0 p.1.1.1)
      (eventually_both (record { from = 1; holds = λ m l. l }) (eventually_both r_weight (eventually_both h_at_r
      (eventually_each (λ f m. IsOff h (q m) (r m) f) (faces_of ts)
      (each_face (IsKeptOff h q r) (λ f. Eventually (λ m. IsOff h (q m) (r m) f)) (λ f o. off_at h q r f o) (faces_of ts) kept)))))
