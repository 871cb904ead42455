-- Near every point there are points that are clear of a face which has an inside point.
use Rattle.std.proofs.Common.{◌≡◌, ◌≢◌, refl, sym, ap, ◌∙◌, arith, true, List, [], ◌∷◌, ℕ, ℤ, pos, ◌*ℤ◌, ◌<ℤ◌}
use Rattle.std.specs.List.{AllByRecursion}
use Rattle.std.proofs.lemmas.Bool.{and_parts}
use lib.IntN.{*ℤ_comm}
use Rattle.ember_algebra.specs.Large.{Eventually}
use Rattle.ember_algebra.specs.Sign.{sign, is_negative}
use Rattle.ember_algebra.proofs.Laws.{linear}
use Rattle.ember_algebra.proofs.Large.{eventually_both, eventually_map}
use Rattle.ember_model.specs.declared.plane.Plane.{Plane}
use Rattle.ember_model.specs.declared.point.Spot.{Spot}
use Rattle.ember_model.specs.declared.point.Axis.{Axis}
use Rattle.ember_model.specs.declared.point.Axis.TheVariants.{X, Y, Z}
use Rattle.ember_model.specs.declared.face.Face.{Face}
use Rattle.ember_model.specs.Planes.{value_at, along, HasNoNormal}
use Rattle.ember_model.specs.Points.{offset_by}
use Rattle.ember_model.specs.Faces.{size, hit, is_inside}
use Rattle.ember_model.specs.Clear.{IsClear}
use Rattle.ember_model.specs.ClearTest.{all_negative}
use Rattle.ember_model.proofs.SignTests.{zero_scaled, zero_times, size_positive, negative_out}
use Rattle.ember_model.proofs.PlaneValues.{value_hit}
use Rattle.ember_model.proofs.Hits.{inside_parts}
use Rattle.ember_law.proofs.Shifted.{off_shifted, weight_shifted, eventually_true}
use Rattle.ember_law.proofs.Generic.{at_hit_of, value_at_hit, cancel_zero}
use Rattle.ember_meaning.proofs.ClearCorners.{missed_face_is_clear}

-- ---- planes without a normal
-- such a plane has one sign everywhere
zero_everywhere : (h : Plane) (q z : Spot) → HasNoNormal h → pos 0 <ℤ q.w → value_at h q ≡ pos 0 → value_at h z ≡ pos 0
zero_everywhere h q z n w e =
    let c = cancel_zero q.w h.d w (constant q e) in
    let x = zero_times h.a z.x n.0 in let y = zero_times h.b z.y n.1 in let v = zero_times h.c z.z n.2 in let d = zero_times h.d z.w c in
    omega (arith, linear, x, y, v, d)
  where
    constant : (q : Spot) → value_at h q ≡ pos 0 → q.w *ℤ h.d ≡ pos 0
    constant q e =
        let x = zero_times h.a q.x n.0 in let y = zero_times h.b q.y n.1 in let v = zero_times h.c q.z n.2 in
        *ℤ_comm q.w h.d ∙ (let r : h.d *ℤ q.w ≡ pos 0 = omega (arith, linear, e, x, y, v) in r)

-- the plane of an edge that is negative somewhere in the face's plane isn't 0 where a ray hits that plane
edge_is_missed : (n g : Plane) (a : Axis) (z q : Spot) → along n a ≢ pos 0 → value_at n z ≡ pos 0 → value_at g z <ℤ pos 0 → pos 0 <ℤ q.w →
    (value_at (at_hit_of g n a) q ≡ pos 0 → HasNoNormal (at_hit_of g n a)) → value_at g (hit n a q) ≢ pos 0
edge_is_missed n g a z q nz on low w o e =
    let v = value_at_hit g n a q ∙ e in
    let h = sym (value_at_hit g n a z) ∙ zero_everywhere (at_hit_of g n a) q z (o v) w v in
    let k = value_hit g n a z in
    let m = ap (λ (y : ℤ). sign (along n a) *ℤ y *ℤ along g a) on in
    let r = zero_times (sign (along n a) *ℤ pos 0) (along g a) (zero_scaled (sign (along n a)) (pos 0) refl) in
    let c = cancel_zero (size (along n a)) (value_at g z) (size_positive (along n a) nz) (let y : size (along n a) *ℤ value_at g z ≡ pos 0 =
    omega (arith, linear, h, k, m, r) in y) in
    omega (arith, linear, c, low)

-- ---- faces with an inside point
module _ (p : Spot) (w : pos 0 <ℤ p.w) where
  abbrev Off : Plane → ℕ → Type 0
  Off h k = value_at h (offset_by p (pos k)) ≡ pos 0 → HasNoNormal h

  off_each : (n : Plane) (a : Axis) (es : List Plane) → Eventually (λ k. AllByRecursion (λ g. Off (at_hit_of g n a) k) es)
  off_each n a [] = eventually_true (λ k. tt)
  off_each n a (g ∷ es) = eventually_map (λ k h. (h.0, h.1)) (eventually_both (off_shifted p (at_hit_of g n a)) (off_each n a es))

  missed_each : (n : Plane) (a : Axis) (z : Spot) (k : ℕ) (es : List Plane) → along n a ≢ pos 0 → value_at n z ≡ pos 0 →
      all_negative es z ≡ true → pos 0 <ℤ (offset_by p (pos k)).w → AllByRecursion (λ g. Off (at_hit_of g n a) k) es →
      AllByRecursion (λ g. value_at g (hit n a (offset_by p (pos k))) ≢ pos 0) es
  missed_each n a z k [] nz on low v o = tt
  missed_each n a z k (g ∷ es) nz on low v o =
      let l = and_parts (is_negative (value_at g z)) (all_negative es z) low in (
        edge_is_missed n g a z (offset_by p (pos k)) nz on (negative_out (value_at g z) l.0) v o.0,
        missed_each n a z k es nz on l.1 v o.1,
      )

  -- a point that is shifted by little enough is clear of such a face
  pub clear_shifted_inside : (f : Face) (z : Spot) → is_inside f z ≡ true → (HasNoNormal f.support → ⊥) → Eventually (λ k. IsClear f (offset_by p (pos k)))
  clear_shifted_inside f z h normal =
      let i = inside_parts f z h in let n = f.support in
      eventually_map
      (λ k e. missed_face_is_clear f (offset_by p (pos k)) e.0 (λ y. normal (e.1.0 y))
      (λ a nz. missed_each n a z k f.edges nz i.1 i.2 e.0 (at a k e.1.1)))
      (eventually_both (weight_shifted p w) (eventually_both (off_shifted p n)
      (eventually_both (off_each n X f.edges) (eventually_both (off_each n Y f.edges) (off_each n Z f.edges)))))
    where
      at : (a : Axis) (k : ℕ) → AllByRecursion (λ g. Off (at_hit_of g f.support X) k) f.edges × (AllByRecursion (λ g. Off (at_hit_of g f.support Y) k) f.edges
          × AllByRecursion (λ g. Off (at_hit_of g f.support Z) k) f.edges) → AllByRecursion (λ g. Off (at_hit_of g f.support a) k) f.edges
      at X k e = e.0
      at Y k e = e.1.0
      at Z k e = e.1.1
