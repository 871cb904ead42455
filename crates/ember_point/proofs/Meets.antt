-- The meet of three planes lies on each of them; its four numbers by cross products.
use Rattle.std.proofs.Common.{◌≡◌, ℤ, pos, negsuc, ◌+ℤ◌, ◌-ℤ◌, ◌*ℤ◌, ◌<ℤ◌, refl, subst, arith, [], ◌∷◌}
use Rattle.ember_algebra.specs.Vector.{Vector}
use Rattle.ember_algebra.specs.Vector.{cross, dot}
use Rattle.ember_algebra.specs.Sign.{sign}
use Rattle.ember_algebra.proofs.Laws.{linear}
use Rattle.ember_algebra.proofs.Ring.{◌⊕◌, ◌⊖◌, ◌⊗◌, num, ◌≈◌, cancels}
use Rattle.ember_algebra.proofs.Vectors.{scalar, tuple, identity, VectorE, TupleE, crossE, detE}
use Rattle.ember_algebra.proofs.Order.{sign_pos, sign_neg}
use Rattle.ember_model.specs.declared.plane.Plane.{Plane}
use Rattle.ember_model.specs.declared.point.Spot.{Spot}
use Rattle.ember_model.specs.Planes.{value_at}
use Rattle.ember_model.specs.Points.{scaled}
use Rattle.ember_model.specs.Edges.{normal}
use Rattle.ember_model.proofs.Tuples.{plane_tuple, normalE, same_spot}
use Rattle.ember_point.specs.Points.{weight, determinants, meet_of}

abbrev for_xE : TupleE → VectorE
for_xE p = record { x = p.w; y = p.y; z = p.z }

abbrev for_yE : TupleE → VectorE
for_yE p = record { x = p.x; y = p.w; z = p.z }

abbrev for_zE : TupleE → VectorE
for_zE p = record { x = p.x; y = p.y; z = p.w }

abbrev determinantsE : TupleE → TupleE → TupleE → TupleE
determinantsE p q r =
    record {
      x = detE (for_xE p) (for_xE q) (for_xE r);
      y = detE (for_yE p) (for_yE q) (for_yE r);
      z =
          detE (for_zE p) (for_zE q) (for_zE r);
      w = detE (normalE p) (normalE q) (normalE r);
    }

module _ (p q r : Plane) where
  -- ---- on each plane
  on_first_by : (k : ℤ) → value_at p (scaled k (determinants p q r)) ≡ pos 0
  on_first_by k =
      identity (scalar ∷ tuple ∷ tuple ∷ tuple ∷ []) (λ k p q r. let m = determinantsE p q r in
      p.x ⊗ (k ⊗ m.x) ⊕ p.y ⊗ (k ⊗ m.y) ⊕ p.z ⊗ (k ⊗ m.z) ⊖ p.w ⊗ (k ⊗ m.w) ≈ num (pos 0)) cancels k (plane_tuple p)
      (plane_tuple q) (plane_tuple r)

  on_second_by : (k : ℤ) → value_at q (scaled k (determinants p q r)) ≡ pos 0
  on_second_by k =
      identity (scalar ∷ tuple ∷ tuple ∷ tuple ∷ []) (λ k p q r. let m = determinantsE p q r in
      q.x ⊗ (k ⊗ m.x) ⊕ q.y ⊗ (k ⊗ m.y) ⊕ q.z ⊗ (k ⊗ m.z) ⊖ q.w ⊗ (k ⊗ m.w) ≈ num (pos 0)) cancels k (plane_tuple p)
      (plane_tuple q) (plane_tuple r)

  on_third_by : (k : ℤ) → value_at r (scaled k (determinants p q r)) ≡ pos 0
  on_third_by k =
      identity (scalar ∷ tuple ∷ tuple ∷ tuple ∷ []) (λ k p q r. let m = determinantsE p q r in
      r.x ⊗ (k ⊗ m.x) ⊕ r.y ⊗ (k ⊗ m.y) ⊕ r.z ⊗ (k ⊗ m.z) ⊖ r.w ⊗ (k ⊗ m.w) ≈ num (pos 0)) cancels k (plane_tuple p)
      (plane_tuple q) (plane_tuple r)

  -- the meet lies on the first plane
  pub on_first : value_at p (meet_of p q r) ≡ pos 0
  on_first = on_first_by (sign (weight p q r))

  -- the meet lies on the second plane
  pub on_second : value_at q (meet_of p q r) ≡ pos 0
  on_second = on_second_by (sign (weight p q r))

  -- the meet lies on the third plane
  pub on_third : value_at r (meet_of p q r) ≡ pos 0
  on_third = on_third_by (sign (weight p q r))

  -- ---- by the cross products u, v, t of two normals each
  module _ (u v t : Vector) (eu : u ≡ cross (normal q) (normal r)) (ev : v ≡ cross (normal r) (normal p)) (et : t ≡ cross (normal p) (normal q)) where
    -- X of a meet, as the code computes it
    pub x_is : p.d *ℤ u.x +ℤ q.d *ℤ v.x +ℤ r.d *ℤ t.x ≡ (determinants p q r).x
    x_is =
        rw (eu, ev, et) (identity (tuple ∷ tuple ∷ tuple ∷ [])
        (λ p q r. p.w ⊗ (crossE (normalE q) (normalE r)).x ⊕ q.w ⊗ (crossE (normalE r) (normalE p)).x ⊕ r.w ⊗
        (crossE (normalE p) (normalE q)).x ≈ (determinantsE p q r).x) cancels (plane_tuple p) (plane_tuple q)
        (plane_tuple r))

    -- Y of a meet, as the code computes it
    pub y_is : p.d *ℤ u.y +ℤ q.d *ℤ v.y +ℤ r.d *ℤ t.y ≡ (determinants p q r).y
    y_is =
        rw (eu, ev, et) (identity (tuple ∷ tuple ∷ tuple ∷ [])
        (λ p q r. p.w ⊗ (crossE (normalE q) (normalE r)).y ⊕ q.w ⊗ (crossE (normalE r) (normalE p)).y ⊕ r.w ⊗
        (crossE (normalE p) (normalE q)).y ≈ (determinantsE p q r).y) cancels (plane_tuple p) (plane_tuple q)
        (plane_tuple r))

    -- Z of a meet, as the code computes it
    pub z_is : p.d *ℤ u.z +ℤ q.d *ℤ v.z +ℤ r.d *ℤ t.z ≡ (determinants p q r).z
    z_is =
        rw (eu, ev, et) (identity (tuple ∷ tuple ∷ tuple ∷ [])
        (λ p q r. p.w ⊗ (crossE (normalE q) (normalE r)).z ⊕ q.w ⊗ (crossE (normalE r) (normalE p)).z ⊕ r.w ⊗
        (crossE (normalE p) (normalE q)).z ≈ (determinantsE p q r).z) cancels (plane_tuple p) (plane_tuple q)
        (plane_tuple r))

    -- the weight of a meet, as a product of the first normal and the other two's cross product
    pub w_is : dot (normal p) u ≡ weight p q r
    w_is = rw eu refl

-- ---- the sign
once : (s a b : ℤ) → s ≡ pos 1 → a ≡ b → a ≡ s *ℤ b
once s a b e h = rw e (omega (arith, linear, h))

turned : (s a b : ℤ) → s ≡ negsuc 0 → a ≡ b → pos 0 -ℤ a ≡ s *ℤ b
turned s a b e h = rw e (omega (arith, linear, h))

abbrev pub same_as : Spot → Spot → Type 0
same_as u v = u ≡ v

module _ (p q r : Plane) (x y z w : ℤ) (ex : x ≡ (determinants p q r).x) (ey : y ≡ (determinants p q r).y)
    (ez : z ≡ (determinants p q r).z) (ew : w ≡ weight p q r) where
  pub plain_meet : pos 0 <ℤ w → same_as (record { x = x; y = y; z = z; w = w }) (meet_of p q r)
  plain_meet l =
      let e : sign (weight p q r) ≡ pos 1 = sign_pos (subst (λ a. pos 0 <ℤ a) ew l) in
      same_spot (once _ _ _ e ex) (once _ _ _ e ey) (once _ _ _ e ez) (once _ _ _ e ew)

  pub turned_meet : w <ℤ pos 0 → same_as (record { x = pos 0 -ℤ x; y = pos 0 -ℤ y; z = pos 0 -ℤ z; w = pos 0 -ℤ w }) (meet_of p q r)
  turned_meet l =
      let e : sign (weight p q r) ≡ negsuc 0 = sign_neg (subst (λ a. a <ℤ pos 0) ew l) in
      same_spot (turned _ _ _ e ex) (turned _ _ _ e ey) (turned _ _ _ e ez) (turned _ _ _ e ew)
