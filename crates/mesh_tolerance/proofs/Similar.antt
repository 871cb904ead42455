-- Triangles of points in another unit and from another origin: they are seen alike, and what is clear stays clear.
use Rattle.std.proofs.Common.{◌≡◌, sym, ap, ◌∙◌, true, not, ◌&&◌, [], ◌∷◌, ℤ, pos, ◌+ℤ◌, ◌-ℤ◌, ◌*ℤ◌, ◌<ℤ◌}
use Rattle.ember_algebra.specs.Sign.{sgn, is_neg, is_nil, is_pos}
use Rattle.ember_algebra.specs.Vector.{Vector, scale_v, dot, cross, det}
use Rattle.ember_algebra.proofs.Order.{pos_mul}
use Rattle.ember_algebra.proofs.Ring.{◌⊕◌, ◌⊖◌, ◌⊗◌, ◌≈◌, solve, cancels}
use Rattle.ember_algebra.proofs.Vectors.{scalar, vector, tuple, identity, vector_identity, ◌≈v◌, cancels_v, TupleE, dotE, crossE, detE, scaleE, valueE, vector_partE}
use Rattle.ember_model.specs.declared.face.Face.{Face}
use Rattle.ember_model.specs.declared.point.Axis.{Axis}
use Rattle.ember_model.specs.declared.point.Axis.TheVariants.{X, Y, Z}
use Rattle.ember_model.specs.declared.point.Spot.{Spot}
use Rattle.ember_model.specs.Clear.{IsClear}
use Rattle.ember_model.specs.Faces.{is_inside, is_in_closed}
use Rattle.ember_model.specs.Planes.{unit, value_at}
use Rattle.ember_model.specs.Points.{scaled, moved, displacement}
use Rattle.ember_model.proofs.Hits.{closed_scaled, inside_scaled, scaled_point_scales}
use Rattle.ember_model.proofs.SignTests.{sgn_scaled}
use Rattle.ember_model.proofs.Tuples.{spot_tuple, same_spot}
use Rattle.ember_model.proofs.Displacements.{displacementE}
use Rattle.mesh_solid.specs.Winding.TriangleFaces.{side_plane}
use Rattle.mesh_written.specs.Closed.{Positions}
use Rattle.mesh_tolerance.specs.Similar.{placed_by, triangle_placed_by}
use Rattle.mesh_tolerance.specs.Triangles.{plane_of_points, face_of_corners}
use Rattle.mesh_tolerance.proofs.Rays.{ray_crossing}
use Rattle.mesh_tolerance.proofs.Sides.{turn_of, seen_crossing}

-- ---- longer vectors
-- corners that are all farther away by one factor are seen alike
pub scaled_is_seen_alike : (a : Axis) (k : ℤ) (u v w : Vector) → pos 0 <ℤ k →
    seen_crossing a (scale_v k u) (scale_v k v) (scale_v k w) ≡ seen_crossing a u v w
scaled_is_seen_alike a k u v w p =
    let d = ap sgn (identity (scalar ∷ vector ∷ vector ∷ vector ∷ []) (λ k u v w. detE (scaleE k u) (scaleE k v)
    (scaleE k w) ≈ (k ⊗ (k ⊗ k)) ⊗ detE u v w) cancels k u v w) ∙ sgn_scaled (det u v w) (pos_mul p (pos_mul p p)) in
    let x = turn u v in let y = turn v w in let z = turn w u in λ i. ray_crossing (d i) (x i) (y i) (z i)
  where
    turn : (u v : Vector) → sgn (turn_of a (scale_v k u) (scale_v k v)) ≡ sgn (turn_of a u v)
    turn u v =
        ap sgn (identity (scalar ∷ vector ∷ vector ∷ vector ∷ []) (λ k e u v. dotE e (crossE (scaleE k u) (scaleE k v)) ≈
        (k ⊗ k) ⊗ dotE e (crossE u v)) cancels k (unit a) u v) ∙ sgn_scaled (turn_of a u v) (pos_mul p p)

-- ---- points in a unit of n / m of the first, from another origin
module _ (n m : ℤ) (o : Vector) (pn : pos 0 <ℤ n) (pm : pos 0 <ℤ m) where
  abbrev placed : Spot → Spot
  placed v = placed_by n m o v

  abbrev k : ℤ
  k = n *ℤ m

  pk : pos 0 <ℤ k
  pk = pos_mul pn pm

  pub placed_displacement : (u v : Spot) → displacement (placed u) (placed v) ≡ scale_v k (displacement u v)
  placed_displacement u v =
      vector_identity (scalar ∷ scalar ∷ vector ∷ tuple ∷ tuple ∷ []) (λ n m o u v. let placed : TupleE → TupleE = λ v. record {
        x = m ⊗ v.x ⊖ o.x ⊗ (n ⊗ v.w);
        y = m ⊗ v.y ⊖ o.y ⊗ (n ⊗ v.w);
        z = m ⊗ v.z ⊖ o.z ⊗ (n ⊗ v.w);
        w = n ⊗ v.w;
      } in displacementE (placed u) (placed v) ≈v scaleE (n ⊗ m) (displacementE u v)) cancels_v n m o (spot_tuple u)
      (spot_tuple v)

  -- triangles are seen alike
  pub placed_is_seen_alike : (a : Axis) (p u v w : Spot) →
      seen_crossing a (displacement (placed p) (placed u)) (displacement (placed p) (placed v))
      (displacement (placed p) (placed w)) ≡ seen_crossing a (displacement p u) (displacement p v) (displacement p w)
  placed_is_seen_alike a p u v w =
      let f = placed_displacement p u in let g = placed_displacement p v in let h = placed_displacement p w in
      (λ i. seen_crossing a (f i) (g i) (h i))
      ∙ scaled_is_seen_alike a k (displacement p u) (displacement p v) (displacement p w) pk

  -- ---- planes
  -- a plane's value at a point, by the way there from a corner
  plane_value : (u v w x : Spot) → value_at (plane_of_points u v w) x ≡ dot (cross (displacement u v) (displacement u w)) (displacement u x)
  plane_value u v w x =
      identity (tuple ∷ tuple ∷ tuple ∷ tuple ∷ []) (λ u v w x. let k = crossE (displacementE u v) (displacementE u w) in
      valueE (record { x = u.w ⊗ k.x; y = u.w ⊗ k.y; z = u.w ⊗ k.z; w = dotE k (vector_partE u) }) x ≈ dotE k
      (displacementE u x)) cancels (spot_tuple u) (spot_tuple v) (spot_tuple w) (spot_tuple x)

  placed_plane : (u v w x : Spot) → sgn (value_at (plane_of_points (placed u) (placed v) (placed w)) (placed x)) ≡ sgn (value_at (plane_of_points u v w) x)
  placed_plane u v w x =
      let f = placed_displacement u v in let g = placed_displacement u w in let h = placed_displacement u x in
      ap sgn (plane_value (placed u) (placed v) (placed w) (placed x) ∙ (λ i. dot (cross (f i) (g i)) (h i))
      ∙ identity (scalar ∷ vector ∷ vector ∷ vector ∷ []) (λ k u v w. dotE (crossE (scaleE k u) (scaleE k v))
      (scaleE k w) ≈ (k ⊗ (k ⊗ k)) ⊗ dotE (crossE u v) w) cancels k (displacement u v) (displacement u w)
      (displacement u x) ∙ sym (ap (λ (z : ℤ). (k *ℤ (k *ℤ k)) *ℤ z) (plane_value u v w x)))
      ∙ sgn_scaled (value_at (plane_of_points u v w) x) (pos_mul pk (pos_mul pk pk))

  -- the same of the plane of a side from s to t of the triangle u, v, w
  side_value : (u v w s t x : Spot) → value_at (side_plane (plane_of_points u v w) s t) x ≡ u.w *ℤ dot
      (cross (displacement s t) (cross (displacement u v) (displacement u w))) (displacement s x)
  side_value u v w s t x =
      identity (scalar ∷ vector ∷ tuple ∷ tuple ∷ tuple ∷ []) (λ c n s t x. let k = crossE (displacementE s t) (scaleE c n)
      in valueE (record { x = s.w ⊗ k.x; y = s.w ⊗ k.y; z = s.w ⊗ k.z; w = dotE k (vector_partE s) }) x ≈ c ⊗ dotE
      (crossE (displacementE s t) n) (displacementE s x)) cancels u.w (cross (displacement u v) (displacement u w))
      (spot_tuple s) (spot_tuple t) (spot_tuple x)

  placed_side : (u v w s t x : Spot) →
      sgn (value_at (side_plane (plane_of_points (placed u) (placed v) (placed w)) (placed s) (placed t)) (placed x)) ≡ sgn
      (value_at (side_plane (plane_of_points u v w) s t) x)
  placed_side u v w s t x =
      let f = placed_displacement s t in let g = placed_displacement u v in let h = placed_displacement u w in
      let d = placed_displacement s x in
      ap sgn (side_value (placed u) (placed v) (placed w) (placed s) (placed t) (placed x)
      ∙ (λ i. (placed u).w *ℤ dot (cross (f i) (cross (g i) (h i))) (d i))
      ∙ identity (scalar ∷ scalar ∷ scalar ∷ vector ∷ vector ∷ vector ∷ vector ∷ []) (λ n k c d u v w. (n ⊗ c) ⊗ dotE
      (crossE (scaleE k d) (crossE (scaleE k u) (scaleE k v))) (scaleE k w) ≈ (n ⊗ ((k ⊗ k) ⊗ (k ⊗ k))) ⊗
      (c ⊗ dotE (crossE d (crossE u v)) w)) cancels n k u.w (displacement s t) (displacement u v) (displacement u w)
      (displacement s x)
      ∙ sym (ap (λ (z : ℤ). (n *ℤ ((k *ℤ k) *ℤ (k *ℤ k))) *ℤ z) (side_value u v w s t x)))
      ∙ sgn_scaled (value_at (side_plane (plane_of_points u v w) s t) x) (pos_mul pn (pos_mul (pos_mul pk pk) (pos_mul pk pk)))

  -- ---- faces
  abbrev placed_triangle : Positions Spot → Positions Spot
  placed_triangle t = triangle_placed_by n m o t

  module _ (t : Positions Spot) where
    abbrev f : Face
    f = face_of_corners t

    abbrev g : Face
    g = face_of_corners (placed_triangle t)

    placed_closed : (x : Spot) → is_in_closed g (placed x) ≡ is_in_closed f x
    placed_closed x =
        let w = sgn_scaled x.w pn in let s = placed_plane t.a t.b t.c x in let p = placed_side t.a t.b t.c t.a t.b x in
        let q = placed_side t.a t.b t.c t.b t.c x in let r = placed_side t.a t.b t.c t.c t.a x in
        λ i. is_pos (w i) && (is_nil (s i) && (not (is_pos (p i)) && (not (is_pos (q i)) && (not (is_pos (r i)) && true))))

    placed_inside : (x : Spot) → is_inside g (placed x) ≡ is_inside f x
    placed_inside x =
        let w = sgn_scaled x.w pn in let s = placed_plane t.a t.b t.c x in let p = placed_side t.a t.b t.c t.a t.b x in
        let q = placed_side t.a t.b t.c t.b t.c x in let r = placed_side t.a t.b t.c t.c t.a x in
        λ i. is_pos (w i) && (is_nil (s i) && (is_neg (p i) && (is_neg (q i) && (is_neg (r i) && true))))

    on : (j s x o w : ℤ) → m *ℤ (j *ℤ (m *ℤ x -ℤ o *ℤ (n *ℤ w)) +ℤ s) ≡ m *ℤ ((m *ℤ j) *ℤ x +ℤ s) -ℤ o *ℤ
        (n *ℤ ((m *ℤ j) *ℤ w))
    on j s x o w =
        solve 7 (λ n m j s x o w. m ⊗ (j ⊗ (m ⊗ x ⊖ o ⊗ (n ⊗ w)) ⊕ s) ≈ m ⊗ ((m ⊗ j) ⊗ x ⊕ s) ⊖ o ⊗ (n ⊗ ((m ⊗ j) ⊗ w)))
        cancels n m j s x o w

    off : (j x o w : ℤ) → m *ℤ (j *ℤ (m *ℤ x -ℤ o *ℤ (n *ℤ w))) ≡ m *ℤ ((m *ℤ j) *ℤ x) -ℤ o *ℤ (n *ℤ ((m *ℤ j) *ℤ w))
    off j x o w =
        solve 6 (λ n m j x o w. m ⊗ (j ⊗ (m ⊗ x ⊖ o ⊗ (n ⊗ w))) ≈ m ⊗ ((m ⊗ j) ⊗ x) ⊖ o ⊗ (n ⊗ ((m ⊗ j) ⊗ w))) cancels n m
        j x o w

    weight : (j w : ℤ) → m *ℤ (j *ℤ (n *ℤ w)) ≡ n *ℤ ((m *ℤ j) *ℤ w)
    weight j w = solve 4 (λ n m j w. m ⊗ (j ⊗ (n ⊗ w)) ≈ n ⊗ ((m ⊗ j) ⊗ w)) cancels n m j w

    -- a point of a ray from p, and one of the ray from where p is placed
    placed_ray : (a : Axis) (j s : ℤ) (p : Spot) → scaled m (moved (scaled j (placed p)) a s) ≡ placed (moved (scaled (m *ℤ j) p) a s)
    placed_ray X j s p = same_spot (on j s p.x o.x p.w) (off j p.y o.y p.w) (off j p.z o.z p.w) (weight j p.w)
    placed_ray Y j s p = same_spot (off j p.x o.x p.w) (on j s p.y o.y p.w) (off j p.z o.z p.w) (weight j p.w)
    placed_ray Z j s p = same_spot (off j p.x o.x p.w) (off j p.y o.y p.w) (on j s p.z o.z p.w) (weight j p.w)

    pub placed_is_clear : (p : Spot) → IsClear f p → IsClear g (placed p)
    placed_is_clear p c = record {
      outside = placed_closed p ∙ c.outside;
      rays = λ a j s pj ps e.
          let x = moved (scaled j (placed p)) a s in let y = moved (scaled (m *ℤ j) p) a s in
          let r = placed_ray a j s p in
          let there : is_in_closed f y ≡ true = sym (placed_closed y) ∙ sym (ap (is_in_closed g) r)
          ∙ closed_scaled m x (scaled m x) g pm (scaled_point_scales m x) ∙ e in
          sym (inside_scaled m x (scaled m x) g pm (scaled_point_scales m x)) ∙ ap (is_inside g) r ∙ placed_inside y
          ∙ c.rays a (m *ℤ j) s (pos_mul pm pj) ps there;
    }
