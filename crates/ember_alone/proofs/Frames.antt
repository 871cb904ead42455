-- The edge planes of a triangle at its corners, with any edge taken as the first.
use Rattle.std.proofs.Common.{◌≡◌, ◌⊎◌, inl, inr, sym, ap, ◌∙◌, arith, true, false, ◌&&◌, [], ◌∷◌, ℤ, pos, ◌*ℤ◌, neg_ℤ, ◌<ℤ◌, ◌≤ℤ◌}
use Rattle.ember_algebra.specs.Sign.{sign}
use Rattle.ember_algebra.specs.Vector.{Vector, dot}
use Rattle.ember_algebra.proofs.Laws.{linear}
use Rattle.ember_algebra.proofs.Ring.{◌⊗◌, ◌≈◌, neg, solve, cancels}
use Rattle.ember_algebra.proofs.Vectors.{vector, identity, dotE, vector_partE, valueE}
use Rattle.ember_model.specs.declared.point.Corner.{Corner}
use Rattle.ember_model.specs.declared.point.Spot.{Spot}
use Rattle.ember_model.specs.declared.plane.Plane.{Plane}
use Rattle.ember_model.specs.declared.tri.Tri.{Tri}
use Rattle.ember_model.specs.Planes.{vector_of, unit, value_at, along, main_axis, times_plane, support_of, edge_through}
use Rattle.ember_model.specs.Faces.{is_flat, edges_of}
use Rattle.ember_model.specs.ClearTest.{all_negative, none_positive}
use Rattle.ember_model.specs.Owners.{spot_of_corner}
use Rattle.ember_model.proofs.SignTests.{negative_in, not_positive_in, size_positive}
use Rattle.ember_model.proofs.PlaneValues.{value_times, size-is, along_dot, cross_product, supportE, edgeE}
use Rattle.ember_model.proofs.Tuples.{cornerE}
use Rattle.ember_law.proofs.CornerSides.{main_entry}
use Rattle.ember_alone.specs.Touch.{HasCorner}
use Rattle.ember_alone.proofs.Common.{zero_at_start, zero_at_end, edge_zero}

-- ---- the corners in order, from any of them
pub data IsTurned (t : Tri) (u v w : Corner) : Type 0 where
  from_a : u ≡ t.a → v ≡ t.b → w ≡ t.c → IsTurned t u v w
  from_b : u ≡ t.b → v ≡ t.c → w ≡ t.a → IsTurned t u v w
  from_c : u ≡ t.c → v ≡ t.a → w ≡ t.b → IsTurned t u v w

-- each corner is one of the three
pub corner_of_turned : (t : Tri) (u v w c : Corner) → IsTurned t u v w → HasCorner t c → (c ≡ u) ⊎ ((c ≡ v) ⊎ (c ≡ w))
corner_of_turned t u v w c (from_a p q r) (inl e) = inl (e ∙ sym p)
corner_of_turned t u v w c (from_a p q r) (inr (inl e)) = inr (inl (e ∙ sym q))
corner_of_turned t u v w c (from_a p q r) (inr (inr e)) = inr (inr (e ∙ sym r))
corner_of_turned t u v w c (from_b p q r) (inl e) = inr (inr (e ∙ sym r))
corner_of_turned t u v w c (from_b p q r) (inr (inl e)) = inl (e ∙ sym p)
corner_of_turned t u v w c (from_b p q r) (inr (inr e)) = inr (inl (e ∙ sym q))
corner_of_turned t u v w c (from_c p q r) (inl e) = inr (inl (e ∙ sym q))
corner_of_turned t u v w c (from_c p q r) (inr (inl e)) = inr (inr (e ∙ sym r))
corner_of_turned t u v w c (from_c p q r) (inr (inr e)) = inl (e ∙ sym p)

-- ---- an edge plane at the corner across from it
across_first : (t : Tri) (f : Vector) → value_at (edge_through t.a t.b f) (spot_of_corner t.c) ≡ neg_ℤ (dot (cross_product (support_of t)) f)
across_first t f =
    identity (vector ∷ vector ∷ vector ∷ vector ∷ [])
    (λ a b c f. valueE (edgeE a b f) (cornerE c) ≈ neg (dotE (vector_partE (supportE a b c)) f)) cancels (vector_of t.a)
    (vector_of t.b) (vector_of t.c) f

across_second : (t : Tri) (f : Vector) → value_at (edge_through t.b t.c f) (spot_of_corner t.a) ≡ neg_ℤ (dot (cross_product (support_of t)) f)
across_second t f =
    identity (vector ∷ vector ∷ vector ∷ vector ∷ [])
    (λ a b c f. valueE (edgeE b c f) (cornerE a) ≈ neg (dotE (vector_partE (supportE a b c)) f)) cancels (vector_of t.a)
    (vector_of t.b) (vector_of t.c) f

across_third : (t : Tri) (f : Vector) → value_at (edge_through t.c t.a f) (spot_of_corner t.b) ≡ neg_ℤ (dot (cross_product (support_of t)) f)
across_third t f =
    identity (vector ∷ vector ∷ vector ∷ vector ∷ [])
    (λ a b c f. valueE (edgeE c a f) (cornerE b) ≈ neg (dotE (vector_partE (supportE a b c)) f)) cancels (vector_of t.a)
    (vector_of t.b) (vector_of t.c) f

-- ---- the edge planes
-- across from each corner an edge plane that is negative there, and 0 at the other two
pub record Frame (t : Tri) (u v w : Corner) : Type 0 where
  pub from_u : Plane
  pub from_v : Plane
  pub from_w : Plane
  pub u_low : value_at from_u (spot_of_corner u) <ℤ pos 0
  pub u_at_v : value_at from_u (spot_of_corner v) ≡ pos 0
  pub u_at_w : value_at from_u (spot_of_corner w) ≡ pos 0
  pub v_low : value_at from_v (spot_of_corner v) <ℤ pos 0
  pub v_at_w : value_at from_v (spot_of_corner w) ≡ pos 0
  pub v_at_u : value_at from_v (spot_of_corner u) ≡ pos 0
  pub w_low : value_at from_w (spot_of_corner w) <ℤ pos 0
  pub w_at_u : value_at from_w (spot_of_corner u) ≡ pos 0
  pub w_at_v : value_at from_w (spot_of_corner v) ≡ pos 0
  pub w_is : from_w ≡ times_plane (sign (along (support_of t) (main_axis (support_of t))))
      (edge_through u v (unit (main_axis (support_of t))))
  pub within : (x : Spot) → value_at from_u x <ℤ pos 0 → value_at from_v x <ℤ pos 0 → value_at from_w x <ℤ pos 0 →
      all_negative (edges_of t) x ≡ true
  pub closed : (x : Spot) → value_at from_u x ≤ℤ pos 0 → value_at from_v x ≤ℤ pos 0 → value_at from_w x ≤ℤ pos 0 →
      none_positive (edges_of t) x ≡ true

module _ (t : Tri) (full : is_flat t ≡ false) where
  abbrev k : Vector
  k = unit (main_axis (support_of t))

  abbrev s : ℤ
  s = sign (along (support_of t) (main_axis (support_of t)))

  abbrev first : Plane
  first = times_plane s (edge_through t.a t.b k)

  abbrev second : Plane
  second = times_plane s (edge_through t.b t.c k)

  abbrev third : Plane
  third = times_plane s (edge_through t.c t.a k)

  -- a plane that is the negative of the normal's entry at a corner
  low_at : (g : Plane) (c x : Corner) → c ≡ x → value_at g (spot_of_corner x) ≡ neg_ℤ (dot (cross_product (support_of t)) k) →
      value_at (times_plane s g) (spot_of_corner c) <ℤ pos 0
  low_at g c x e h =
      let n = along (support_of t) (main_axis (support_of t)) in
      let p = size_positive n (main_entry t full) in let z = size-is n in
      let v = value_times s g (spot_of_corner c) in let d = along_dot (support_of t) (main_axis (support_of t)) in
      let w = ap (λ (y : ℤ). s *ℤ y) (ap (λ (y : Corner). value_at g (spot_of_corner y)) e ∙ h ∙ ap neg_ℤ (sym d)) in
      let o = solve 2 (λ s n. s ⊗ neg n ≈ neg (s ⊗ n)) cancels s n in
      omega (arith, linear, p, z, v, w, o)

  three_within : (x : Spot) → value_at first x <ℤ pos 0 → value_at second x <ℤ pos 0 → value_at third x <ℤ pos 0 → all_negative (edges_of t) x ≡ true
  three_within x l m r = let a = negative_in l in let b = negative_in m in let c = negative_in r in λ i. a i && (b i && (c i && true))

  three_closed : (x : Spot) → value_at first x ≤ℤ pos 0 → value_at second x ≤ℤ pos 0 → value_at third x ≤ℤ pos 0 → none_positive (edges_of t) x ≡ true
  three_closed x l m r =
      let a = not_positive_in (value_at first x) l in let b = not_positive_in (value_at second x) m in let c = not_positive_in (value_at third x) r in
      λ i. a i && (b i && (c i && true))

  pub frame : (u v w : Corner) → IsTurned t u v w → Frame t u v w
  frame u v w (from_a p q r) =
      record {
        from_u = second;
        from_v = third;
        from_w = first;
        u_low = low_at (edge_through t.b t.c k) u t.a p (across_second t k);
        u_at_v = edge_zero s (edge_through t.b t.c k) v t.b q (zero_at_start t.b t.c k);
        u_at_w = edge_zero s (edge_through t.b t.c k) w t.c r (zero_at_end t.b t.c k);
        v_low = low_at (edge_through t.c t.a k) v t.b q (across_third t k);
        v_at_w = edge_zero s (edge_through t.c t.a k) w t.c r (zero_at_start t.c t.a k);
        v_at_u = edge_zero s (edge_through t.c t.a k) u t.a p (zero_at_end t.c t.a k);
        w_low = low_at (edge_through t.a t.b k) w t.c r (across_first t k);
        w_at_u = edge_zero s (edge_through t.a t.b k) u t.a p (zero_at_start t.a t.b k);
        w_at_v = edge_zero s (edge_through t.a t.b k) v t.b q (zero_at_end t.a t.b k);
        w_is = λ i. times_plane s (edge_through (sym p i) (sym q i) k);
        within = λ x a b c. three_within x c a b;
        closed = λ x a b c. three_closed x c a b;
      }
  frame u v w (from_b p q r) =
      record {
        from_u = third;
        from_v = first;
        from_w = second;
        u_low = low_at (edge_through t.c t.a k) u t.b p (across_third t k);
        u_at_v = edge_zero s (edge_through t.c t.a k) v t.c q (zero_at_start t.c t.a k);
        u_at_w = edge_zero s (edge_through t.c t.a k) w t.a r (zero_at_end t.c t.a k);
        v_low = low_at (edge_through t.a t.b k) v t.c q (across_first t k);
        v_at_w = edge_zero s (edge_through t.a t.b k) w t.a r (zero_at_start t.a t.b k);
        v_at_u = edge_zero s (edge_through t.a t.b k) u t.b p (zero_at_end t.a t.b k);
        w_low = low_at (edge_through t.b t.c k) w t.a r (across_second t k);
        w_at_u = edge_zero s (edge_through t.b t.c k) u t.b p (zero_at_start t.b t.c k);
        w_at_v = edge_zero s (edge_through t.b t.c k) v t.c q (zero_at_end t.b t.c k);
        w_is = λ i. times_plane s (edge_through (sym p i) (sym q i) k);
        within = λ x a b c. three_within x b c a;
        closed = λ x a b c. three_closed x b c a;
      }
  frame u v w (from_c p q r) =
      record {
        from_u = first;
        from_v = second;
        from_w = third;
        u_low = low_at (edge_through t.a t.b k) u t.c p (across_first t k);
        u_at_v = edge_zero s (edge_through t.a t.b k) v t.a q (zero_at_start t.a t.b k);
        u_at_w = edge_zero s (edge_through t.a t.b k) w t.b r (zero_at_end t.a t.b k);
        v_low = low_at (edge_through t.b t.c k) v t.a q (across_second t k);
        v_at_w = edge_zero s (edge_through t.b t.c k) w t.b r (zero_at_start t.b t.c k);
        v_at_u = edge_zero s (edge_through t.b t.c k) u t.c p (zero_at_end t.b t.c k);
        w_low = low_at (edge_through t.c t.a k) w t.b r (across_third t k);
        w_at_u = edge_zero s (edge_through t.c t.a k) u t.c p (zero_at_start t.c t.a k);
        w_at_v = edge_zero s (edge_through t.c t.a k) v t.a q (zero_at_end t.c t.a k);
        w_is = λ i. times_plane s (edge_through (sym p i) (sym q i) k);
        within = λ x a b c. three_within x a b c;
        closed = λ x a b c. three_closed x a b c;
      }
