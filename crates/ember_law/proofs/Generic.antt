-- Near every point there are generic points, and near a clear point they have its crossings.
use Rattle.std.proofs.Common.{◌≡◌, ◌≢◌, ◌⊎◌, inl, inr, refl, sym, ap, ◌∙◌, arith, List, [], ◌∷◌, ℤ, pos, ◌+ℤ◌, ◌*ℤ◌, neg_ℤ, ◌<ℤ◌}
use lib.IntN.{*ℤ-zero}
use Rattle.ember_algebra.specs.Vector.{Vector, dot, cross}
use Rattle.ember_algebra.specs.Large.{Eventually}
use Rattle.ember_algebra.specs.Sign.{sign}
use Rattle.ember_algebra.proofs.Laws.{linear}
use Rattle.ember_algebra.proofs.Order.{by_sign, pos_mul, cancel_eq}
use Rattle.ember_algebra.proofs.Large.{eventually_both, eventually_map}
use Rattle.ember_algebra.proofs.Ring.{◌⊕◌, ◌⊖◌, ◌⊗◌, ◌≈◌, neg, solve, cancels}
use Rattle.ember_algebra.proofs.Vectors.{vector, tuple, identity, crossE, minusE}
use Rattle.ember_algebra.proofs.QuadrantLaw.{Generic}
use Rattle.ember_model.specs.declared.point.Corner.{Corner}
use Rattle.ember_model.specs.declared.tri.Tri.{Tri}
use Rattle.ember_model.specs.declared.plane.Plane.{Plane}
use Rattle.ember_model.specs.declared.point.Spot.{Spot}
use Rattle.ember_model.specs.declared.point.Axis.{Axis}
use Rattle.ember_model.specs.declared.face.Face.{Face}
use Rattle.ember_model.specs.Planes.{vector_of, value_at, along, support_of, edge_through, HasNoNormal}
use Rattle.ember_model.specs.Points.{offset_by}
use Rattle.ember_model.specs.Faces.{size, hit, crossing}
use Rattle.ember_model.specs.Clear.{IsClear, AreClear}
use Rattle.ember_model.specs.Meshes.{wind}
use Rattle.ember_model.proofs.SignTests.{zero_scaled}
use Rattle.ember_model.proofs.PlaneValues.{value_hit, edge_value, support_value, seen, seenE, tuple_of}
use Rattle.ember_model.proofs.NearClearPoints.{Follows, FollowsEach, same_crossing}
use Rattle.ember_law.proofs.Shifted.{follows_shifted, off_shifted, weight_shifted, eventually_true}
use Rattle.ember_law.proofs.FlatTriangles.{IsFlat}
use Rattle.ember_law.proofs.Directions.{IsGeneric, AreGeneric}

-- ---- generic points
-- if a positive multiple of an integer is 0, it is 0
pub cancel_zero : (w v : ℤ) → pos 0 <ℤ w → w *ℤ v ≡ pos 0 → v ≡ pos 0
cancel_zero w v p e = cancel_eq {c = w} {a = v} {b = pos 0} (λ z. omega (arith, linear)) (e ∙ sym (*ℤ-zero w))

edge_generic : (u v : Corner) (f : Vector) (p : Spot) →
    (value_at (edge_through u v f) p ≡ pos 0 → HasNoNormal (edge_through u v f)) → pos 0 <ℤ p.w →
    Generic (seen p u) (seen p v) f
edge_generic u v f p h w =
    let s = vector ∷ vector ∷ vector ∷ tuple ∷ [] in let a = vector_of u in let b = vector_of v in let q = tuple_of p in let n = edge_through u v f in
    let none : dot f (cross (seen p u) (seen p v)) ≡ pos 0 → HasNoNormal (edge_through u v f) =
    λ z. h (cancel_zero p.w (value_at (edge_through u v f) p) w (edge_value u v f p ∙ ap neg_ℤ z)) in
    record {
      x = λ z. identity s (λ u v f p. (crossE (minusE (seenE p v) (seenE p u)) f).x ≈ p.w ⊗ (crossE (minusE v u) f).x)
          cancels a b f q ∙ zero_scaled p.w n.a (none z).0;
      y = λ z. identity s (λ u v f p. (crossE (minusE (seenE p v) (seenE p u)) f).y ≈ p.w ⊗ (crossE (minusE v u) f).y)
          cancels a b f q ∙ zero_scaled p.w n.b (none z).1;
      z = λ z. identity s (λ u v f p. (crossE (minusE (seenE p v) (seenE p u)) f).z ≈ p.w ⊗ (crossE (minusE v u) f).z)
          cancels a b f q ∙ zero_scaled p.w n.c (none z).2;
    }

-- p lies on none of the planes through the triangle and, along f, its edges that have a normal
pub record IsOff (f : Vector) (p : Spot) (t : Tri) : Type 0 where
  pub weight : pos 0 <ℤ p.w
  pub plane : value_at (support_of t) p ≡ pos 0 → HasNoNormal (support_of t)
  pub first : value_at (edge_through t.a t.b f) p ≡ pos 0 → HasNoNormal (edge_through t.a t.b f)
  pub second : value_at (edge_through t.b t.c f) p ≡ pos 0 → HasNoNormal (edge_through t.b t.c f)
  pub third : value_at (edge_through t.c t.a f) p ≡ pos 0 → HasNoNormal (edge_through t.c t.a f)

generic_off : (f : Vector) (p : Spot) (t : Tri) → IsOff f p t → IsFlat t ⊎ IsGeneric f p t
generic_off f p t m =
    by_sign (value_at (support_of t) p) (λ l. inr (generic (λ z. omega (arith, linear)))) (λ z. let n = m.plane z in
    inl (record { a = n.0; b = n.1; c = n.2 })) (λ l. inr (generic (λ z. omega (arith, linear))))
  where
    generic : value_at (support_of t) p ≢ pos 0 → IsGeneric f p t
    generic nz =
        record {
          off = λ z. nz (cancel_zero (p.w *ℤ p.w) (value_at (support_of t) p) (pos_mul m.weight m.weight) (let e =
              sym (support_value t p) ∙ z in omega (arith, linear, e)));
          edges = record {
            first = edge_generic t.a t.b f p m.first m.weight;
            second =
                edge_generic t.b t.c f p m.second m.weight;
            third = edge_generic t.c t.a f p m.third m.weight;
          };
        }

-- a point shifted by little enough is off the triangle for the direction f
pub off_all : (f : Vector) (p : Spot) (t : Tri) → pos 0 <ℤ p.w → Eventually (λ n. IsOff f (offset_by p (pos n)) t)
off_all f p t w =
    eventually_map (λ n h. record { weight = h.0; plane = h.1.0; first = h.1.1.0; second = h.1.1.1.0; third = h.1.1.1.1 })
    (eventually_both (weight_shifted p w) (eventually_both (off_shifted p (support_of t))
    (eventually_both (off_shifted p (edge_through t.a t.b f))
    (eventually_both (off_shifted p (edge_through t.b t.c f)) (off_shifted p (edge_through t.c t.a f))))))

-- a point that is shifted by little enough is generic
pub generic_shifted : (f : Vector) (p : Spot) (ts : List Tri) → pos 0 <ℤ p.w → Eventually (λ k. AreGeneric f (offset_by p (pos k)) ts)
generic_shifted f p [] w = eventually_true (λ k. tt)
generic_shifted f p (t ∷ ts) w =
    eventually_both (eventually_map (λ k m. generic_off f (offset_by p (pos k)) t m) (off_all f p t w)) (generic_shifted f p ts w)

-- ---- the same crossings
-- the plane whose value at p is that of g at the hit
abbrev pub at_hit_of : Plane → Plane → Axis → Plane
at_hit_of g n a =
    let m = size (along n a) in let k = neg_ℤ (sign (along n a)) *ℤ along g a in
    record { a = m *ℤ g.a +ℤ k *ℤ n.a; b = m *ℤ g.b +ℤ k *ℤ n.b; c = m *ℤ g.c +ℤ k *ℤ n.c; d = m *ℤ g.d +ℤ k *ℤ n.d }

-- its value at p is that of g at the hit
pub value_at_hit : (g n : Plane) (a : Axis) (p : Spot) → value_at (at_hit_of g n a) p ≡ value_at g (hit n a p)
value_at_hit g n a p =
    solve 14 (λ m k ga gb gc gd na nb nc nd x y z w. (m ⊗ ga ⊕ k ⊗ na) ⊗ x ⊕ (m ⊗ gb ⊕ k ⊗ nb) ⊗ y ⊕ (m ⊗ gc ⊕ k ⊗ nc) ⊗
    z ⊖ (m ⊗ gd ⊕ k ⊗ nd) ⊗ w ≈ m ⊗ (ga ⊗ x ⊕ gb ⊗ y ⊕ gc ⊗ z ⊖ gd ⊗ w) ⊕ k ⊗ (na ⊗ x ⊕ nb ⊗ y ⊕ nc ⊗ z ⊖ nd ⊗ w))
    cancels (size (along n a)) (neg_ℤ (sign (along n a)) *ℤ along g a) g.a g.b g.c g.d n.a n.b n.c n.d p.x p.y p.z p.w
    ∙ solve 5 (λ m s k v u. m ⊗ v ⊕ neg s ⊗ k ⊗ u ≈ m ⊗ v ⊖ s ⊗ u ⊗ k) cancels (size (along n a)) (sign (along n a))
    (along g a) (value_at g p) (value_at n p) ∙ sym (value_hit g n a p)

follows_at_hit : (g n : Plane) (a : Axis) (p q : Spot) → Follows p q (at_hit_of g n a) → Follows (hit n a p) (hit n a q) g
follows_at_hit g n a p q f =
    record {
      up = λ u. rw (value_at_hit g n a q) at (f.up (rw (value_at_hit g n a p) u));
      down =
          λ u. rw (value_at_hit g n a q) at (f.down (rw (value_at_hit g n a p) u));
    }

follow_hits : (n : Plane) (es : List Plane) (a : Axis) (p : Spot) → Eventually (λ k. FollowsEach (hit n a p) (hit n a (offset_by p (pos k))) es)
follow_hits n [] a p = eventually_true (λ k. tt)
follow_hits n (e ∷ es) a p =
    eventually_both (eventually_map (λ k f. follows_at_hit e n a p (offset_by p (pos k)) f) (follows_shifted p (at_hit_of e n a))) (follow_hits n es a p)

crossing_shifted : (f : Face) (a : Axis) (p : Spot) → pos 0 <ℤ p.w → IsClear f p → Eventually (λ k. crossing f a p ≡ crossing f a (offset_by p (pos k)))
crossing_shifted f a p w c =
    eventually_map (λ k h. same_crossing f a p (offset_by p (pos k)) w h.0 c h.1.0 h.1.1)
    (eventually_both (weight_shifted p w) (eventually_both (follows_shifted p f.support)
    (follow_hits f.support f.edges a p)))

-- at a clear point and at points shifted by little enough, faces wind the same
pub wind_shifted : (a : Axis) (p : Spot) (fs : List Face) → pos 0 <ℤ p.w → AreClear fs p → Eventually (λ k. wind a fs p ≡ wind a fs (offset_by p (pos k)))
wind_shifted a p [] w c = eventually_true (λ k. refl)
wind_shifted a p (f ∷ fs) w c =
    eventually_map (λ k h. λ i. h.0 i +ℤ h.1 i) (eventually_both (crossing_shifted f a p w c.0) (wind_shifted a p fs w c.1))
