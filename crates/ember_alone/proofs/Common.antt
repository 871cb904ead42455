-- A point inside a triangle lies in no corner and on no edge of it.
use Rattle.std.proofs.Common.{◌≡◌, inl, inr, refl, sym, ap, ◌∙◌, arith, true, [], ◌∷◌, ℤ, pos}
use Rattle.ember_algebra.specs.Sign.{sign}
use Rattle.ember_algebra.specs.Vector.{Vector}
use Rattle.ember_algebra.proofs.Laws.{linear}
use Rattle.ember_algebra.proofs.Order.{mul_pos_neg}
use Rattle.ember_algebra.proofs.Ring.{◌≈◌, num, cancels}
use Rattle.ember_algebra.proofs.Vectors.{vector, identity, valueE}
use Rattle.ember_model.specs.declared.point.Corner.{Corner}
use Rattle.ember_model.specs.declared.point.Spot.{Spot}
use Rattle.ember_model.specs.declared.plane.Plane.{Plane}
use Rattle.ember_model.specs.declared.tri.Tri.{Tri}
use Rattle.ember_model.specs.Planes.{vector_of, unit, value_at, along, main_axis, times_plane, support_of, edge_through}
use Rattle.ember_model.specs.Faces.{is_inside, face_of, edges_of}
use Rattle.ember_model.specs.Owners.{spot_of_corner}
use Rattle.ember_model.proofs.SignTests.{In, zero_scaled}
use Rattle.ember_model.proofs.PlaneValues.{value_scaled, value_times, edgeE}
use Rattle.ember_model.proofs.Hits.{inside_parts}
use Rattle.ember_model.proofs.LastZero.{all_negative_member}
use Rattle.ember_model.proofs.Tuples.{cornerE}
use Rattle.ember_law.proofs.Separation.{combination_value}
use Rattle.ember_alone.specs.Touch.{HasCorner, IsInCommon, IsCommonCorner, Conform}

-- ---- edge planes

-- an edge plane is 0 at the corner at which its edge starts
pub zero_at_start : (u v : Corner) (f : Vector) → value_at (edge_through u v f) (spot_of_corner u) ≡ pos 0
zero_at_start u v f =
    identity (vector ∷ vector ∷ vector ∷ []) (λ u v f. valueE (edgeE u v f) (cornerE u) ≈ num (pos 0)) cancels
    (vector_of u) (vector_of v) f

-- and at that at which it ends
pub zero_at_end : (u v : Corner) (f : Vector) → value_at (edge_through u v f) (spot_of_corner v) ≡ pos 0
zero_at_end u v f =
    identity (vector ∷ vector ∷ vector ∷ []) (λ u v f. valueE (edgeE u v f) (cornerE v) ≈ num (pos 0)) cancels
    (vector_of u) (vector_of v) f

-- ---- any two corners lie on an edge
-- an edge plane that is 0 at both corners
record EdgeWith (t : Tri) (u v : Corner) : Type 0 where
  plane : Plane
  member : In plane (edges_of t)
  at_u : value_at plane (spot_of_corner u) ≡ pos 0
  at_v : value_at plane (spot_of_corner v) ≡ pos 0

-- the edge plane times the triangle's sign, at corners that equal those at which it is 0
pub edge_zero : (s : ℤ) (g : Plane) (u x : Corner) → u ≡ x → value_at g (spot_of_corner x) ≡ pos 0 → value_at (times_plane s g) (spot_of_corner u) ≡ pos 0
edge_zero s g u x e z =
    value_times s g (spot_of_corner u) ∙ zero_scaled s (value_at g (spot_of_corner u)) (ap (λ (c : Corner). value_at g (spot_of_corner c)) e ∙ z)

edge_with : (t : Tri) (u v : Corner) → HasCorner t u → HasCorner t v → EdgeWith t u v
edge_with t u v hu hv = by hu hv
  where
    k : Vector
    k = unit (main_axis (support_of t))

    s : ℤ
    s = sign (along (support_of t) (main_axis (support_of t)))

    first : Plane
    first = edge_through t.a t.b k

    second : Plane
    second = edge_through t.b t.c k

    third : Plane
    third = edge_through t.c t.a k

    on_first : (x y : Corner) → value_at first (spot_of_corner x) ≡ pos 0 → value_at first (spot_of_corner y) ≡ pos 0 → u ≡ x → v ≡ y → EdgeWith t u v
    on_first x y zx zy p q = record { plane = times_plane s first; member = inl refl; at_u = edge_zero s first u x p zx; at_v = edge_zero s first v y q zy }

    on_second : (x y : Corner) → value_at second (spot_of_corner x) ≡ pos 0 → value_at second (spot_of_corner y) ≡ pos 0 → u ≡ x → v ≡ y → EdgeWith t u v
    on_second x y zx zy p q = record { plane = times_plane s second; member = inr (inl refl); at_u = edge_zero s second u x p zx; at_v = edge_zero s second v y q zy }

    on_third : (x y : Corner) → value_at third (spot_of_corner x) ≡ pos 0 → value_at third (spot_of_corner y) ≡ pos 0 → u ≡ x → v ≡ y → EdgeWith t u v
    on_third x y zx zy p q = record { plane = times_plane s third; member = inr (inr (inl refl)); at_u = edge_zero s third u x p zx; at_v = edge_zero s third v y q zy }

    by : HasCorner t u → HasCorner t v → EdgeWith t u v
    by (inl p) (inl q) = on_first t.a t.a (zero_at_start t.a t.b k) (zero_at_start t.a t.b k) p q
    by (inl p) (inr (inl q)) = on_first t.a t.b (zero_at_start t.a t.b k) (zero_at_end t.a t.b k) p q
    by (inl p) (inr (inr q)) = on_third t.a t.c (zero_at_end t.c t.a k) (zero_at_start t.c t.a k) p q
    by (inr (inl p)) (inl q) = on_first t.b t.a (zero_at_end t.a t.b k) (zero_at_start t.a t.b k) p q
    by (inr (inl p)) (inr (inl q)) = on_first t.b t.b (zero_at_end t.a t.b k) (zero_at_end t.a t.b k) p q
    by (inr (inl p)) (inr (inr q)) = on_second t.b t.c (zero_at_start t.b t.c k) (zero_at_end t.b t.c k) p q
    by (inr (inr p)) (inl q) = on_third t.c t.a (zero_at_start t.c t.a k) (zero_at_end t.c t.a k) p q
    by (inr (inr p)) (inr (inl q)) = on_second t.c t.b (zero_at_end t.b t.c k) (zero_at_start t.b t.c k) p q
    by (inr (inr p)) (inr (inr q)) = on_second t.c t.c (zero_at_end t.b t.c k) (zero_at_end t.b t.c k) p q

-- ---- what conforming triangles share
-- no inside point of a triangle lies in a common corner or on a common edge
pub inside_is_not_in_common : (t u : Tri) (x : Spot) → is_inside (face_of t) x ≡ true → IsInCommon t u x → ⊥
unfolding face_of
inside_is_not_in_common t u x h c =
    let o = c.on in let e = edge_with t c.from c.to c.common_from.first c.common_to.first in
    let m = sym (value_scaled o.factor e.plane x) ∙ ap (value_at e.plane) o.sum ∙ combination_value e.plane o.of_u o.of_v (spot_of_corner c.from) (spot_of_corner c.to) in
    let a = zero_scaled o.of_u (value_at e.plane (spot_of_corner c.from)) e.at_u in
    let b = zero_scaled o.of_v (value_at e.plane (spot_of_corner c.to)) e.at_v in
    let l = mul_pos_neg o.positive (all_negative_member x (edges_of t) e.plane (inside_parts (face_of t) x h).2 e.member) in
    omega (arith, linear, m, a, b, l)

turned_corner : {t u : Tri} {c : Corner} → IsCommonCorner t u c → IsCommonCorner u t c
turned_corner h = record { first = h.second; second = h.first }

-- triangles conform in either order
pub conform_turned : (t u : Tri) → Conform t u → Conform u t
conform_turned t u h =
    record {
      common = λ fu ft p hu ht.
          let c = h.common ft fu p ht hu in
          record { from = c.from; to = c.to; common_from = turned_corner c.common_from; common_to = turned_corner c.common_to; on = c.on };
    }
