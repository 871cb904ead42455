-- A triangle's edges along a direction that is not in its plane are a sound ring.
use Rattle.std.proofs.Common.{◌≡◌, refl, ℕ, [], ◌∷◌, arith, ℤ, pos, ◌*ℤ◌, neg_ℤ, ◌<ℤ◌}
use Rattle.ember_algebra.specs.Vector.{Vector}
use Rattle.ember_algebra.specs.Vector.{dot, cross}
use Rattle.ember_algebra.proofs.Laws.{linear}
use Rattle.ember_algebra.proofs.Ring.{Expr, ◌⊗◌, neg, num, ◌≈◌, cancels}
use Rattle.ember_algebra.proofs.Vectors.{scalar, vector, identity, VectorE, TupleE, dotE, crossE, minusE, valueE}
use Rattle.ember_algebra.proofs.Order.{pos_mul}
use Rattle.ember_model.specs.declared.point.Corner.{Corner}
use Rattle.ember_model.specs.declared.plane.Plane.{Plane}
use Rattle.ember_model.specs.Planes.{value_at, vector_of, vector_between, plane_through, times_plane, edge_through}
use Rattle.ember_model.specs.Owners.{spot_of_corner}
use Rattle.ember_model.proofs.PlaneValues.{throughE}
use Rattle.ember_model.proofs.Tuples.{cornerE}
use Rattle.ember_poly.specs.Rings.{Side, IsBelow, IsCornerOf, IsConvexRing, Represents, orientation}
use Rattle.ember_poly.proofs.Planar.{turnE}

abbrev pub normal_of : Corner → Corner → Corner → Vector
normal_of u v w = cross (vector_between u v) (vector_between u w)

abbrev pub support_plane : Corner → Corner → Corner → Plane
support_plane u v w = plane_through (normal_of u v w) u

-- the plane of the edge from u to v along f, s times
abbrev pub edge_along : ℤ → Vector → Corner → Corner → Plane
edge_along s f u v = times_plane s (edge_through u v f)

abbrev pub side_along : ℤ → Vector → Corner → Corner → ℕ → Side
side_along s f u v b = record { plane = edge_along s f u v; corner = spot_of_corner u; plane_index = b }

abbrev timesE : Expr → TupleE → TupleE
timesE s p = record { x = s ⊗ p.x; y = s ⊗ p.y; z = s ⊗ p.z; w = s ⊗ p.w }

abbrev normalOfE : VectorE → VectorE → VectorE → VectorE
normalOfE u v w = crossE (minusE v u) (minusE w u)

abbrev supportE : VectorE → VectorE → VectorE → TupleE
supportE u v w = throughE (normalOfE u v w) u

abbrev edgeE : Expr → VectorE → VectorE → VectorE → TupleE
edgeE s f u v = timesE s (throughE (crossE (minusE v u) f) u)

module _ (s : ℤ) (f : Vector) (u v w : Corner) where
  abbrev size : ℤ
  size = s *ℤ dot (normal_of u v w) f

  flat_u : value_at (support_plane u v w) (spot_of_corner u) ≡ pos 0
  flat_u =
      identity (vector ∷ vector ∷ vector ∷ []) (λ u v w. valueE (supportE u v w) (cornerE u) ≈ num (pos 0)) cancels (vector_of u) (vector_of v) (vector_of w)

  flat_v : value_at (support_plane u v w) (spot_of_corner v) ≡ pos 0
  flat_v =
      identity (vector ∷ vector ∷ vector ∷ []) (λ u v w. valueE (supportE u v w) (cornerE v) ≈ num (pos 0)) cancels (vector_of u) (vector_of v) (vector_of w)

  flat_w : value_at (support_plane u v w) (spot_of_corner w) ≡ pos 0
  flat_w =
      identity (vector ∷ vector ∷ vector ∷ []) (λ u v w. valueE (supportE u v w) (cornerE w) ≈ num (pos 0)) cancels (vector_of u) (vector_of v) (vector_of w)

  starts : value_at (edge_along s f u v) (spot_of_corner u) ≡ pos 0
  starts =
      identity (scalar ∷ vector ∷ vector ∷ vector ∷ []) (λ s f u v. valueE (edgeE s f u v) (cornerE u) ≈ num (pos 0)) cancels s f (vector_of u) (vector_of v)

  ends : value_at (edge_along s f u v) (spot_of_corner v) ≡ pos 0
  ends =
      identity (scalar ∷ vector ∷ vector ∷ vector ∷ []) (λ s f u v. valueE (edgeE s f u v) (cornerE v) ≈ num (pos 0)) cancels s f (vector_of u) (vector_of v)

  opposite_uv : value_at (edge_along s f u v) (spot_of_corner w) ≡ neg_ℤ size
  opposite_uv =
      identity (scalar ∷ vector ∷ vector ∷ vector ∷ vector ∷ [])
      (λ s f u v w. valueE (edgeE s f u v) (cornerE w) ≈ neg (s ⊗ dotE (normalOfE u v w) f)) cancels s f (vector_of u)
      (vector_of v) (vector_of w)

  opposite_vw : value_at (edge_along s f v w) (spot_of_corner u) ≡ neg_ℤ size
  opposite_vw =
      identity (scalar ∷ vector ∷ vector ∷ vector ∷ vector ∷ [])
      (λ s f u v w. valueE (edgeE s f v w) (cornerE u) ≈ neg (s ⊗ dotE (normalOfE u v w) f)) cancels s f (vector_of u)
      (vector_of v) (vector_of w)

  opposite_wu : value_at (edge_along s f w u) (spot_of_corner v) ≡ neg_ℤ size
  opposite_wu =
      identity (scalar ∷ vector ∷ vector ∷ vector ∷ vector ∷ [])
      (λ s f u v w. valueE (edgeE s f w u) (cornerE v) ≈ neg (s ⊗ dotE (normalOfE u v w) f)) cancels s f (vector_of u)
      (vector_of v) (vector_of w)

  turn_v : orientation (support_plane u v w) (edge_along s f u v) (edge_along s f v w) ≡ size *ℤ size
  turn_v =
      identity (scalar ∷ vector ∷ vector ∷ vector ∷ vector ∷ [])
      (λ s f u v w. turnE (supportE u v w) (edgeE s f u v) (edgeE s f v w) ≈ (s ⊗ dotE (normalOfE u v w) f) ⊗
      (s ⊗ dotE (normalOfE u v w) f)) cancels s f (vector_of u) (vector_of v) (vector_of w)

  turn_w : orientation (support_plane u v w) (edge_along s f v w) (edge_along s f w u) ≡ size *ℤ size
  turn_w =
      identity (scalar ∷ vector ∷ vector ∷ vector ∷ vector ∷ [])
      (λ s f u v w. turnE (supportE u v w) (edgeE s f v w) (edgeE s f w u) ≈ (s ⊗ dotE (normalOfE u v w) f) ⊗
      (s ⊗ dotE (normalOfE u v w) f)) cancels s f (vector_of u) (vector_of v) (vector_of w)

  turn_u : orientation (support_plane u v w) (edge_along s f w u) (edge_along s f u v) ≡ size *ℤ size
  turn_u =
      identity (scalar ∷ vector ∷ vector ∷ vector ∷ vector ∷ [])
      (λ s f u v w. turnE (supportE u v w) (edgeE s f w u) (edgeE s f u v) ≈ (s ⊗ dotE (normalOfE u v w) f) ⊗
      (s ⊗ dotE (normalOfE u v w) f)) cancels s f (vector_of u) (vector_of v) (vector_of w)

negative : {a b : ℤ} → pos 0 <ℤ b → a ≡ neg_ℤ b → a <ℤ pos 0
negative p e = omega (arith, linear, p, e)

square : {a b : ℤ} → pos 0 <ℤ b → a ≡ b *ℤ b → pos 0 <ℤ a
square p e = rw e (pos_mul p p)

one : pos 0 <ℤ pos 1
one = omega (arith, linear)

-- the three edges of a triangle_is_convex_ring, if s times the normal's product with f is positive
triangle_is_convex_ring : (s : ℤ) (f : Vector) (u v w : Corner) → pos 0 <ℤ (s *ℤ dot (normal_of u v w) f) →
    IsConvexRing (support_plane u v w) (side_along s f u v 0 ∷ side_along s f v w 1 ∷ side_along s f w u 2 ∷ [])
triangle_is_convex_ring s f u v w p =
    let at_u : IsCornerOf (support_plane u v w) (edge_along s f w u) (side_along s f u v 0) =
    record {
      flat = flat_u s f u v w;
      weight = one;
      before = ends s f w u v;
      after = starts s f u v w;
      turns =
          square p (turn_u s f u v w);
    } in
    let at_v : IsCornerOf (support_plane u v w) (edge_along s f u v) (side_along s f v w 1) =
    record {
      flat = flat_v s f u v w;
      weight = one;
      before = ends s f u v w;
      after = starts s f v w u;
      turns =
          square p (turn_v s f u v w);
    } in
    let at_w : IsCornerOf (support_plane u v w) (edge_along s f v w) (side_along s f w u 2) =
    record {
      flat = flat_w s f u v w;
      weight = one;
      before = ends s f v w u;
      after = starts s f w u v;
      turns =
          square p (turn_w s f u v w);
    } in
    let uv : IsBelow (edge_along s f u v) (spot_of_corner w) = record { under = negative p (opposite_uv s f u v w) } in
    let vw : IsBelow (edge_along s f v w) (spot_of_corner u) = record { under = negative p (opposite_vw s f u v w) } in
    let wu : IsBelow (edge_along s f w u) (spot_of_corner v) = record { under = negative p (opposite_wu s f u v w) } in
    (tt, (at_v, (uv, tt), (wu, tt), (at_w, tt, tt, tt)), (at_w, (vw, tt), (uv, tt), (at_u, tt, tt, tt)))

-- the three edge planes along a direction, with the triangle's corners, are a ring
pub triangle_stands : (s : ℤ) (f : Vector) (u v w : Corner) → pos 0 <ℤ (s *ℤ dot (normal_of u v w) f) →
    Represents (support_plane u v w) (edge_along s f u v ∷ edge_along s f v w ∷ edge_along s f w u ∷ [])
    (side_along s f u v 0 ∷ side_along s f v w 1 ∷ side_along s f w u 2 ∷ [])
triangle_stands s f u v w p =
    record {
      sound = triangle_is_convex_ring s f u v w p;
      listed = (record { index = omega arith; here = refl }, (record { index = omega arith; here = refl }, (record { index = omega arith; here = refl }, tt)));
      follow = λ x i. i.within;
      follow_closed = λ x i. i.within;
    }
