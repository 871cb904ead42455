-- The winding number of certified triangles, by how their corners are seen; and what changes its sign with the direction
-- of an edge cancels over them.
use Rattle.std.proofs.Common.{◌≡◌, refl, sym, ◌∙◌, arith, true, Option, Some, None, List, [], ◌∷◌, map, slice_get, nat_eq, ◌&&◌, ℕ, ℤ, pos, ◌+ℤ◌, ◌<ℤ◌}
use Rattle.std.specs.List.{All}
use Rattle.std.proofs.lemmas.Bool.{eqb-true, and_parts}
use Rattle.std.proofs.lemmas.List.Elements.{All-head, All-tail}
use Rattle.ember_algebra.specs.Sums.{total}
use Rattle.ember_algebra.proofs.Laws.{linear}
use Rattle.ember_algebra.proofs.Sums.{total-append}
use Rattle.ember_model.specs.declared.plane.Plane.{Plane}
use Rattle.ember_model.specs.declared.point.Axis.{Axis}
use Rattle.ember_model.specs.declared.point.Spot.{Spot}
use Rattle.ember_model.specs.Faces.{crossing}
use Rattle.ember_model.specs.Meshes.{wind}
use Rattle.mesh_point.specs.declared.space_point.SpacePoint.{SpacePoint}
use Rattle.mesh_certificate.specs.declared.certificate.triangle.Triangle.{Triangle}
use Rattle.mesh_certificate.specs.Certificate.Certificate.{leads_round, is_in_one_plane, FacesFrontOf, IsProper, edges_in}
use Rattle.mesh_certificate.specs.Certificate.Closed.{AreSegmentsClosed}
use Rattle.mesh_certificate.specs.Certificate.Facing.{spot_of}
use Rattle.mesh_certificate.proofs.Cancels.{closed_cancels}
use Rattle.mesh_solid.specs.Winding.TriangleFaces.{face_if_found, faces_of_triangle, triangle_faces}
use Rattle.mesh_tolerance.specs.Meshes.{numbers_of, corner_from, exact_triangles}
use Rattle.mesh_tolerance.proofs.MovedTriangles.{around, HaveNoOddSum}
use Rattle.mesh_tolerance.proofs.SeenFaces.{face_is_seen}
use Rattle.mesh_tolerance.proofs.SeenTriangles.{crossing_from}

-- ---- winding numbers
module _ (ps : List Plane) (cs : List SpacePoint) (a : Axis) (p : Spot) (wp : pos 0 <ℤ p.w) where
  found : (n : Option Plane) (u v w : Option SpacePoint) → FacesFrontOf n u v w →
      total (λ f. crossing f a p) (face_if_found n u v w) ≡ crossing_from a p (record {
        a = corner_from u;
        b = corner_from v;
        c = corner_from w;
      })
  found (Some n) (Some u) (Some v) (Some w) front =
      let e = face_is_seen a p (spot_of u) (spot_of v) (spot_of w) wp u.valid.positive v.valid.positive w.valid.positive n
      front in omega (arith, linear, e)
  found None u v w front = absurd front
  found (Some n) None v w front = absurd front
  found (Some n) (Some u) None w front = absurd front
  found (Some n) (Some u) (Some v) None front = absurd front

  pub mesh_is_seen : (ts : List Triangle) → All (IsProper ps cs) ts →
      wind a (triangle_faces ps cs ts) p ≡ total (crossing_from a p) (exact_triangles cs ts)
  mesh_is_seen [] h = refl
  mesh_is_seen (t ∷ ts) h =
      let proper = All-head (IsProper ps cs) t ts h in
      let x = found (slice_get ps t.first.plane) (slice_get cs t.first.start) (slice_get cs t.second.start)
      (slice_get cs t.third.start) proper.front in
      let y = mesh_is_seen ts (All-tail (IsProper ps cs) t ts h) in
      total-append (λ f. crossing f a p) (faces_of_triangle ps cs t) (triangle_faces ps cs ts) ∙ (λ i. x i +ℤ y i)

-- ---- closed
module _ (ps : List Plane) (cs : List SpacePoint) (f : ℕ → ℕ → ℤ) where
  -- the edges of a triangle lead round its corners
  edges_lead_round : (t : Triangle) → leads_round t ≡ true →
      f t.first.start t.first.end +ℤ f t.second.start t.second.end +ℤ f t.third.start t.third.end ≡ around f (numbers_of t)
  edges_lead_round t h =
      let r = and_parts (nat_eq t.first.end t.second.start) (nat_eq t.second.end t.third.start && nat_eq t.third.end t.first.start) h in
      let s = and_parts (nat_eq t.second.end t.third.start) (nat_eq t.third.end t.first.start) r.1 in
      let x = eqb-true t.first.end t.second.start r.0 in let y = eqb-true t.second.end t.third.start s.0 in
      let z = eqb-true t.third.end t.first.start s.1 in
      λ i. f t.first.start (x i) +ℤ f t.second.start (y i) +ℤ f t.third.start (z i)

  edges_add : (ts : List Triangle) → All (IsProper ps cs) ts →
      total (λ s. f s.start s.end) (edges_in ts) ≡ total (around f) (map numbers_of ts)
  edges_add [] h = refl
  edges_add (t ∷ ts) h =
      let proper = All-head (IsProper ps cs) t ts h in
      let e = edges_lead_round t (and_parts (leads_round t) (is_in_one_plane t) proper.round).0 in
      let r = edges_add ts (All-tail (IsProper ps cs) t ts h) in
      grouped (f t.first.start t.first.end) (f t.second.start t.second.end) (f t.third.start t.third.end)
      (total (λ s. f s.start s.end) (edges_in ts)) (around f (numbers_of t)) (total (around f) (map numbers_of ts)) e r
    where
      grouped : (x y z s g r : ℤ) → x +ℤ y +ℤ z ≡ g → s ≡ r → x +ℤ (y +ℤ (z +ℤ s)) ≡ g +ℤ r
      grouped x y z s g r e h = omega (arith, linear, e, h)

pub mesh_has_no_odd_sum : (ps : List Plane) (cs : List SpacePoint) (ts : List Triangle) → All (IsProper ps cs) ts →
    AreSegmentsClosed (edges_in ts) → HaveNoOddSum (map numbers_of ts)
mesh_has_no_odd_sum ps cs ts proper closed = record {
  cancels = λ f odd. sym (edges_add ps cs f ts proper) ∙ closed_cancels f odd (edges_in ts) closed;
}
