-- The winding number of a surface's triangles on the grid, by how their corners are seen.
use Rattle.std.proofs.Common.{◌≡◌, refl, ◌∙◌, arith, Bool, true, false, not, cond, List, [], ◌∷◌, map, ℕ, ℤ, pos, ◌+ℤ◌, ◌<ℤ◌}
use Rattle.ember_algebra.specs.Sign.{sgn}
use Rattle.ember_algebra.specs.Sums.{total}
use Rattle.ember_algebra.specs.Vector.{dot, cross, det, normal}
use Rattle.ember_algebra.proofs.Laws.{linear}
use Rattle.ember_algebra.proofs.Ring.{num}
use Rattle.ember_algebra.proofs.Signs.{sum3_from}
use Rattle.ember_algebra.proofs.Vectors.{vector, tuple, vector_identity, ◌≈v◌, cancels_v, TupleE}
use Rattle.ember_model.specs.declared.point.Axis.{Axis}
use Rattle.ember_model.specs.declared.point.Corner.{Corner}
use Rattle.ember_model.specs.declared.point.Spot.{Spot}
use Rattle.ember_model.specs.declared.tri.Tri.{Tri}
use Rattle.ember_model.specs.Meshes.{same_corner, wind, faces_of}
use Rattle.ember_model.specs.Owners.{spot_of_corner}
use Rattle.ember_model.specs.Planes.{vector_of, unit}
use Rattle.ember_model.proofs.PlaneValues.{seen, seenE, tuple_of}
use Rattle.ember_model.proofs.SameEdges.{same_corner_out}
use Rattle.ember_model.proofs.SeenCrossings as model
use Rattle.ember_model.specs.Points.{displacement}
use Rattle.ember_model.proofs.Displacements.{displacementE}
use Rattle.ember_law.proofs.Axes.{wind_seen}
use Rattle.mesh_grid.specs.Grid.Images.{image, vanishes, kept, images}
use Rattle.mesh_read.specs.declared.surface.surface.Facet.{Facet}
use Rattle.mesh_written.specs.Closed.{Positions}
use Rattle.mesh_tolerance.specs.Files.{facet_indices}
use Rattle.mesh_tolerance.specs.Triangles.{with_points}
use Rattle.mesh_tolerance.proofs.KeptTriangles.{no_normal}
use Rattle.mesh_tolerance.proofs.Numbers.{one_positive}
use Rattle.mesh_tolerance.proofs.Rays.{crossing_by_turns}
use Rattle.mesh_tolerance.proofs.SeenFaces.{flat_is_not_crossed}
use Rattle.mesh_tolerance.proofs.SeenTriangles.{crossing_from}
use Rattle.mesh_tolerance.proofs.Sides.{seen_crossing}

corner_is_seen : (p : Spot) (c : Corner) → seen p c ≡ displacement p (spot_of_corner c)
corner_is_seen p c =
    vector_identity (tuple ∷ vector ∷ []) (λ p c. let there : TupleE = record { x = c.x; y = c.y; z = c.z; w = num (pos 1) } in
    seenE p c ≈v displacementE p there) cancels_v (tuple_of p) (vector_of c)

-- the crossing of a triangle of corners
abbrev triangle_of : Tri → Positions Spot
triangle_of t =
    record { a = spot_of_corner t.a; b = spot_of_corner t.b; c = spot_of_corner t.c }

triangle_is_seen : (a : Axis) (p : Spot) (t : Tri) → model.seen_crossing (unit a) p t ≡ crossing_from a p (triangle_of t)
triangle_is_seen a p t =
    let u = seen p t.a in let v = seen p t.b in let w = seen p t.c in let f = unit a in
    let x = corner_is_seen p t.a in let y = corner_is_seen p t.b in let z = corner_is_seen p t.c in
    crossing_by_turns (sgn (det u v w)) (sgn (dot f (normal u v w))) (sgn (dot f (cross u v))) (sgn (dot f (cross v w)))
    (sgn (dot f (cross w u)))
    (sum3_from (dot f (cross u v)) (dot f (cross v w)) (dot f (cross w u)) (dot f (normal u v w)) (model.sum_of u v w f))
    ∙ (λ i. seen_crossing a (x i) (y i) (z i))

none_more : (x y z : ℤ) → x ≡ pos 0 → y ≡ z → y ≡ x +ℤ z
none_more x y z e f = omega (arith, linear, e, f)

module _ (at : ℕ → Corner) (mesh : ℕ) (a : Axis) (p : Spot) (wp : pos 0 <ℤ p.w) where
  abbrev corner : ℕ → Spot
  corner n = spot_of_corner (at n)

  -- a triangle that vanishes isn't crossed
  vanished_is_not_crossed : (f : Facet) → vanishes at f ≡ true → crossing_from a p (with_points corner (facet_indices f)) ≡ pos 0
  vanished_is_not_crossed f h =
      let t = facet_indices f in
      flat_is_not_crossed a p (corner t.a) (corner t.b) (corner t.c) wp one_positive one_positive one_positive
      (no_normal same_corner same_corner_out spot_of_corner (at t.a) (at t.b) (at t.c) h)

  crossings : (fs : List Facet) →
      total (model.seen_crossing (unit a) p) (images at mesh fs) ≡ total (crossing_from a p)
      (map (with_points corner) (map facet_indices fs))
  crossings [] = refl
  crossings (f ∷ fs) = by (vanishes at f) refl (kept at fs) (crossings fs)
    where
      by : (b : Bool) → vanishes at f ≡ b → (us : List Facet) →
          total (model.seen_crossing (unit a) p) (map (image at mesh) us) ≡ total (crossing_from a p)
          (map (with_points corner) (map facet_indices fs)) →
          total (model.seen_crossing (unit a) p) (map (image at mesh) (cond (not b) (f ∷ us) us)) ≡ total
          (crossing_from a p) (map (with_points corner) (map facet_indices (f ∷ fs)))
      by true e us h =
          let z = vanished_is_not_crossed f e in
          none_more (crossing_from a p (with_points corner (facet_indices f))) _ _ z h
      by false e us h = let s = triangle_is_seen a p (image at mesh f) in λ i. s i +ℤ h i

  pub images_are_seen : (fs : List Facet) → wind a (faces_of (images at mesh fs)) p ≡ total (crossing_from a p)
      (map (with_points corner) (map facet_indices fs))
  images_are_seen fs = wind_seen a p (images at mesh fs) wp ∙ crossings fs
