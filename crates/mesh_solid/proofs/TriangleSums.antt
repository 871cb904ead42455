-- Proper triangles: their crossings are those of their edges, added up.
use Rattle.std.proofs.Common.{◌≡◌, ◌≢◌, ⊎_elim, refl, sym, ap, ◌∙◌, arith, nat_eq, ◌&&◌, Option, Some, None, List, []}
use Rattle.std.proofs.Common.{◌∷◌, slice_get, ℕ, ℤ, pos, ◌+ℤ◌, ◌*ℤ◌, ◌<ℤ◌}
use Rattle.std.specs.List.{All, AllByRecursion}
use Rattle.std.proofs.lemmas.Bool.{eqb-true, and_parts}
use Rattle.std.proofs.lemmas.List.Elements.{All-head, All-tail}
use lib.IntN.{zero-*ℤ}
use Rattle.ember_algebra.specs.Vector.{Vector, zero_v, dot, cross}
use Rattle.ember_algebra.specs.Sums.{total}
use Rattle.ember_algebra.proofs.Laws.{linear, *ℤ-+ℤ}
use Rattle.ember_algebra.proofs.Ring.{◌⊗◌, ◌≈◌, num, cancels}
use Rattle.ember_algebra.proofs.Sums.{total-append}
use Rattle.ember_algebra.proofs.Vectors.{scalar, vector, tuple, identity, dotE, crossE}
use Rattle.ember_model.specs.declared.plane.Plane.{Plane}
use Rattle.ember_model.specs.declared.point.Spot.{Spot}
use Rattle.ember_model.specs.declared.point.Axis.{Axis}
use Rattle.ember_model.specs.ClearTest.{all_negative}
use Rattle.ember_model.specs.Edges.{normal}
use Rattle.ember_model.specs.Faces.{hit, crossing}
use Rattle.ember_model.specs.Meshes.{wind}
use Rattle.ember_model.specs.Planes.{value_at, along}
use Rattle.ember_model.proofs.SignTests.{positive_nonzero}
use Rattle.ember_model.proofs.Tuples.{spot_tuple}
use Rattle.ember_model.specs.Points.{displacement}
use Rattle.ember_model.proofs.Displacements.{displacementE}
use Rattle.ember_law.proofs.Generic.{at_hit_of, cancel_zero}
use Rattle.ember_poly.proofs.RingOutline.{each_get}
use Rattle.ember_meaning.proofs.Displacements.{zeroE}
use Rattle.ember_meaning.proofs.EdgeForm.{flat_displacement}
use Rattle.mesh_certificate.specs.declared.certificate.segment.Segment.{Segment}
use Rattle.mesh_point.specs.declared.space_point.SpacePoint.{SpacePoint}
use Rattle.mesh_certificate.specs.declared.certificate.triangle.Triangle.{Triangle}
use Rattle.mesh_certificate.specs.Certificate.Certificate.{leads_round, is_in_one_plane, IsProper, FacesFrontOf, edges_in}
use Rattle.mesh_certificate.specs.Certificate.Facing.{spot_of, triangle_normal, FacesFront}
use Rattle.ember_meaning.specs.Regions.Meaning.{one_if}
use Rattle.mesh_solid.specs.Winding.TriangleFaces.{side_plane, face_of_points, face_if_found, faces_of_triangle, triangle_faces}
use Rattle.mesh_solid.proofs.Seen.{height, turn_at}
use Rattle.mesh_solid.proofs.SamePlane.{front_sign, level_with, ray_passing}
use Rattle.mesh_solid.proofs.TriangleCount.{IsGeneralTriangle, triangle_count}
use Rattle.mesh_solid.proofs.GeneralPoints.{IsAcross, IsOffPlane, IsOffTables, level_plane, hit_weight, height_nonzero, turn_nonzero, level_is}
use Rattle.mesh_solid.proofs.Crossings.{crossing_is, front_or_along, passing_found, passing_in, passing_of}

-- ---- different corners
-- the corners of a triangle that faces front are different
corners_differ : (n : Plane) (u v w : Spot) → pos 0 <ℤ v.w → FacesFront n u v w →
    (displacement u v ≢ zero_v) × (displacement v w ≢ zero_v) × (displacement w u ≢ zero_v)
corners_differ n u v w wv front =
    ((λ z. positive_nonzero front.front (first z)), (λ z. positive_nonzero front.front (second z)), (λ z. positive_nonzero front.front (third z)))
  where
    -- the triangle's normal by each of its sides, times the weight of the corner across
    first : displacement u v ≡ zero_v → dot (normal n) (triangle_normal u v w) ≡ pos 0
    first z =
        ap (λ (k : Vector). dot (normal n) (cross k (displacement u w))) z
        ∙ identity (vector ∷ vector ∷ []) (λ n v. dotE n (crossE zeroE v) ≈ num (pos 0)) cancels (normal n)
        (displacement u w)

    third : displacement w u ≡ zero_v → dot (normal n) (triangle_normal u v w) ≡ pos 0
    third z =
        identity (vector ∷ tuple ∷ tuple ∷ tuple ∷ [])
        (λ n u v w. dotE n (crossE (displacementE u v) (displacementE u w)) ≈ dotE n
        (crossE (displacementE w u) (displacementE u v))) cancels (normal n) (spot_tuple u) (spot_tuple v)
        (spot_tuple w) ∙ ap (λ (k : Vector). dot (normal n) (cross k (displacement u v))) z
        ∙ identity (vector ∷ vector ∷ []) (λ n v. dotE n (crossE zeroE v) ≈ num (pos 0)) cancels (normal n)
        (displacement u v)

    -- the side from v to w isn't at u: v.w * (u → v) × (u → w) is u.w * (u → v) × (v → w)
    second : displacement v w ≡ zero_v → dot (normal n) (triangle_normal u v w) ≡ pos 0
    second z =
        cancel_zero v.w (dot (normal n) (triangle_normal u v w)) wv
        (identity (vector ∷ tuple ∷ tuple ∷ tuple ∷ [])
        (λ n u v w. v.w ⊗ dotE n (crossE (displacementE u v) (displacementE u w)) ≈ u.w ⊗ dotE n
        (crossE (displacementE u v) (displacementE v w))) cancels (normal n) (spot_tuple u) (spot_tuple v)
        (spot_tuple w) ∙ (λ i. u.w *ℤ dot (normal n) (cross (displacement u v) (z i)))
        ∙ identity (scalar ∷ vector ∷ vector ∷ []) (λ a n v. a ⊗ dotE n (crossE v zeroE) ≈ num (pos 0)) cancels u.w
        (normal n) (displacement u v))

module _ (ps : List Plane) (cs : List SpacePoint) (a : Axis) (q : Vector) (p : Spot) (wp : pos 0 <ℤ p.w)
    (across : AllByRecursion (λ n. IsAcross q n) ps) (off : IsOffTables ps cs a q p) where
  -- ---- one triangle, whose plane and corners are entries of the tables
  module _ (n : Plane) (u v w : SpacePoint) (in_ : ℕ) (iu : ℕ) (iv : ℕ) (iw : ℕ) (en : slice_get ps in_ ≡ Some n)
      (eu : slice_get cs iu ≡ Some u) (ev : slice_get cs iv ≡ Some v) (ew : slice_get cs iw ≡ Some w)
      (front : FacesFront n (spot_of u) (spot_of v) (spot_of w)) where
    some : normal n ≢ zero_v
    some z = positive_nonzero front.front (normal_none (triangle_normal (spot_of u) (spot_of v) (spot_of w)) z)
      where
        normal_none : (k : Vector) → normal n ≡ zero_v → dot (normal n) k ≡ pos 0
        normal_none k z = ap (λ (v : Vector). dot v k) z ∙ (let a = zero-*ℤ k.x in let b = zero-*ℤ k.y in let c = zero-*ℤ k.z in omega (arith, linear, a, b, c))

    direction_nonzero : level_with n q ≢ zero_v
    direction_nonzero = each_get (λ n. IsAcross q n) ps in_ n across en some

    general : along n a ≢ pos 0 → IsGeneralTriangle n (level_with n q) (hit n a p) (spot_of u) (spot_of v) (spot_of w)
    general nz =
        let d = corners_differ n (spot_of u) (spot_of v) (spot_of w) v.valid.positive front in
        record {
          height_u = high u iu eu;
          height_v = high v iv ev;
          height_w = high w iw ew;
          turn_uv = turn u iu eu v iv ev front.first front.second d.0;
          turn_vw = turn v iv ev w iw ew front.second front.third d.1;
          turn_wu = turn w iw ew u iu eu front.third front.first d.2;
        }
      where
        high : (c : SpacePoint) (i : ℕ) → slice_get cs i ≡ Some c → height n (level_with n q) (hit n a p) (spot_of c) ≢ pos 0
        high c i e = height_nonzero n a p nz some (level_with n q) (spot_of c) c.valid.positive (level_is n q)
            direction_nonzero (each_get (λ c. IsOffPlane (at_hit_of (level_plane n (level_with n q) (spot_of c)) n a) p)
            cs i c (each_get (λ n. AllByRecursion (λ c. IsOffPlane
            (at_hit_of (level_plane n (level_with n q) (spot_of c)) n a) p) cs) ps in_ n off.heights en) e)

        turn : (c : SpacePoint) (i : ℕ) → slice_get cs i ≡ Some c → (d : SpacePoint) (j : ℕ) → slice_get cs j ≡ Some d →
            value_at n (spot_of c) ≡ pos 0 → value_at n (spot_of d) ≡ pos 0 →
            displacement (spot_of c) (spot_of d) ≢ zero_v → turn_at n (hit n a p) (spot_of c) (spot_of d) ≢ pos 0
        turn c i e d j f zc zd different =
            turn_nonzero n a p nz some (spot_of c) (spot_of d) wp c.valid.positive
            (flat_displacement n (spot_of c) (spot_of d) zc zd) different
            (each_get (λ v. IsOffPlane (at_hit_of (side_plane n (spot_of c) (spot_of v)) n a) p) cs j d
            (each_get (λ u. AllByRecursion (λ v. IsOffPlane (at_hit_of (side_plane n (spot_of u) (spot_of v)) n a) p)
            cs) cs i c (each_get (λ n. AllByRecursion
            (λ u. AllByRecursion (λ v. IsOffPlane (at_hit_of (side_plane n (spot_of u) (spot_of v)) n a) p) cs) cs) ps
            in_ n off.sides en) e) f)

    -- its crossing is what its sides add
    entries_count : crossing (face_of_points n (spot_of u) (spot_of v) (spot_of w)) a p ≡ front_sign n a p *ℤ
        (ray_passing n a p q (spot_of u) (spot_of v) +ℤ ray_passing n a p q (spot_of v) (spot_of w) +ℤ ray_passing n a p q
        (spot_of w) (spot_of u))
    entries_count =
        let f = face_of_points n (spot_of u) (spot_of v) (spot_of w) in
        crossing_is f a p wp ∙ ⊎_elim (λ z. (λ i. z i *ℤ one_if (all_negative f.edges (hit n a p)))
        ∙ zero-*ℤ (one_if (all_negative f.edges (hit n a p))) ∙ sym ((λ i. z i *ℤ passings) ∙ zero-*ℤ passings))
        (λ nz. ap (λ (z : ℤ). front_sign n a p *ℤ z)
        (sym (triangle_count n (level_with n q) (hit n a p) (spot_of u) (spot_of v) (spot_of w)
        (hit_weight n a p nz wp) u.valid.positive v.valid.positive w.valid.positive front (general nz))))
        (front_or_along n a p)
      where
        passings : ℤ
        passings =
            ray_passing n a p q (spot_of u) (spot_of v) +ℤ ray_passing n a p q (spot_of v) (spot_of w) +ℤ ray_passing n a p q (spot_of w) (spot_of u)

  -- ---- by what the tables have
  abbrev of_segment : Segment → ℤ
  of_segment s = passing_of ps cs a p q s

  found : (n : Option Plane) (u v w : Option SpacePoint) (in_ iu iv iw : ℕ) → slice_get ps in_ ≡ n →
      slice_get cs iu ≡ u → slice_get cs iv ≡ v → slice_get cs iw ≡ w → FacesFrontOf n u v w →
      total (λ f. crossing f a p) (face_if_found n u v w) ≡ passing_found a p q n u v +ℤ passing_found a p q n v w +ℤ
      passing_found a p q n w u
  found (Some n) (Some u) (Some v) (Some w) in_ iu iv iw en eu ev ew front =
      let e = entries_count n u v w in_ iu iv iw en eu ev ew front in
      let s = front_sign n a p in let x = ray_passing n a p q (spot_of u) (spot_of v) in let y =
      ray_passing n a p q (spot_of v) (spot_of w) in let z = ray_passing n a p q (spot_of w) (spot_of u) in
      let d = *ℤ-+ℤ s (x +ℤ y) z in let c = *ℤ-+ℤ s x y in omega (arith, linear, e, d, c)
  found None u v w in_ iu iv iw en eu ev ew front = absurd front
  found (Some n) None v w in_ iu iv iw en eu ev ew front = absurd front
  found (Some n) (Some u) None w in_ iu iv iw en eu ev ew front = absurd front
  found (Some n) (Some u) (Some v) None in_ iu iv iw en eu ev ew front = absurd front

  -- the three edges of a proper triangle
  one_triangle : (t : Triangle) → IsProper ps cs t →
      total (λ f. crossing f a p) (faces_of_triangle ps cs t) ≡ of_segment t.first +ℤ of_segment t.second +ℤ of_segment
      t.third
  one_triangle t proper =
      let r = and_parts (leads_round t) (is_in_one_plane t) proper.round in
      let l = and_parts (nat_eq t.first.end t.second.start) (nat_eq t.second.end t.third.start && nat_eq t.third.end t.first.start) r.0 in
      let m = and_parts (nat_eq t.second.end t.third.start) (nat_eq t.third.end t.first.start) l.1 in
      let b = and_parts (nat_eq t.first.plane t.second.plane) (nat_eq t.first.plane t.third.plane) r.1 in
      let e1 = eqb-true t.first.end t.second.start l.0 in let e2 = eqb-true t.second.end t.third.start m.0 in let e3 = eqb-true t.third.end t.first.start m.1 in
      let p2 = eqb-true t.first.plane t.second.plane b.0 in let p3 = eqb-true t.first.plane t.third.plane b.1 in
      found (slice_get ps t.first.plane) (slice_get cs t.first.start) (slice_get cs t.second.start)
      (slice_get cs t.third.start) t.first.plane t.first.start t.second.start t.third.start refl refl refl refl
      proper.front ∙ (λ i. passing_in ps cs a p q t.first.plane t.first.start (sym e1 i) +ℤ passing_in ps cs a p q
      (p2 i) t.second.start (sym e2 i) +ℤ passing_in ps cs a p q (p3 i) t.third.start (sym e3 i))

  -- the winding number of proper triangles is what their edges add
  pub triangles_sum : (ts : List Triangle) → All (IsProper ps cs) ts → wind a (triangle_faces ps cs ts) p ≡ total of_segment (edges_in ts)
  triangles_sum [] h = refl
  triangles_sum (t ∷ ts) h =
      let x = one_triangle t (All-head (IsProper ps cs) t ts h) in let y = triangles_sum ts (All-tail (IsProper ps cs) t ts h) in
      total-append (λ f. crossing f a p) (faces_of_triangle ps cs t) (triangle_faces ps cs ts) ∙ omega (arith, linear, x, y)
