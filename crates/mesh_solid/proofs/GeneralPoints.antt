-- Near every point there are general ones: their rays hit the planes of faces and triangles off all lines and corners.
use Rattle.std.proofs.Common.{◌≡◌, ◌≢◌, refl, sym, ap, subst, ◌∙◌, arith, ℕ, List, [], ◌∷◌, ℤ, pos, ◌*ℤ◌, neg_ℤ, ◌<ℤ◌}
use Rattle.std.specs.Bool.{⊤}
use Rattle.std.specs.List.{AllByRecursion}
use Rattle.ember_algebra.specs.Vector.{Vector, zero_v, minus_v, scale_v, dot, cross}
use Rattle.ember_algebra.specs.Large.{Eventually}
use Rattle.ember_algebra.specs.Sign.{sign}
use Rattle.ember_algebra.proofs.Laws.{linear}
use Rattle.ember_algebra.proofs.Order.{pos_mul}
use Rattle.ember_algebra.proofs.Large.{eventually_both, eventually_map}
use Rattle.ember_algebra.proofs.Ring.{◌⊕◌, ◌⊖◌, ◌⊗◌, ◌≈◌, num, neg, cancels}
use Rattle.ember_algebra.proofs.Vectors.{scalar, vector, tuple, identity, vector_identity, same_v, dotE, crossE, scaleE, minusE, ◌≈v◌, cancels_v, vector_partE, detE}
use Rattle.ember_algebra.proofs.Vectors.{square_positive}
use Rattle.ember_model.specs.declared.plane.Plane.{Plane}
use Rattle.ember_model.specs.declared.point.Spot.{Spot}
use Rattle.ember_model.specs.declared.point.Axis.{Axis}
use Rattle.ember_model.specs.declared.point.Axis.TheVariants.{X, Y}
use Rattle.ember_model.specs.Edges.{RingEdge, normal}
use Rattle.ember_model.specs.FaceFiles.{WrittenFace}
use Rattle.ember_model.specs.Faces.{size, hit}
use Rattle.ember_model.specs.Planes.{value_at, along, unit, HasNoNormal}
use Rattle.ember_model.specs.Points.{scaled, offset_by, displacement}
use Rattle.ember_model.proofs.Hits.{moved_weight}
use Rattle.ember_model.proofs.PlaneValues.{hit_flat}
use Rattle.ember_model.proofs.SignTests.{positive_nonzero, size_positive, zero_scaled}
use Rattle.ember_model.proofs.Tuples.{spot_tuple}
use Rattle.ember_model.proofs.Displacements.{displacementE}
use Rattle.ember_law.proofs.Shifted.{off_shifted, weight_shifted, eventually_true}
use Rattle.ember_law.proofs.Generic.{at_hit_of, value_at_hit, cancel_zero}
use Rattle.ember_poly.proofs.Chains.{each_map}
use Rattle.ember_poly.proofs.InsideSigns.{eventually_each}
use Rattle.ember_poly.proofs.OutlinePoints.{Ended, edge_has_end}
use Rattle.ember_meaning.specs.Closed.Chains.{face_from, IsOutlined}
use Rattle.ember_meaning.proofs.ClearCorners.{hit_course}
use Rattle.ember_meaning.proofs.ClearRectangle.{all_of}
use Rattle.ember_meaning.proofs.Displacements.{Parallel, zeroE, orthogonal_to_none}
use Rattle.ember_meaning.proofs.EdgeForm.{course_nonzero, start_on}
use Rattle.mesh_certificate.specs.Key.LineKeys.{numerators}
use Rattle.mesh_point.specs.declared.space_point.SpacePoint.{SpacePoint}
use Rattle.mesh_certificate.specs.Certificate.Facing.{spot_of}
use Rattle.mesh_solid.specs.Winding.TriangleFaces.{side_plane}
use Rattle.mesh_solid.proofs.Seen.{area, height, turn_at, side_value}
use Rattle.mesh_solid.proofs.SamePlane.{level_with}
use Rattle.mesh_solid.proofs.EdgeCount.{far, value_far, scaled_none}
use Rattle.mesh_solid.proofs.Skew.{blend, IsSkew}
use Rattle.mesh_solid.proofs.FaceCount.{planes_of, ArePairsSkew, IsGeneralHit}

-- v isn't on the plane, if this has a normal
abbrev pub IsOffPlane : Plane → Spot → Type 0
IsOffPlane h v = value_at h v ≡ pos 0 → HasNoNormal h

-- ---- a direction
abbrev origin : Spot
origin = record { x = pos 0; y = pos 0; z = pos 0; w = pos 1 }

-- a vector that is orthogonal to none of finitely many, if m is large
abbrev pub general_vector : ℕ → Vector
general_vector m = numerators (offset_by origin (pos m))

abbrev through_origin : Vector → Plane
through_origin c = record { a = c.x; b = c.y; c = c.z; d = pos 0 }

not_orthogonal : (c : Vector) → Eventually (λ m. dot c (general_vector m) ≡ pos 0 → c ≡ zero_v)
not_orthogonal c =
    eventually_map (λ m h. λ z. let n = h (value m ∙ z) in same_v n.0 n.1 n.2) (off_shifted origin (through_origin c))
  where
    value : (m : ℕ) → value_at (through_origin c) (offset_by origin (pos m)) ≡ dot c (general_vector m)
    value m =
        identity (vector ∷ tuple ∷ []) (λ c v. c.x ⊗ v.x ⊕ c.y ⊗ v.y ⊕ c.z ⊗ v.z ⊖ num (pos 0) ⊗ v.w ≈ dotE c
        (vector_partE v)) cancels c (spot_tuple (offset_by origin (pos m)))

-- the direction lies in the plane
pub level_is : (n : Plane) (q : Vector) → dot (normal n) (level_with n q) ≡ pos 0
level_is n q = identity (vector ∷ vector ∷ []) (λ n q. dotE n (crossE n q) ≈ num (pos 0)) cancels (normal n) q

-- q isn't along the normal of a plane
abbrev pub IsAcross : Vector → Plane → Type 0
IsAcross q n = normal n ≢ zero_v → level_with n q ≢ zero_v

-- in the plane n, no edge is parallel to the direction that is normal to q
abbrev pub ClimbsEach : Vector → WrittenFace → Type 0
ClimbsEach q w = AllByRecursion (λ k. value_at k.plane (far (level_with w.support q)) ≢ pos 0) w.edges

across : (n : Plane) → Eventually (λ m. IsAcross (general_vector m) n)
across n =
    eventually_map (λ m h. λ some z. some (none m h z))
    (eventually_both (not_orthogonal (cross (normal n) (unit X))) (not_orthogonal (cross (normal n) (unit Y))))
  where
    swapped : (m : ℕ) (a : Axis) → level_with n (general_vector m) ≡ zero_v → dot (cross (normal n) (unit a)) (general_vector m) ≡ pos 0
    swapped m a z =
        identity (vector ∷ vector ∷ vector ∷ []) (λ n f q. dotE (crossE n f) q ≈ neg (dotE f (crossE n q))) cancels
        (normal n) (unit a) (general_vector m) ∙ ap neg_ℤ (orthogonal_to_none (unit a) z)

    -- n × X has the entries z and -y, n × Y has x
    none : (m : ℕ) → (dot (cross (normal n) (unit X)) (general_vector m) ≡ pos 0 →
        cross (normal n) (unit X) ≡ zero_v) × (dot (cross (normal n) (unit Y)) (general_vector m) ≡ pos 0 →
        cross (normal n) (unit Y) ≡ zero_v) → level_with n (general_vector m) ≡ zero_v → normal n ≡ zero_v
    none m h z =
        let cx = h.0 (swapped m X z) in let cy = h.1 (swapped m Y z) in
        let a = ap (λ (v : Vector). v.z) cy in let b = ap (λ (v : Vector). v.z) cx in let c = ap (λ (v : Vector). v.y) cx in
        same_v (omega (arith, linear, a)) (omega (arith, linear, b)) (omega (arith, linear, c))

climbs : (w : WrittenFace) → IsOutlined w → Eventually (λ m. ClimbsEach (general_vector m) w)
climbs w line =
    eventually_each (λ k m. value_at k.plane (far (level_with w.support (general_vector m))) ≢ pos 0) w.edges
    (each_map (λ k. Ended (face_from w) k) (λ k. Eventually
    (λ m. value_at k.plane (far (level_with w.support (general_vector m))) ≢ pos 0)) w.edges edge_climbs
    (edge_has_end (face_from w) line.first.start w.edges line.round))
  where
    edge_climbs : (k : RingEdge) → Ended (face_from w) k → Eventually (λ m. value_at k.plane (far (level_with w.support (general_vector m))) ≢ pos 0)
    edge_climbs k d =
        eventually_map (λ m h. λ z. course_nonzero (face_from w) k d.end d.is (h (product m ∙ ap neg_ℤ z)))
        (not_orthogonal (cross (normal w.support) (normal k.plane)))
      where
        -- g · (n × q) is -(n × g) · q
        product : (m : ℕ) → dot (cross (normal w.support) (normal k.plane)) (general_vector m) ≡ neg_ℤ
            (value_at k.plane (far (level_with w.support (general_vector m))))
        product m =
            identity (vector ∷ vector ∷ vector ∷ []) (λ n g q. dotE (crossE n g) q ≈ neg (dotE g (crossE n q))) cancels
            (normal w.support) (normal k.plane) (general_vector m)
            ∙ ap neg_ℤ (sym (value_far k.plane (level_with w.support (general_vector m))))

-- ---- the hit of a ray
pub hit_weight : (n : Plane) (a : Axis) (p : Spot) → along n a ≢ pos 0 → pos 0 <ℤ p.w → pos 0 <ℤ (hit n a p).w
hit_weight n a p nz w = subst (λ (z : ℤ). pos 0 <ℤ z)
    (sym (moved_weight (scaled (size (along n a)) p) a (neg_ℤ (sign (along n a) *ℤ value_at n p))))
    (pos_mul (size_positive (along n a) nz) w)

-- if p is off the plane that tells g's value at the hit, g isn't 0 there unless it is parallel to n
off_hit : (g n : Plane) (a : Axis) (p : Spot) → along n a ≢ pos 0 → IsOffPlane (at_hit_of g n a) p →
    value_at g (hit n a p) ≡ pos 0 → Parallel (normal n) (normal g)
off_hit g n a p nz off z =
    let o = off (value_at_hit g n a p ∙ z) in
    let k : normal (at_hit_of g n a) ≡ zero_v = same_v o.0 o.1 o.2 in
    let e = sym (hit_course n g a) ∙ (ap (λ (v : Vector). cross (normal n) v) k
    ∙ vector_identity (vector ∷ []) (λ n. crossE n zeroE ≈v zeroE) cancels_v (normal n)) in
    scaled_none (size (along n a)) (cross (normal n) (normal g)) (positive_nonzero (size_positive (along n a) nz)) e

-- ---- heights and turns
-- the plane of the points that are level with c along e
abbrev pub level_plane : Plane → Vector → Spot → Plane
level_plane n e c =
    let k = cross (normal n) e in record { a = c.w *ℤ k.x; b = c.w *ℤ k.y; c = c.w *ℤ k.z; d = dot k (numerators c) }

level_value : (n : Plane) (e : Vector) (x c : Spot) → value_at (level_plane n e c) x ≡ neg_ℤ (height n e x c)
unfolding area
level_value n e x c =
    identity (vector ∷ vector ∷ tuple ∷ tuple ∷ []) (λ n e x c. let k = crossE n e in
    (c.w ⊗ k.x) ⊗ x.x ⊕ (c.w ⊗ k.y) ⊗ x.y ⊕ (c.w ⊗ k.z) ⊗ x.z ⊖ dotE k (vector_partE c) ⊗ x.w ≈ neg
    (detE n e (displacementE x c))) cancels (normal n) e (spot_tuple x) (spot_tuple c)

module _ (n : Plane) (a : Axis) (p : Spot) (nz : along n a ≢ pos 0) (some : normal n ≢ zero_v) where
  abbrev x : Spot
  x = hit n a p

  -- n × (n × e) is e times a negative number, where e is in the plane
  in_plane_twice : (e : Vector) → dot (normal n) e ≡ pos 0 → cross (normal n) (cross (normal n) e) ≡ zero_v → e ≡ zero_v
  in_plane_twice e level z =
      scaled_none (dot (normal n) (normal n)) e (positive_nonzero (square_positive (normal n) some))
      (vector_identity (vector ∷ vector ∷ []) (λ n e. scaleE (dotE n n) e ≈v minusE (scaleE (dotE n e) n)
      (crossE n (crossE n e))) cancels_v (normal n) e ∙ (λ i. minus_v (scale_v (level i) (normal n)) (z i))
      ∙ vector_identity (vector ∷ []) (λ n. minusE (scaleE (num (pos 0)) n) zeroE ≈v zeroE) cancels_v (normal n))

  -- a corner isn't on the ray in the plane
  pub height_nonzero : (e : Vector) (c : Spot) → pos 0 <ℤ c.w → dot (normal n) e ≡ pos 0 → e ≢ zero_v →
      IsOffPlane (at_hit_of (level_plane n e c) n a) p → height n e x c ≢ pos 0
  height_nonzero e c wc level ne off z =
      let o = off_hit (level_plane n e c) n a p nz off (level_value n e x c ∙ ap neg_ℤ z) in
      ne (in_plane_twice e level (scaled_none c.w (cross (normal n) (cross (normal n) e)) (positive_nonzero wc)
      (vector_identity (vector ∷ vector ∷ scalar ∷ []) (λ n k c. scaleE c (crossE n k) ≈v crossE n (scaleE c k))
      cancels_v (normal n) (cross (normal n) e) c.w ∙ o)))

  -- nor is the hit on the line of two different corners of the plane
  pub turn_nonzero : (u v : Spot) → pos 0 <ℤ p.w → pos 0 <ℤ u.w → dot (normal n) (displacement u v) ≡ pos 0 →
      displacement u v ≢ zero_v → IsOffPlane (at_hit_of (side_plane n u v) n a) p → turn_at n x u v ≢ pos 0
  turn_nonzero u v wp wu level different off z =
      let d = displacement u v in let wx = hit_weight n a p nz wp in
      let s : value_at (side_plane n u v) x ≡ pos 0 =
      cancel_zero x.w (value_at (side_plane n u v) x) wx
      (back (side_value n x u v) (zero_scaled u.w (turn_at n x u v) z)) in
      let o = off_hit (side_plane n u v) n a p nz off s in
      different (in_plane_twice d level (scaled_none u.w (cross (normal n) (cross (normal n) d)) (positive_nonzero wu)
      (vector_identity (vector ∷ vector ∷ scalar ∷ [])
      (λ n d u. scaleE u (crossE n (crossE n d)) ≈v minusE zeroE (crossE n (scaleE u (crossE d n)))) cancels_v
      (normal n) d u.w ∙ ap (λ (v : Vector). minus_v zero_v v) o ∙ none_minus)))
    where
      back : {y z : ℤ} → y ≡ neg_ℤ z → y ≡ pos 0 → z ≡ pos 0
      back e q = omega (arith, linear, e, q)

      none_minus : minus_v zero_v zero_v ≡ zero_v
      none_minus = same_v refl refl refl

-- ---- a face
abbrev pub AreOffPairs : Plane → Vector → Axis → Spot → List RingEdge → Type 0
AreOffPairs n e a p [] = ⊤
AreOffPairs n e a p (k ∷ es) =
    AllByRecursion (λ d. IsOffPlane (at_hit_of (blend e k.plane d.plane) n a) p) es × AreOffPairs n e a p es

-- p is off all planes that matter to the ray's hit with the face's plane
pub record IsOffFaceHits (w : WrittenFace) (a : Axis) (q : Vector) (p : Spot) : Type 0 where
  pub values : AllByRecursion (λ k. IsOffPlane (at_hit_of k.plane w.support a) p) w.edges
  pub rows : AllByRecursion (λ k. AllByRecursion
      (λ h. IsOffPlane (at_hit_of (blend (level_with w.support q) k.plane h) w.support a) p) (planes_of w.edges)) w.edges
  pub pairs : AreOffPairs w.support (level_with w.support q) a p w.edges
  pub heights : AllByRecursion (λ k. IsOffPlane (at_hit_of (level_plane w.support (level_with w.support q) k.start) w.support a) p) w.edges

off_each : {U : Type 0} (f : U → Plane) (us : List U) (p : Spot) → Eventually (λ m. AllByRecursion (λ u. IsOffPlane (f u) (offset_by p (pos m))) us)
off_each f us p =
    eventually_each (λ u m. IsOffPlane (f u) (offset_by p (pos m))) us
    (all_of (λ u. Eventually (λ m. IsOffPlane (f u) (offset_by p (pos m)))) us (λ u. off_shifted p (f u)))

off_pairs : (n : Plane) (e : Vector) (a : Axis) (p : Spot) (es : List RingEdge) → Eventually (λ m. AreOffPairs n e a (offset_by p (pos m)) es)
off_pairs n e a p [] = eventually_true (λ m. tt)
off_pairs n e a p (k ∷ es) =
    eventually_map (λ m h. (h.0, h.1)) (eventually_both (off_each (λ (d : RingEdge). at_hit_of (blend e k.plane d.plane) n a) es p) (off_pairs n e a p es))

off_face_hits : (w : WrittenFace) (a : Axis) (q : Vector) (p : Spot) → Eventually (λ m. IsOffFaceHits w a q (offset_by p (pos m)))
off_face_hits w a q p =
    let e = level_with w.support q in let n = w.support in
    eventually_map (λ m h. record { values = h.0; rows = h.1.0; pairs = h.1.1.0; heights = h.1.1.1 })
    (eventually_both (off_each (λ (k : RingEdge). at_hit_of k.plane n a) w.edges p)
    (eventually_both (eventually_each (λ k m. AllByRecursion
    (λ h. IsOffPlane (at_hit_of (blend e k.plane h) n a) (offset_by p (pos m))) (planes_of w.edges)) w.edges
    (all_of (λ k. Eventually (λ m. AllByRecursion
    (λ h. IsOffPlane (at_hit_of (blend e k.plane h) n a) (offset_by p (pos m))) (planes_of w.edges))) w.edges
    (λ k. off_each (λ (h : Plane). at_hit_of (blend e k.plane h) n a) (planes_of w.edges) p)))
    (eventually_both (off_pairs n e a p w.edges)
    (off_each (λ (k : RingEdge). at_hit_of (level_plane n e k.start) n a) w.edges p))))

-- such a point's ray has a general hit
pub general_hit : (w : WrittenFace) (a : Axis) (q : Vector) (p : Spot) → IsOutlined w → pos 0 <ℤ p.w →
    along w.support a ≢ pos 0 → normal w.support ≢ zero_v → IsAcross q w.support → ClimbsEach q w →
    IsOffFaceHits w a q p → IsGeneralHit w (level_with w.support q) (hit w.support a p)
general_hit w a q p line wp nz some across climbs off =
    record {
      weight = hit_weight n a p nz wp;
      flat = hit_flat n a p;
      level = level;
      some = some;
      values =
          both_values w.edges ends off.values climbs;
      rows =
          each_map (λ k. AllByRecursion (λ h. IsOffPlane (at_hit_of (blend e k.plane h) n a) p) (planes_of w.edges))
          (λ k. AllByRecursion (λ h. IsSkew n e x k.plane h) (planes_of w.edges)) w.edges
          (λ k r. each_map (λ h. IsOffPlane (at_hit_of (blend e k.plane h) n a) p) (λ h. IsSkew n e x k.plane h)
          (planes_of w.edges) (λ h o. skew k.plane h o) r) off.rows;
      pairs = pairs w.edges off.pairs;
      heights =
          high w.edges ends off.heights;
    }
  where
    n : Plane
    n = w.support

    e : Vector
    e = level_with w.support q

    x : Spot
    x = hit w.support a p

    ends : AllByRecursion (λ k. Ended (face_from w) k) w.edges
    ends = edge_has_end (face_from w) line.first.start w.edges line.round

    level : dot (normal n) e ≡ pos 0
    level = level_is n q

    skew : (g h : Plane) → IsOffPlane (at_hit_of (blend e g h) n a) p → IsSkew n e x g h
    skew g h o = record { skew = λ z. off_hit (blend e g h) n a p nz o z }

    pairs : (es : List RingEdge) → AreOffPairs n e a p es → ArePairsSkew n e x es
    pairs [] o = tt
    pairs (k ∷ es) o = (
      each_map (λ d. IsOffPlane (at_hit_of (blend e k.plane d.plane) n a) p) (λ d. IsSkew n e x k.plane d.plane) es
          (λ d o. skew k.plane d.plane o) o.0,
      pairs es o.1,
    )

    both_values : (es : List RingEdge) → AllByRecursion (λ k. Ended (face_from w) k) es →
        AllByRecursion (λ k. IsOffPlane (at_hit_of k.plane n a) p) es →
        AllByRecursion (λ k. value_at k.plane (far e) ≢ pos 0) es →
        AllByRecursion (λ k. (value_at k.plane x ≢ pos 0) × (value_at k.plane (far e) ≢ pos 0)) es
    both_values [] ends o c = tt
    both_values (k ∷ es) ends o c =
        (((λ z. course_nonzero (face_from w) k ends.0.end ends.0.is (off_hit k.plane n a p nz o.0 z)), c.0), both_values es ends.1 o.1 c.1)

    start_weight : (k : RingEdge) → Ended (face_from w) k → pos 0 <ℤ k.start.w
    start_weight k d = (start_on (face_from w) k d.end d.is).closed.weight

    high : (es : List RingEdge) → AllByRecursion (λ k. Ended (face_from w) k) es →
        AllByRecursion (λ k. IsOffPlane (at_hit_of (level_plane n e k.start) n a) p) es →
        AllByRecursion (λ k. height n e x k.start ≢ pos 0) es
    high [] ends o = tt
    high (k ∷ es) ends o =
        (height_nonzero n a p nz some e k.start (start_weight k ends.0) level (across some) o.0, high es ends.1 o.1)

-- ---- tables
-- the same for each plane of a table, with each corner and each two corners of one
pub record IsOffTables (ps : List Plane) (cs : List SpacePoint) (a : Axis) (q : Vector) (p : Spot) : Type 0 where
  pub heights : AllByRecursion (λ n. AllByRecursion (λ c. IsOffPlane (at_hit_of (level_plane n (level_with n q) (spot_of c)) n a) p) cs) ps
  pub sides : AllByRecursion (λ n. AllByRecursion (λ u. AllByRecursion (λ v. IsOffPlane (at_hit_of (side_plane n (spot_of u) (spot_of v)) n a) p) cs) cs) ps

off_tables : (ps : List Plane) (cs : List SpacePoint) (a : Axis) (q : Vector) (p : Spot) → Eventually (λ m. IsOffTables ps cs a q (offset_by p (pos m)))
off_tables ps cs a q p =
    eventually_map (λ m h. record { heights = h.0; sides = h.1 })
    (eventually_both (nested (λ n m. AllByRecursion
    (λ c. IsOffPlane (at_hit_of (level_plane n (level_with n q) (spot_of c)) n a) (offset_by p (pos m))) cs) ps
    (λ n. off_each (λ (c : SpacePoint). at_hit_of (level_plane n (level_with n q) (spot_of c)) n a) cs p))
    (nested (λ n m. AllByRecursion (λ u. AllByRecursion
    (λ v. IsOffPlane (at_hit_of (side_plane n (spot_of u) (spot_of v)) n a) (offset_by p (pos m))) cs) cs) ps
    (λ n. nested (λ u m. AllByRecursion (λ v. IsOffPlane (at_hit_of (side_plane n (spot_of u) (spot_of v)) n a)
    (offset_by p (pos m))) cs) cs (λ u. off_each
    (λ (v : SpacePoint). at_hit_of (side_plane n (spot_of u) (spot_of v)) n a) cs p))))
  where
    nested : {U : Type 0} (P : U → ℕ → Type 0) (us : List U) → ((u : U) → Eventually (P u)) → Eventually (λ m. AllByRecursion (λ u. P u m) us)
    nested P us f = eventually_each P us (all_of (λ u. Eventually (P u)) us f)

-- ---- all of them
-- q is a general direction for the planes and faces
pub record IsGeneralDirection (ps : List Plane) (ws : List WrittenFace) (q : Vector) : Type 0 where
  pub planes : AllByRecursion (λ n. IsAcross q n) ps
  pub supports : AllByRecursion (λ w. IsAcross q w.support) ws
  pub edges : AllByRecursion (λ w. ClimbsEach q w) ws

pub general_direction : (ps : List Plane) (ws : List WrittenFace) → AllByRecursion IsOutlined ws → Eventually (λ m. IsGeneralDirection ps ws (general_vector m))
general_direction ps ws lines =
    eventually_map (λ m h. record { planes = h.0; supports = h.1.0; edges = h.1.1 })
    (eventually_both (eventually_each (λ n m. IsAcross (general_vector m) n) ps
    (all_of (λ n. Eventually (λ m. IsAcross (general_vector m) n)) ps across))
    (eventually_both (eventually_each (λ w m. IsAcross (general_vector m) w.support) ws
    (all_of (λ w. Eventually (λ m. IsAcross (general_vector m) w.support)) ws (λ w. across w.support)))
    (eventually_each (λ w m. ClimbsEach (general_vector m) w) ws
    (each_map IsOutlined (λ w. Eventually (λ m. ClimbsEach (general_vector m) w)) ws climbs lines))))

-- and p is a general point for them
pub record IsGeneralPoint (ps : List Plane) (cs : List SpacePoint) (ws : List WrittenFace) (a : Axis) (q : Vector) (p : Spot) : Type 0 where
  pub weight : pos 0 <ℤ p.w
  pub faces : AllByRecursion (λ w. IsOffFaceHits w a q p) ws
  pub tables : IsOffTables ps cs a q p

-- shifted by little enough, every point is general
pub general_shifted : (ps : List Plane) (cs : List SpacePoint) (ws : List WrittenFace) (a : Axis) (q : Vector)
    (p : Spot) → pos 0 <ℤ p.w → Eventually (λ m. IsGeneralPoint ps cs ws a q (offset_by p (pos m)))
general_shifted ps cs ws a q p w =
    eventually_map (λ m h. record { weight = h.0; faces = h.1.0; tables = h.1.1 })
    (eventually_both (weight_shifted p w) (eventually_both
    (eventually_each (λ w m. IsOffFaceHits w a q (offset_by p (pos m))) ws
    (all_of (λ w. Eventually (λ m. IsOffFaceHits w a q (offset_by p (pos m)))) ws (λ w. off_face_hits w a q p)))
    (off_tables ps cs a q p)))
