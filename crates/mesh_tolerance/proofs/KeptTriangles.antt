-- Triangles that vanish have no faces: so the triangles that are kept have those of all of them.
use Rattle.std.proofs.Common.{◌≡◌, ◌⊎◌, inl, inr, refl, sym, ap, ◌∙◌, Bool, true, false, not, ◌||◌, cond, List, [], ◌∷◌, map, filter, ℕ}
use Rattle.std.proofs.lemmas.Bool.{or_cases}
use Rattle.ember_algebra.specs.Vector.{zero_v}
use Rattle.ember_algebra.proofs.Vectors.{tuple, vector_identity, ◌≈v◌, cancels_v, crossE}
use Rattle.ember_model.specs.declared.face.Face.{Face}
use Rattle.ember_model.specs.declared.plane.Plane.{Plane}
use Rattle.ember_model.specs.declared.point.Spot.{Spot}
use Rattle.ember_model.proofs.Tuples.{spot_tuple}
use Rattle.ember_model.proofs.Displacements.{displacementE}
use Rattle.ember_meaning.proofs.Displacements.{zeroE, zero_vector_in}
use Rattle.mesh_certificate.specs.declared.certificate.triangle.Triangle.{Triangle}
use Rattle.mesh_certificate.specs.Certificate.Facing.{triangle_normal}
use Rattle.mesh_write.specs.declared.stl.triangle.FloatPoint.{FloatPoint}
use Rattle.mesh_write.specs.declared.vertices.point.DecimalPoint.{DecimalPoint}
use Rattle.mesh_write.specs.Vertices.Vertices as vertices
use Rattle.mesh_write.proofs.VertexLists.{same_point_decides}
use Rattle.mesh_written.specs.Closed.{Positions, positions_of, decimal_positions}
use Rattle.mesh_written.specs.DecimalTriangles as decimals
use Rattle.mesh_written.specs.Triangles.{point_at, triangle_at, same_point, vanishes, kept}
use Rattle.mesh_written.proofs.WrittenClosed.{one_point}
use Rattle.mesh_tolerance.specs.Files.{point_of_floats, point_of_decimals, triangles_of_floats, triangles_of_decimals}
use Rattle.mesh_tolerance.specs.Meshes.{moved_triangles}
use Rattle.mesh_tolerance.specs.Triangles.{has_no_area, face_of_corners, faces_of_triangles, with_points}

-- ---- two equal corners
no_area_first : (u v : Spot) → triangle_normal u u v ≡ zero_v
no_area_first u v =
    vector_identity (tuple ∷ tuple ∷ []) (λ u v. crossE (displacementE u u) (displacementE u v) ≈v zeroE) cancels_v
    (spot_tuple u) (spot_tuple v)

no_area_second : (u v : Spot) → triangle_normal u v v ≡ zero_v
no_area_second u v =
    vector_identity (tuple ∷ tuple ∷ []) (λ u v. crossE (displacementE u v) (displacementE u v) ≈v zeroE) cancels_v
    (spot_tuple u) (spot_tuple v)

no_area_third : (u v : Spot) → triangle_normal u v u ≡ zero_v
no_area_third u v =
    vector_identity (tuple ∷ tuple ∷ []) (λ u v. crossE (displacementE u v) (displacementE u u) ≈v zeroE) cancels_v
    (spot_tuple u) (spot_tuple v)

-- corners by positions, of which two are equal: they have no area
module _ {P : Type 0} (same : P → P → Bool) (sound : (x y : P) → same x y ≡ true → x ≡ y) (point : P → Spot) where
  pub no_normal : (a b c : P) → (same a b || (same b c || same c a)) ≡ true →
      triangle_normal (point a) (point b) (point c) ≡ zero_v
  no_normal a b c h = first (or_cases (same a b) (same b c || same c a) h)
    where
      second : (same b c ≡ true) ⊎ (same c a ≡ true) → triangle_normal (point a) (point b) (point c) ≡ zero_v
      second (inl e) =
          ap (λ (x : P). triangle_normal (point a) (point b) (point x)) (sym (sound b c e)) ∙ no_area_second (point a) (point b)
      second (inr e) =
          ap (λ (x : P). triangle_normal (point a) (point b) (point x)) (sound c a e) ∙ no_area_third (point a) (point b)

      first : (same a b ≡ true) ⊎ ((same b c || same c a) ≡ true) → triangle_normal (point a) (point b) (point c) ≡ zero_v
      first (inl e) =
          ap (λ (x : P). triangle_normal (point x) (point b) (point c)) (sound a b e) ∙ no_area_first (point b) (point c)
      first (inr e) = second (or_cases (same b c) (same c a) e)

-- ---- lists
-- without those that are gone, which have no area, the triangles have the same faces
module _ {T : Type 0} (points : T → Positions Spot) (gone : T → Bool)
    (flat : (t : T) → gone t ≡ true → has_no_area (points t) ≡ true) where
  pub same_faces : (ts : List T) → faces_of_triangles (map points (filter (λ t. not (gone t)) ts)) ≡ faces_of_triangles (map points ts)
  same_faces [] = refl
  same_faces (t ∷ ts) =
      by (gone t) refl (filter (λ t. not (gone t)) ts) (same_faces ts)
    where
      faces : List T → List Face
      faces us = faces_of_triangles (map points us)

      both : (b : Bool) (fs gs : List Face) → fs ≡ gs →
          cond (not b) (face_of_corners (points t) ∷ fs) fs ≡ cond (not b) (face_of_corners (points t) ∷ gs) gs
      both b fs gs e = λ i. cond (not b) (face_of_corners (points t) ∷ e i) (e i)

      -- the faces with those of one triangle more
      more : (us : List T) → faces (t ∷ us) ≡ cond (not (has_no_area (points t))) (face_of_corners (points t) ∷ faces us) (faces us)
      more us = split (has_no_area (points t))
        where
          split : (b : Bool) →
              map face_of_corners (cond (not b) (points t ∷ filter (λ t. not (has_no_area t)) (map points us))
              (filter (λ t. not (has_no_area t)) (map points us))) ≡ cond (not b)
              (face_of_corners (points t) ∷ faces us) (faces us)
          split true = refl
          split false = refl

      by : (b : Bool) → gone t ≡ b → (us : List T) → faces us ≡ faces ts → faces (cond (not b) (t ∷ us) us) ≡ faces (t ∷ ts)
      by true e us h =
          h ∙ sym (more ts ∙ ap (λ (b : Bool). cond (not b) (face_of_corners (points t) ∷ faces ts) (faces ts)) (flat t e))
      by false e us h = more us ∙ both (has_no_area (points t)) (faces us) (faces ts) h ∙ sym (more ts)

-- ---- written triangles
module _ (planes : List Plane) (ps : List FloatPoint) where
  pub float_faces : (ts : List Triangle) → faces_of_triangles (triangles_of_floats (kept (map (triangle_at planes ps) ts))) ≡ faces_of_triangles
      (moved_triangles (λ n. point_of_floats (point_at ps n)) ts)
  float_faces ts =
      same_faces (λ w. with_points point_of_floats (positions_of w)) vanishes
      (λ w h. zero_vector_in (no_normal same_point one_point point_of_floats w.a w.b w.c h)) (map (triangle_at planes ps) ts)
      ∙ ap faces_of_triangles (all ts)
    where
      all : (ts : List Triangle) → triangles_of_floats (map (triangle_at planes ps) ts) ≡ moved_triangles (λ n. point_of_floats (point_at ps n)) ts
      all [] = refl
      all (t ∷ ts) =
          ap (λ (us : List (Positions Spot)). with_points point_of_floats (positions_of (triangle_at planes ps t)) ∷ us) (all ts)

one_decimal_point : (p q : DecimalPoint) → vertices.same_point p q ≡ true → p ≡ q
one_decimal_point p q e = (same_point_decides p q).0 e

module _ (places : ℕ) (ps : List DecimalPoint) where
  pub decimal_faces : (ts : List Triangle) →
      faces_of_triangles (triangles_of_decimals places (map (decimals.triangle_at ps) (decimals.kept ps ts))) ≡ faces_of_triangles
      (moved_triangles (λ n. point_of_decimals places (vertices.point_at ps n)) ts)
  decimal_faces ts =
      ap faces_of_triangles (all (decimals.kept ps ts))
      ∙ same_faces (λ t. with_points (point_of_decimals places) (decimal_positions (decimals.triangle_at ps t)))
      (λ t. decimals.vanishes (decimals.triangle_at ps t))
      (λ t h. let u = decimals.triangle_at ps t in
      zero_vector_in (no_normal vertices.same_point one_decimal_point (point_of_decimals places) u.a u.b u.c h)) ts
      ∙ ap faces_of_triangles (every ts)
    where
      all : (ts : List Triangle) → triangles_of_decimals places (map (decimals.triangle_at ps) ts) ≡ map
          (λ t. with_points (point_of_decimals places) (decimal_positions (decimals.triangle_at ps t))) ts
      all [] = refl
      all (t ∷ ts) =
          ap (λ (us : List (Positions Spot)).
          with_points (point_of_decimals places) (decimal_positions (decimals.triangle_at ps t)) ∷ us) (all ts)

      every : (ts : List Triangle) →
          map (λ t. with_points (point_of_decimals places) (decimal_positions (decimals.triangle_at ps t))) ts ≡ moved_triangles
          (λ n. point_of_decimals places (vertices.point_at ps n)) ts
      every [] = refl
      every (t ∷ ts) =
          ap (λ (us : List (Positions Spot)).
          with_points (point_of_decimals places) (decimal_positions (decimals.triangle_at ps t)) ∷ us) (every ts)
