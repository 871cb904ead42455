-- A point that passes the test at each triangle is clear of all faces.
use Rattle.std.proofs.Common.{◌≡◌, ℕ, Bool, true, false, not, cond, List, [], ◌∷◌, map, filter, pos, ◌<ℤ◌, refl}
use Rattle.std.specs.List.{AllByRecursion, list_all}
use Rattle.std.proofs.lemmas.Bool.{and_parts}
use Rattle.ember_model.specs.declared.point.Axis.{Axis}
use Rattle.ember_model.specs.declared.point.Spot.{Spot}
use Rattle.ember_model.specs.declared.tri.Tri.{Tri}
use Rattle.ember_model.specs.Clear.{AreClear, IsClear, IsClearOf}
use Rattle.ember_model.specs.ClearTest.{is_clear_of}
use Rattle.ember_model.specs.Faces.{face_of, is_flat}
use Rattle.ember_model.specs.Meshes.{IsScene, faces_of, vector}
use Rattle.ember_model.proofs.ClearPoints.{clear_of_from}
use Rattle.ember_law.proofs.Vectors.{axes_law}

-- if a point passes the test for all triangles, it is clear of their faces
pub clear_faces : (tris : List Tri) (p : Spot) → pos 0 <ℤ p.w → list_all (λ t. is_clear_of t p) tris ≡ true → AreClear (faces_of tris) p
clear_faces [] p w e = tt
clear_faces (t ∷ ts) p w e =
    let q = and_parts (is_clear_of t p) (list_all (λ t. is_clear_of t p) ts) e in by (is_flat t) refl (clear_of_from t p w q.0) (clear_faces ts p w q.1)
  where
    by : (b : Bool) → is_flat t ≡ b → IsClearOf t p → AreClear (faces_of ts) p →
        AllByRecursion (λ f. IsClear f p) (map face_of
        (cond (not b) (t ∷ filter (λ t. not (is_flat t)) ts) (filter (λ t. not (is_flat t)) ts)))
    by true e c r = r
    by false e c r = (c e, r)

-- at a point that is clear of the scene, the winding numbers are the same along all axes
pub same_along : (tris : List Tri) (n : ℕ) → IsScene tris n → (p : Spot) → pos 0 <ℤ p.w →
    list_all (λ t. is_clear_of t p) tris ≡ true → (a b : Axis) → vector a tris p ≡ vector b tris p
same_along tris n s p w e a b = axes_law tris n s p a b w (clear_faces tris p w e)
